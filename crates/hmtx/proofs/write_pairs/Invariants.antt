-- `hmtx::write_pairs` meets its contract: a turn writes one more record of 4 bytes behind those of the first i glyphs.
use Rattle.std.proofs.Common.{◌≡◌, take}
use mathlib.Core.List.{flat_map}
use Rattle.model.specs.Bytes.{over}
use Rattle.hmtx.proofs.Written.{pair_bytes}
use Rattle.hmtx.proofs.write_pairs.Given as goal

abbrev pub invariant-loop-i : goal.invariant-loop-i
invariant-loop-i l = l.out ≡ over (flat_map (pair_bytes l.hmtx l.c) (take l.i l.roster)) l.initial.out
