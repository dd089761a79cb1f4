-- The invariant: out holds the bytes of the glyphs so far, and `at` is behind them.
use mathlib.Core.Path.{◌≡◌}
use mathlib.Core.List.{flat_map}
use lib.ListN.{length, take}
use Rattle.model.specs.Bytes.{over}
use Rattle.post.specs.Post.{name_bytes}
use Rattle.post.proofs.write_names.Given as goal

abbrev pub invariant-loop-j : goal.invariant-loop-j
invariant-loop-j l = (l.at ≡ length (flat_map (name_bytes l.post) (take l.j l.ids))) × (l.out ≡ over (flat_map (name_bytes l.post) (take l.j l.ids)) l.initial.out)
