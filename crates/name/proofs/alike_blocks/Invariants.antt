use Rattle.std.proofs.Common.{◌*◌}
use Rattle.name.specs.Rows.{Alike}
use Rattle.name.proofs.alike_blocks.Given as goal

abbrev pub invariant-loop-block : goal.invariant-loop-block
invariant-loop-block l = Alike l.name l.at l.start l.size (32 * l.block)
