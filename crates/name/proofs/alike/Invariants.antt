use Rattle.std.proofs.Common.{◌*◌}
use Rattle.name.specs.Rows.{Alike}
use Rattle.name.proofs.alike.Given as goal

abbrev pub invariant-loop-word : goal.invariant-loop-word
invariant-loop-word l = Alike l.name l.at l.start l.size (8 * l.word)
