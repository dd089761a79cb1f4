-- The first k bytes of both are equal.
use Rattle.name.specs.Rows.{Alike}
use Rattle.name.proofs.same_short.Given as goal

abbrev pub invariant-loop-k : goal.invariant-loop-k
invariant-loop-k l = Alike l.name l.at l.start l.size l.k
