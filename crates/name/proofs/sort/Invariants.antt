-- The first k numbers are in order; the next one's string differs from theirs, so that it has a place among them.
use Rattle.name.specs.Rows.{Ordered}
use Rattle.name.proofs.sort.Given as goal

abbrev pub invariant-loop-k : goal.invariant-loop-k
invariant-loop-k l = Ordered l.name l.firsts l.order l.k
