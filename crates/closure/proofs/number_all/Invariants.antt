-- The requests asked so far made the roster, and the others asked of it give the whole.
use Rattle.closure.proofs.Requests.{Asking}
use Rattle.closure.proofs.number_all.Given as goal

abbrev pub invariant-loop-id : goal.invariant-loop-id
invariant-loop-id l = Asking l.n l.ids l.initial.s l.s l.count l.id-index
