use Rattle.std.proofs.lemmas.Result.{err_from_is_err_and}
use Rattle.closure.proofs.Requests.{asking_start, asking_more, asking_no}
use Rattle.closure.proofs.number_all.Goals as goal

pub loop-id-init : goal.loop-id-init
loop-id-init c = asking_start _ _ _ c.requires.1

pub loop-id-preserved : goal.loop-id-preserved
loop-id-preserved c =
    let asked = rw c.from.ensures at c.in_ok-count.ensures in
    asking_more _ _ _ _ _ _ c.loop-id.invariant c.loop-id-test.true _ _ asked c.ask.auto.s

pub returns-in_err-count : goal.returns-in_err-count
returns-in_err-count c =
    let p = err_from_is_err_and c.from_residual.result c.from_residual.ensures.1 in
    let asked = rw c.from.ensures at c.in_err-count.ensures in
    rw (p.1, p.2) (asking_no _ _ _ _ _ _ c.loop-id.invariant c.loop-id-test.true _ _ asked)
