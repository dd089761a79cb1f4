-- By what step 1 says.
use Rattle.std.proofs.lemmas.Result.{err_from_is_err_and}
use Rattle.face.proofs.Gather.{start-refuses, starts-at}
use Rattle.face.proofs.open.Goals as goal

pub returns-in_err-at : goal.returns-in_err-at
returns-in_err-at c =
    let a = c.args in
    let p = err_from_is_err_and c.from_residual.result c.from_residual.ensures.1 in
    rw (p.1, p.2) (start-refuses a.font.now a.index _ c.in_err-at.ensures)

pub returns : goal.returns
returns c =
    let a = c.args in
    starts-at a.font.now a.index _ _ c.in_ok-at.ensures c.open_at.ensures
