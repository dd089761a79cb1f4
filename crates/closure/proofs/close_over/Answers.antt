-- The start, the requests and all turns are the walk by moving to the top, and that is the walk.
use Rattle.std.proofs.lemmas.Result.{err_from_is_err_and}
use Rattle.closure.proofs.Final.{over-none, started_walks, over-no, over-run}
use Rattle.closure.proofs.close_over.Goals as goal

pub returns-then-n-eq0 : goal.returns-then-n-eq0
returns-then-n-eq0 c = over-none _ _ _ _ _ c.requires.0 c.if-n-eq0.true _

pub number_all-requires : goal.number_all-requires
number_all-requires c = let h = c.requires in (h.0, started_walks _ _ _ c.if-n-eq0.false h.0 h.1 c.start.ensures)

pub returns-in_err-count : goal.returns-in_err-count
returns-in_err-count c =
    let h = c.requires in
    let p = err_from_is_err_and c.from_residual.result c.from_residual.ensures.1 in
    rw (p.1, p.2) (over-no _ _ _ _ _ h.0 c.if-n-eq0.false _ h.1 _ c.start.ensures _ _ c.in_err-count.ensures)

pub returns : goal.returns
returns c = let h = c.requires in over-run _ _ _ _ _ h.0 c.if-n-eq0.false _ h.1 _ c.start.ensures _ _ _ _ c.in_ok-count.ensures c.run.ensures
