-- Refused before step 5, or cut and cleared.
use Rattle.std.proofs.Common.{refl}
use Rattle.std.proofs.lemmas.Result.{err_from_is_err_and}
use Rattle.subset.proofs.Whole.{refused-early, may_open, refused-short, may_sweep, swept, zeroed}
use Rattle.subset.proofs.subset.Goals as goal

pub returns-in_err-t : goal.returns-in_err-t
returns-in_err-t c =
    let a = c.args in
    let e = err_from_is_err_and c.from_residual.result c.from_residual.ensures.1 in
    rw (e.1, e.2) (refused-early a.font.now a.index a.ids.now a.scratch.now a.out.now _ c.in_err-t.ensures.reads)

pub open_source-s-requires : goal.open_source-s-requires
open_source-s-requires c = let a = c.args in may_open a.font.now a.index a.ids.now a.scratch.now a.out.now _ c.in_ok-t.ensures

pub returns-then-scratch-n : goal.returns-then-scratch-n
returns-then-scratch-n c =
    let a = c.args in refused-short a.font.now a.index a.ids.now a.scratch.now a.out.now _ c.in_ok-t.ensures _ c.open_source-s.ensures c.if-scratch-n.true

pub sweep-requires : goal.sweep-requires
sweep-requires c =
    let a = c.args in
    may_sweep a.font.now a.index a.ids.now a.scratch.now a.out.now _ c.in_ok-t.ensures _ c.open_source-s.ensures c.if-scratch-n.false _ _ _ c.cut.ensures _ c.in-Ok.is _ c.named.ensures

pub returns-in-Ok : goal.returns-in-Ok
returns-in-Ok c =
    let a = c.args in
    swept a.font.now a.index a.ids.now a.scratch.now a.out.now _ c.in_ok-t.ensures _ c.open_source-s.ensures c.if-scratch-n.false _ _ _ c.in-Ok.ensures _ refl _ c.sweep.ensures

pub returns-in-Err : goal.returns-in-Err
returns-in-Err c =
    let a = c.args in
    zeroed a.font.now a.index a.ids.now a.scratch.now a.out.now _ c.in_ok-t.ensures _ c.open_source-s.ensures c.if-scratch-n.false _ _ _ c.in-Err.ensures _ refl _ c.zeros.ensures
