use Rattle.std.proofs.Common.{arith}
use Rattle.std.proofs.lemmas.Result.{err_from_is_err_and}
use Rattle.glyf.proofs.Pieces.{length-small}
use Rattle.closure.proofs.Running.{Fit, running_start, running-on, ran-end, ran-no, sums_fit}
use Rattle.closure.proofs.run.Goals as goal
use Rattle.closure.proofs.run.Goals.{In-Some}

small : (c : In-Some) → Fit c.in-Some.turn.length c.loop-turn.even c.loop-turn.raw
small c =
    let turned = rw c.in-Some.is at c.in_ok-turn.ensures in
    sums_fit _ _ _ c.loop-turn.invariant (length-small _ _ _ _ (λ j. omega (arith, c.type_inv.loca j))) c.requires.0 turned

pub loop-turn-init : goal.loop-turn-init
loop-turn-init c = running_start _ _ _ _ _ c.requires.2

pub overflow_add-even : goal.overflow_add-even
overflow_add-even c = let f = small (goal.at.overflow_add-even c).In-Some in omega arith

pub overflow_add-even-in-Some : goal.overflow_add-even-in-Some
overflow_add-even-in-Some c = let f = small (goal.at.overflow_add-even-in-Some c).In-Some in omega arith

pub overflow_add-raw : goal.overflow_add-raw
overflow_add-raw c = let f = small (goal.at.overflow_add-raw c).In-Some in omega arith

pub loop-turn-preserved : goal.loop-turn-preserved
loop-turn-preserved c =
    let turned = rw c.in-Some.is at c.in_ok-turn.ensures in
    running-on _ _ _ _ _ _ _ _ _ _ c.loop-turn.invariant _ _ turned c.take_turn.auto.s

pub returns-in_err-turn : goal.returns-in_err-turn
returns-in_err-turn c =
    let p = err_from_is_err_and c.from_residual.result c.from_residual.ensures.1 in
    rw (p.1, p.2) (ran-no _ _ _ _ _ _ _ _ _ _ c.loop-turn.invariant _ _ c.in_err-turn.ensures)

pub returns : goal.returns
returns c =
    let ended = rw c.in_default.is at c.in_ok-turn.ensures in
    ran-end _ _ _ _ _ _ _ _ _ _ c.loop-turn.invariant _ ended
