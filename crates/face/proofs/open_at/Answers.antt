-- The directory's tests, one after the other; then the places are what is found.
use Rattle.std.proofs.lemmas.Result.{err_from_is_err_and}
use mathlib.Core.Path.{sym, ◌∙◌}
use Prim.Native.Nat.{◌+◌}
use native.Mathlib.Omega.{arith}
use Rattle.model.proofs.Parts.{tail}
use Rattle.face.proofs.Gather.{opened-refused, header-cut, rows_cut_lem, unsorted, tests-refuse, opened}
use Rattle.face.proofs.open_at.Goals as goal

pub returns-then-not-holds : goal.returns-then-not-holds
returns-then-not-holds c =
    let a = c.args in
    opened-refused a.font.now a.at _ (header-cut a.font.now a.at (sym c.holds.ensures ∙ c.if-not-holds.true))

pub returns-then-not-holds-2 : goal.returns-then-not-holds-2
returns-then-not-holds-2 c =
    let a = c.args in
    opened-refused a.font.now a.at _ (rows_cut_lem a.font.now a.at (sym c.holds.ensures ∙ c.if-not-holds.false) _ (c.from-count.ensures ∙ c.u16_at.ensures) (sym c.holds-2.ensures ∙ c.if-not-holds-2.true))

pub returns-then-not-ascends : goal.returns-then-not-ascends
returns-then-not-ascends c =
    let a = c.args in
    opened-refused a.font.now a.at _
    (unsorted a.font.now a.at (sym c.holds.ensures ∙ c.if-not-holds.false) _ (c.from-count.ensures ∙ c.u16_at.ensures) (sym c.holds-2.ensures ∙ c.if-not-holds-2.false) _ (tail (a.at + 12) a.font.now) (sym c.ascends.ensures ∙ c.if-not-ascends.true))

pub returns-in_err-test : goal.returns-in_err-test
returns-in_err-test c =
    let a = c.args in
    let p = err_from_is_err_and c.from_residual.result c.from_residual.ensures.1 in
    rw (p.1, p.2)
    (tests-refuse a.font.now a.at (sym c.holds.ensures ∙ c.if-not-holds.false) _ (c.from-count.ensures ∙ c.u16_at.ensures) (sym c.holds-2.ensures ∙ c.if-not-holds-2.false) _ (tail (a.at + 12) a.font.now) (sym c.ascends.ensures ∙ c.if-not-ascends.false) (λ i. omega (arith, c.type_inv.font i)) _ c.find_places-t.ensures _ c.in_err-test.ensures)

pub returns : goal.returns
returns c =
    let a = c.args in
    opened a.font.now a.at (sym c.holds.ensures ∙ c.if-not-holds.false) _ (c.from-count.ensures ∙ c.u16_at.ensures) (sym c.holds-2.ensures ∙ c.if-not-holds-2.false) _ (tail (a.at + 12) a.font.now) (sym c.ascends.ensures ∙ c.if-not-ascends.false) (λ i. omega (arith, c.type_inv.font i)) _ c.find_places-t.ensures c.in_ok-test.ensures
