-- By whether it is one of the eleven, and whether that has a place already.
use mathlib.Core.Path.{ap, ◌∙◌}
use mathlib.Core.Bool.{not}
use native.Mathlib.Omega.{arith}
use Rattle.face.proofs.Found.{noted_other, noted_old, noted_new}
use Rattle.face.proofs.noted.Goals as goal

pub returns-in_default : goal.returns-in_default
returns-in_default c = let a = c.args in noted_other a.font.now a.row.now a.t (λ i. omega (arith, c.type_inv.row i)) c.requires _ _ c.tag_at.ensures c.known.ensures c.in_default.is

pub returns-else-is_none : goal.returns-else-is_none
returns-else-is_none c =
    let a = c.args in
    noted_old a.font.now a.row.now a.t (λ i. omega (arith, c.type_inv.row i)) c.requires _ _ c.tag_at.ensures c.known.ensures _ c.in-Some.is (c.is_none.ensures ∙ ap not c.if-is_none.false)

pub returns-then-is_none : goal.returns-then-is_none
returns-then-is_none c =
    let a = c.args in
    noted_new a.font.now a.row.now a.t (λ i. omega (arith, c.type_inv.row i)) c.requires _ _ c.tag_at.ensures c.known.ensures _ c.in-Some.is (c.is_none.ensures ∙ ap not c.if-is_none.true) _ c.place_of.ensures
