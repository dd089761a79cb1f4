use Rattle.std.proofs.Common.{true, false, Some, sym, ap, ◌∙◌}
use Rattle.closure.proofs.Reading.{reading_more, reading_last, reading_bad}
use Rattle.closure.proofs.offer_components.Goals as goal

pub returns-in_err-component : goal.returns-in_err-component
returns-in_err-component c = rw c.from_residual.ensures (reading_bad _ _ _ _ _ c.loop-component.invariant (sym c.in_err-component.ensures))

pub loop-component-preserved : goal.loop-component-preserved
loop-component-preserved c =
    let offered = rw (c.id.ensures, c.in-More.is) at c.offer.ensures in
    reading_more _ _ _ _ _ c.loop-component.invariant _ _ _ (sym c.in_ok-component.ensures ∙ ap Some c.in-More.is) offered

pub returns-then-keep : goal.returns-then-keep
returns-then-keep c =
    let offered = rw (c.id.ensures, c.in-Last.is) at c.offer.ensures in
    let is-last = rw c.if-keep.true at c.in-Last.is in
    reading_last _ _ _ _ _ c.loop-component.invariant _ _ _ true (sym c.in_ok-component.ensures ∙ ap Some is-last) offered

pub returns-else-keep : goal.returns-else-keep
returns-else-keep c =
    let offered = rw (c.id.ensures, c.in-Last.is) at c.offer.ensures in
    let is-last = rw c.if-keep.false at c.in-Last.is in
    reading_last _ _ _ _ _ c.loop-component.invariant _ _ _ false (sym c.in_ok-component.ensures ∙ ap Some is-last) offered
