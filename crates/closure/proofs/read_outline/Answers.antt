-- By the outline's shape: only a composite has components.
use Rattle.std.proofs.Common.{None, Some, sym, ap, ◌∙◌}
use Rattle.outline.proofs.Glyphs.{parts_by, kept_by}
use Rattle.closure.proofs.Reading.{opened-none, opened_shape}
use Rattle.closure.proofs.read_outline.Goals as goal

pub returns-in_err-shape_of : goal.returns-in_err-shape_of
unfolding parts_by kept_by
returns-in_err-shape_of c = rw c.from_residual.ensures (opened_shape _ _ _ _ _ None (sym c.in_err-shape_of.ensures) (opened-none _ _ None))

pub returns-in-Empty : goal.returns-in-Empty
unfolding parts_by kept_by
returns-in-Empty c = opened_shape _ _ _ _ _ (Some 0) (sym c.in_ok-shape_of.ensures ∙ ap Some c.in-Empty.is) (opened-none _ _ (Some 0))

pub returns-in-Simple : goal.returns-in-Simple
unfolding parts_by kept_by
returns-in-Simple c = opened_shape _ _ _ _ _ _ (sym c.in_ok-shape_of.ensures ∙ ap Some c.in-Simple.is) (opened-none _ _ _)

pub returns-in-Composite : goal.returns-in-Composite
unfolding parts_by kept_by
returns-in-Composite c = opened_shape _ _ _ _ _ _ (sym c.in_ok-shape_of.ensures ∙ ap Some c.in-Composite.is) c.offer_components.ensures
