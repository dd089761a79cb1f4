-- Strings of other lengths differ; those of one length are compared.
use Rattle.std.proofs.Common.{length, sym, refl, ap, ◌∙◌, eqb-true}
use Rattle.name.proofs.Order.{length-string, alike-none, alike_all, alike-strings}
use Rattle.name.proofs.equal.Goals as goal

pub returns-else-length_at-size : goal.returns-else-length_at-size
returns-else-length_at-size c =
    (λ e. absurd (c.if-length_at-size.false (eqb-true _ _ e)), λ e q. c.if-length_at-size.false (c.length_at.ensures.0 ∙ sym (length-string c.args.name.now c.args.first c.requires.0) ∙ ap length q ∙ length-string c.args.name.now c.args.row c.requires.1 ∙ sym c.length_at-size.ensures.0))

pub returns-then-length_at-size : goal.returns-then-length_at-size
returns-then-length_at-size c =
    let b = c.args.name.now in
    let at = c.start_at in
    let start = c.start_at-then-length_at-size in
    let size = c.length_at-size in (
      λ e. alike_all b c.args.first c.args.row c.requires.0 c.requires.1 at.result start.result size.result size.result at.ensures.0 start.ensures.0 (sym c.length_at.ensures.0 ∙ c.if-length_at-size.true) (sym size.ensures.0) (c.same.ensures.equal e) refl,
      λ e q. c.same.ensures.differ e (alike-strings b c.args.first c.args.row c.requires.0 c.requires.1 at.result start.result size.result 0 at.ensures.0 start.ensures.0 (sym c.length_at.ensures.0 ∙ c.if-length_at-size.true) (sym size.ensures.0) (alike-none b at.result start.result size.result) q),
    )
