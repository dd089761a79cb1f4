-- An empty table, or one of another version, has no names.
use mathlib.Core.Path.{sym, ap, ◌∙◌}
use mathlib.Core.List.{List}
use Prim.Native.Nat.{ℕ}
use lib.ListN.{length}
use borrow.Author.Tests.{eqb-true, eqb-false}
use Rattle.model.specs.Bytes.{word32}
use Rattle.places.specs.Places.{content_at}
use Rattle.subset.proofs.Whole.{post-unnamed, nothing-named}
use Rattle.subset.proofs.named.Goals as goal

pub returns-then-is_empty : goal.returns-then-is_empty
returns-then-is_empty c _ =
    let a = c.args in
    post-unnamed a.font.now a.t (nothing-named (content_at a.font.now a.t 9) (sym (ap length c.table-post.ensures) ∙ eqb-true _ _ (sym c.is_empty.ensures ∙ c.if-is_empty.true)))

pub returns : goal.returns
returns c e =
    let a = c.args in
    post-unnamed a.font.now a.t (λ v. eqb-false _ _ e (c.u32_at.ensures ∙ ap (λ (b : List ℕ). word32 b 0) c.table-post.ensures ∙ v))
