-- One law of Cut for each return, in the order of the tests.
use Rattle.model.specs.Bytes.{word32}
use mathlib.Core.Path.{◌≡◌, sym, ◌∙◌}
use native.Mathlib.Omega.{arith}
use Rattle.std.proofs.lemmas.Result.{err_from_is_err_and}
use Rattle.post.proofs.Cut.{cut_short, cut-copied, cut-header, cut_array, told_missing, told-many, told_named}
use Rattle.post.proofs.test.Goals as goal

pub returns-then-post-lt4 : goal.returns-then-post-lt4
returns-then-post-lt4 c =
    let a = c.args in
    cut_short a.post.now a.ids.now c.if-post-lt4.true

pub returns-then-u32_at-ne131072 : goal.returns-then-u32_at-ne131072
returns-then-u32_at-ne131072 c =
    let a = c.args in
    let n : word32 a.post.now 0 ≡ 0x00020000 → ⊥ = λ e. c.if-u32_at-ne131072.true (c.u32_at.ensures ∙ e) in
    (cut-copied a.post.now a.ids.now (omega arith) n, n)

pub returns-then-post-lt34 : goal.returns-then-post-lt34
returns-then-post-lt34 c =
    let a = c.args in
    cut-header a.post.now a.ids.now (omega arith) (sym c.u32_at.ensures ∙ c.if-u32_at-ne131072.false) c.if-post-lt34.true

pub returns-then-post-from : goal.returns-then-post-from
returns-then-post-from c =
    let a = c.args in
    cut_array a.post.now a.ids.now (omega arith) (sym c.u32_at.ensures ∙ c.if-u32_at-ne131072.false) (omega arith) (omega arith)

pub returns-in_err-asked : goal.returns-in_err-asked
returns-in_err-asked c =
    let p = err_from_is_err_and c.from_residual.result c.from_residual.ensures.1 in
    rw (p.1, p.2) (told_missing c.args.post.now c.args.ids.now (sym c.u32_at.ensures ∙ c.if-u32_at-ne131072.false) (omega arith) _ c.in_err-asked.ensures)

pub returns-then-asked : goal.returns-then-asked
returns-then-asked c = told-many c.args.post.now c.args.ids.now (sym c.u32_at.ensures ∙ c.if-u32_at-ne131072.false) (omega arith) c.in_ok-asked.asked c.in_ok-asked.ensures c.if-asked.true

pub returns : goal.returns
returns c = told_named c.args.post.now c.args.ids.now (sym c.u32_at.ensures ∙ c.if-u32_at-ne131072.false) (omega arith) c.in_ok-asked.asked c.in_ok-asked.ensures c.if-asked.false
