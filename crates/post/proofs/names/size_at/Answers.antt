-- The three cases of a size are the three returns.
use native.Mathlib.Omega.{arith}
use Rattle.post.proofs.Walk.{size-past, size-cut, size-whole}
use mathlib.Core.Path.{sym, ◌∙◌}
use Rattle.post.proofs.names.size_at.Goals as goal

pub returns-then-post-p : goal.returns-then-post-p
returns-then-post-p c =
    let a = c.args in
    sym (size-past a.post.now a.p (omega arith))

pub returns-then-post-b : goal.returns-then-post-b
returns-then-post-b c =
    let a = c.args in
    sym (size-cut a.post.now a.p (omega arith) (omega arith))

pub returns : goal.returns
returns c =
    let a = c.args in
    c.from-l.ensures ∙ sym (size-whole a.post.now a.p (omega arith) (omega arith))
