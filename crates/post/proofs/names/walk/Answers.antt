use Prim.Native.Nat.{suc, ◌+◌, ◌-◌}
use mathlib.Core.Path.{◌≡◌, ◌∙◌, sym, ap}
use native.Mathlib.Omega.{arith}
use Rattle.post.specs.Post.{size_at, walked}
use Rattle.post.proofs.Walk.{walked-turn, walked_stop, size-inside}
use Rattle.post.proofs.names.walk.Goals as goal

pub returns-then-l-eq0 : goal.returns-then-l-eq0
returns-then-l-eq0 c =
    let a = c.args in
    let l = c.loop-step in
    let z : size_at a.post.now l.p ≡ 0 = omega arith in
    sym (l.invariant ∙ walked_stop a.post.now l.p (a.steps - l._step) z)

pub overflow_add-p : goal.overflow_add-p
overflow_add-p c = omega (arith, size-inside c.args.post.now c.loop-step.p (omega arith))

pub overflow_add-p-in-loop-step : goal.overflow_add-p-in-loop-step
overflow_add-p-in-loop-step c = omega (arith, size-inside c.args.post.now c.loop-step.p (omega arith))

pub loop-step-preserved : goal.loop-step-preserved
loop-step-preserved c =
    let a = c.args in
    let l = c.loop-step in
    let e : a.steps - l._step ≡ suc (a.steps - (l._step + 1)) = omega arith in
    l.invariant ∙ ap (walked a.post.now l.p) e ∙ rw c.size_at-l.ensures (walked-turn a.post.now l.p (a.steps - (l._step + 1)) (omega arith))

pub returns : goal.returns
unfolding walked
returns c =
    let a = c.args in
    let l = c.loop-step in
    let e : a.steps - l._step ≡ 0 = omega arith in
    sym (l.invariant ∙ ap (walked a.post.now l.p) e)
