-- A walk rests, leaves the table, or is one name further on: one law of Lanes for each.
use mathlib.Core.Path.{refl}
use Rattle.post.proofs.Lanes.{step-more, step-name}
use native.Mathlib.Omega.{arith}
use Rattle.post.proofs.chains.step.Goals as goal

pub returns : goal.returns
returns c =
    let a = c.args in
    let p = c.requires.chain in
    let e = c.from-size.ensures in
    step-more a.post.now a.room.now a.base a.at a.l p (omega arith) (omega arith) _ refl (omega arith)
    (λ i. rw e (step-name a.post.now a.room.now a.base a.at a.l p (omega arith) (omega arith) (omega arith) (omega arith) (omega arith)))
