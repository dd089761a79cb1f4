use mathlib.Core.Logic.{inl, inr}
use native.Mathlib.Omega.{arith}
use Rattle.post.proofs.Grow.{count-start, count_turn, count-missing, count_end}
use Rattle.post.proofs.ask.Goals as goal
use Rattle.post.proofs.ask.Goals.{then-i-ge258, else-i-ge258}

pub loop-g-init : goal.loop-g-init
loop-g-init c = count-start c.args.post.now c.args.ids.now

pub returns-then-count-g : goal.returns-then-count-g
returns-then-count-g c =
    let l = c.loop-g in
    count-missing c.args.post.now c.args.ids.now l.own l.want l.g-index l.invariant c.loop-g-test.true (omega arith)

pub loop-g-preserved : goal.loop-g-preserved
loop-g-preserved c =
    let l = c.loop-g in
    count_turn c.args.post.now c.args.ids.now l.own l.want c.if-i-ge258.own _ l.g-index c.index_at-i.result
    l.invariant c.loop-g-test.true (omega arith) c.index_at-i.ensures.0
    (elim c.if-i-ge258.branch [ then-i-ge258 w ↦ inl (omega arith, w.own-is) | else-i-ge258 w ↦ inr (omega arith, w.own-is) ])
    (omega arith)

pub returns : goal.returns
returns c = count_end c.args.post.now c.args.ids.now c.loop-g.own c.loop-g.want c.loop-g.g-index c.loop-g.invariant c.loop-g-test.false
