-- The two tags that are compared decide, with the records behind them.
use mathlib.Core.Path.{sym, ap, ◌∙◌}
use mathlib.Core.Bool.{Bool, not}
use Prim.Native.Nat.{◌+◌}
use native.Mathlib.Omega.{arith}
use Rattle.model.specs.Res.{both}
use Rattle.model.specs.Font.{rows}
use Rattle.model.proofs.Font.{length-rows}
use Rattle.face.proofs.Tags.{ascending_at, ascending-start, ascending_end, tags-decide}
use Rattle.face.proofs.ascends.Goals as goal

pub loop-i-init : goal.loop-i-init
loop-i-init c = ascending-start (rows c.args.count c.args.dir.now)

pub returns-then-ge : goal.returns-then-ge
returns-then-ge c =
    let a = c.args in
    let l = c.loop-i in
    let t = tags-decide a.count a.dir.now (λ i. omega (arith, c.type_inv.dir i)) c.requires l.i _ _ _ l.auto.i c.loop-i-test.true c.tag_at.ensures c.tag_at-in-loop-i.ensures c.ge.ensures in
    sym (l.invariant ∙ t ∙ ap (λ (r : Bool). both (not r) (ascending_at (rows a.count a.dir.now) (l.i + 1))) c.if-ge.true)

pub loop-i-preserved : goal.loop-i-preserved
loop-i-preserved c =
    let a = c.args in
    let l = c.loop-i in
    let t = tags-decide a.count a.dir.now (λ i. omega (arith, c.type_inv.dir i)) c.requires l.i _ _ _ l.auto.i c.loop-i-test.true c.tag_at.ensures c.tag_at-in-loop-i.ensures c.ge.ensures in
    l.invariant ∙ t ∙ ap (λ (r : Bool). both (not r) (ascending_at (rows a.count a.dir.now) (l.i + 1))) c.if-ge.false

pub returns : goal.returns
returns c =
    let a = c.args in
    let l = c.loop-i in
    sym (l.invariant ∙ ascending_end (rows a.count a.dir.now) l.i (omega (arith, length-rows a.count a.dir.now)))
