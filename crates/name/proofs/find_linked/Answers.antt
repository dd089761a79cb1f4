use Rattle.std.proofs.Common.{◌-◌, arith}
use Rattle.name.proofs.Links.{walking_start, walking-next}
use Rattle.name.proofs.find_linked.Goals as goal

pub loop-init : goal.loop-init
loop-init c = walking_start c.requires

pub loop-preserved : goal.loop-preserved
loop-preserved c =
    let l = c.loop in
    walking-next c.requires (l.next - 1) l.next (omega arith) l.invariant (c.equal.ensures.1 c.if-equal.false)
