-- Four numbers put in, read back by `head-set`.
use Rattle.post.proofs.Lanes.{head-set}
use native.Mathlib.Omega.{arith}
use Rattle.post.proofs.chains.set_head.Goals as goal

pub returns : goal.returns
returns c =
    let a = c.args in
    rw c.set_place.ensures (head-set a.room.now a.i a.base a.first a.last (omega arith))
