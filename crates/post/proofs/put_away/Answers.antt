-- One law for each case.
use native.Mathlib.Omega.{arith}
use Rattle.post.proofs.Found.{put_some}
use Rattle.post.proofs.put_away.Goals as goal

pub returns-then-at-n : goal.returns-then-at-n
returns-then-at-n c =
    let a = c.args in
    let w = c.within in
    rw c.set_place.ensures (put_some a.post.now a.n a.at a.j a.p w.result a.scratch.now (c.requires.j_bound c.if-at-n.true) (omega arith) w.ensures.1)
