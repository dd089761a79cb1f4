-- `arrive`: chains that join are one list of names.
use Rattle.post.proofs.Lanes.{arrive}
use native.Mathlib.Omega.{arith}
use Rattle.post.proofs.chains.finish.Goals as goal

pub returns : goal.returns
returns c =
    let a = c.args in
    let p = c.requires in
    let g = c.go_on-d in
    let h = c.set_heads in
    arrive a.post.now a.q a.chains a.i a.f.turns a.room.now g.new.room h.new.room a.from a.s a.f g.result p.led.0 p.led.1 p.four.0 p.four.2 p.four.1 p.four.3 g.ensures h.ensures (omega arith)
