-- Each head stays when the next one is put behind it.
use Rattle.post.proofs.Lanes.{heads_set}
use Rattle.post.proofs.chains.set_heads.Goals as goal

pub returns : goal.returns
returns c =
    let a = c.args in
    let h₁ = c.set_head in
    let h₂ = c.set_head-2 in
    let h₃ = c.set_head-3 in
    let h₄ = c.set_head-4 in
    heads_set a.i a.first a.s a.a a.b a.c a.d a.room.now h₁.new.room h₂.new.room h₃.new.room h₄.new.room h₁.ensures h₂.ensures h₃.ensures h₄.ensures
