-- A chain holds the name, or the walk from its last place comes to it.
use Prim.Native.Nat.{◌-◌}
use Rattle.post.proofs.Lanes.{chain-walk}
use native.Mathlib.Omega.{arith}
use Rattle.post.proofs.chains.name_in.Goals as goal

pub returns-then-last-j : goal.returns-then-last-j
returns-then-last-j c =
    let a = c.args in
    let j = a.k - c.from.result in
    rw (c.walk.ensures, c.in_chain.ensures, c.from-last.ensures) (chain-walk a.post.now a.room.now a.i a.k j c.requires.0 (omega arith) (omega arith) (omega arith))
