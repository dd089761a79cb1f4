-- The invariant `Going`: four chains, none of more names than turns were made, nothing in front of them changed.
use Prim.Native.Nat.{◌-◌}
use Rattle.post.proofs.Lanes.{Going}
use Rattle.post.proofs.chains.run.Given as goal

abbrev pub invariant-loop-f : goal.invariant-loop-f
invariant-loop-f g l = Going l.post l.at l.q l.s l.initial.room l.room l.f.a l.f.b l.f.c l.f.d l.f.turns

abbrev pub decreases-loop-f : goal.decreases-loop-f
decreases-loop-f g l = l.q - l.f.turns
