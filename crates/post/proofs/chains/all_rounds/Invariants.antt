-- The invariant `Rounds`: so many chains are made, and the next four start where the last one ended.
use Prim.Native.Nat.{◌*◌}
use Rattle.post.proofs.Lanes.{Rounds}
use Rattle.post.proofs.chains.all_rounds.Given as goal

abbrev pub invariant-loop-j : goal.invariant-loop-j
invariant-loop-j l = Rounds l.post l.q l.chains (4 * l.j) l.initial.room l.room l.from
