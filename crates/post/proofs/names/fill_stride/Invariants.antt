-- The invariant `Filled`: places 1 to j are held and p is that of place j. `stride_enough` keeps the last one inside the room.
use Rattle.post.proofs.Held.{Filled}
use Rattle.post.proofs.names.fill_stride.Given as goal

abbrev pub invariant-loop-j : goal.invariant-loop-j
invariant-loop-j l = Filled l.post l.s l.last l.initial.room l.room l.p l.j
