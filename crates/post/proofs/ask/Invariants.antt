-- The invariant `Counting`: the ids so far have indexes, and so many of their names will be stored.
use Rattle.post.proofs.Grow.{Counting}
use Rattle.post.proofs.ask.Given as goal

abbrev pub invariant-loop-g : goal.invariant-loop-g
invariant-loop-g l = Counting l.post l.ids l.own l.want l.g-index
