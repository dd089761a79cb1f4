-- The invariant `Alone`: the chain has no more names than turns were made, and nothing in front of it changed.
use Rattle.post.proofs.Lanes.{Alone}
use Rattle.post.proofs.chains.go_on.Given as goal

abbrev pub invariant-loop-turns : goal.invariant-loop-turns
invariant-loop-turns l = Alone l.post l.base l.at l.q l.initial.l l.initial.room l.room l.l l._turns
