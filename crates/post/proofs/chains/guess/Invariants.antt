-- The invariant: the place that is taken else is between the start and the last place that is looked at.
use Prim.Native.Nat.{◌≤◌}
use Rattle.post.proofs.chains.guess.Given as goal

abbrev pub invariant-loop-p : goal.invariant-loop-p
invariant-loop-p l = (l.from ≤ l.far) × (l.far ≤ l.stop)
