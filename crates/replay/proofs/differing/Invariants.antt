use Rattle.std.proofs.Common.{◌≤◌}
use Rattle.replay.proofs.differing.Given as goal

abbrev pub invariant-loop-k : goal.invariant-loop-k
invariant-loop-k g l = l.differ ≤ l._k
