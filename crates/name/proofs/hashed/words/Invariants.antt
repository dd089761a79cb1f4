-- After k bytes the sum is that of k / 8 words.
use Rattle.std.proofs.Common.{◌≡◌, ◌-◌, ◌*◌, ◌/◌, ◌%◌, ◌≤◌}
use Rattle.name.specs.Hashed.{words_of}
use Rattle.name.proofs.hashed.words.Given as goal

abbrev pub invariant-loop-k : goal.invariant-loop-k
invariant-loop-k l = (l.k % 8 ≡ 0) × (l.k ≤ l.n / 8 * 8) × (l.sum ≡ words_of l.s (l.k / 8))

abbrev pub decreases-loop-k : goal.decreases-loop-k
decreases-loop-k l = l.n / 8 * 8 - l.k
