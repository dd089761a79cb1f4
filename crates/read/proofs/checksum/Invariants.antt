-- The sum so far and the sum of what is left make the whole sum, modulo 2^32.
use Rattle.std.proofs.Common.{◌≡◌, ◌+◌, ◌*◌, ◌%◌, ◌^◌, drop}
use Rattle.model.specs.File.{word_sum}
use Rattle.read.proofs.checksum.Given as goal

abbrev pub invariant-loop-k : goal.invariant-loop-k
invariant-loop-k l = (l.sum + word_sum (drop (4 * l.k) l.b)) % 2 ^ 32 ≡ word_sum l.b % 2 ^ 32
