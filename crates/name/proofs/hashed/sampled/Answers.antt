-- Each way through the tests gives the definition's number.
use Rattle.std.proofs.Common.{refl, arith, le-leb}
use borrow.Author.Tests.{lt-leb}
use Rattle.name.specs.Hashed.{sampled_of}
use Rattle.name.proofs.hashed.sampled.Goals as goal

pub returns-then-buckets-ge4096 : goal.returns-then-buckets-ge4096
unfolding sampled_of
returns-then-buckets-ge4096 c = (rw (le-leb _ _ c.if-buckets-ge4096.true) refl, omega arith)

pub returns-else-buckets-ge4096 : goal.returns-else-buckets-ge4096
unfolding sampled_of
returns-else-buckets-ge4096 c = (rw (lt-leb _ _ c.if-buckets-ge4096.false) c.min.ensures, omega arith)
