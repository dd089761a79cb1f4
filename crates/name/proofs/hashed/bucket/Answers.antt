-- The sum is folded to 32 bits, whose share of the buckets is below their number.
use Rattle.std.proofs.Common.{arith}
use Rattle.name.specs.Hashed.{sum_of, bucket_of}
use Rattle.name.proofs.Links.{share-below}
use Rattle.name.proofs.hashed.bucket.Goals as goal

pub returns : goal.returns
unfolding sum_of bucket_of
returns c = (cc, share-below _ _ (omega arith) c.requires.1)
