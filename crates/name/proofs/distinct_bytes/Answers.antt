-- Room for 64 or 256 rows is enough where there are no more.
use Rattle.std.proofs.Common.{arith}
use Rattle.name.proofs.Strings.{roomy_rows}
use Rattle.name.proofs.distinct_bytes.Goals as goal

pub distinct-requires : goal.distinct-requires
distinct-requires c = (roomy_rows c.args.name.now 5460 64 c.requires (omega arith), omega arith, omega arith, omega arith)

pub distinct-requires-then-count-le256 : goal.distinct-requires-then-count-le256
distinct-requires-then-count-le256 c = (roomy_rows c.args.name.now 5460 256 c.requires (omega arith), omega arith, omega arith, omega arith)
