use Rattle.std.proofs.Common.{arith}
use Rattle.remapper.proofs.Clears.{cleared-all}
use Rattle.remapper.proofs.clear_row.Goals as goal

pub returns : goal.returns
returns c =
    cleared-all c.args.n c.args.base c.args.kept c.loop-j.j c.args.s.now c.loop-j.s c.requires c.loop-j.invariant.1 c.loop-j.invariant.0 (omega arith)
