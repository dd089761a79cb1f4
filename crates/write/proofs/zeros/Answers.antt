use Rattle.model.proofs.Ranges.{filled}
use Rattle.write.proofs.zeros.Goals as goal

pub returns : goal.returns
returns c = filled c.args.at c.args.count 0 c.args.out.now _ c.requires (c.fill.ensures.after (λ y e. e))
