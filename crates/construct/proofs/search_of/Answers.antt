-- One power of two alone is at most the count and more than half of it.
use Rattle.construct.proofs.Halves.{search-made}
use Rattle.construct.proofs.search_of.Goals as goal

pub returns : goal.returns
returns c = search-made c.args.count _ c.requires.0 c.requires.1 c.ilog2-selector.ensures.power_le c.ilog2-selector.ensures.next_power_gt
