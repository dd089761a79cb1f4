-- The four bytes are the part.
use Rattle.write.proofs.Copies.{part-four}
use Rattle.write.proofs.four_at.Goals as goal

pub returns : goal.returns
returns c = let a = c.args in part-four a.src.now a.from c.requires
