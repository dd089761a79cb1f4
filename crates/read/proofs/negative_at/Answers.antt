-- The test of the word that `u16_at` gives.
use Rattle.read.proofs.negative_at.Goals as goal

pub returns : goal.returns
returns c = rw c.u16_at.ensures
