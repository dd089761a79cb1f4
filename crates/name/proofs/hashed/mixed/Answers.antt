-- The word and its place are added, and the two halves of the sum multiplied.
use Rattle.name.specs.Hashed.{mixed_of}
use Rattle.name.proofs.hashed.mixed.Goals as goal

pub returns : goal.returns
unfolding mixed_of
returns c = cc
