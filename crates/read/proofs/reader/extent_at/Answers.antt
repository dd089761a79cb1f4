-- Eight bytes are passed over, so the two words stand at 8 and at 12.
use Rattle.std.proofs.lemmas.Grind.{common_steps}
use Rattle.std.proofs.Common.{arith}
use Rattle.read.specs.Reading.{extent_of}
use Rattle.read.proofs.reader.extent_at.Goals as goal

pub returns : goal.returns
unfolding extent_of
returns c = grind (arith, common_steps)
