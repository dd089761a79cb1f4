-- The sum that the word is, with the bytes' worths multiplied out.
use Rattle.std.proofs.Common.{arith}
use Rattle.name.specs.Hashed.{eight_at}
use Rattle.name.proofs.eight_at.Goals as goal

pub returns : goal.returns
unfolding eight_at
returns c = omega arith
