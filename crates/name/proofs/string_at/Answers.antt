-- The part that is read is the definition's.
use Rattle.name.specs.Rows.{string_at}
use Rattle.name.proofs.string_at.Goals as goal

pub returns : goal.returns
unfolding string_at
returns c = cc
