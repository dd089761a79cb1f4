-- By whether the table is there.
use Rattle.plan.specs.Steps.{sized_place}
use Rattle.plan.proofs.sized.Goals as goal

pub returns-then-there : goal.returns-then-there
unfolding sized_place
returns-then-there c = rw c.if-there.true

pub returns-else-there : goal.returns-else-there
unfolding sized_place
returns-else-there c = rw c.if-there.false
