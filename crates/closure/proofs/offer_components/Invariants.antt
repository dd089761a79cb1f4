-- The ids read so far were offered; each record moves the place on, and stays in the outline.
use Rattle.std.proofs.Common.{◌-◌, length}
use Rattle.closure.proofs.Reading.{Reading}
use Rattle.closure.proofs.offer_components.Given as goal

abbrev pub invariant-loop-component : goal.invariant-loop-component
invariant-loop-component l = Reading l.b l.initial.s l.n l.s l.at

abbrev pub decreases-loop-component : goal.decreases-loop-component
decreases-loop-component l = length l.b - l.at
