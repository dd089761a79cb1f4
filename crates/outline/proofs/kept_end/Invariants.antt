-- The invariant: the kept bytes end where they end from this place on. A record found makes the way left shorter.
use Rattle.std.proofs.Common.{◌≡◌, ◌-◌, length}
use Rattle.outline.specs.Places.{end_from}
use Rattle.outline.proofs.kept_end.Given as goal

abbrev pub invariant-loop-component : goal.invariant-loop-component
invariant-loop-component l = end_from l.n l.b 10 ≡ end_from l.n l.b l.at

abbrev pub decreases-loop-component : goal.decreases-loop-component
decreases-loop-component l = length l.b - l.at
