-- The invariant: the bytes done have new ids, those left are as they were copied, and the kept bytes end where they end from this place on.
use Rattle.std.proofs.Common.{◌-◌, length}
use Rattle.glyf.specs.Pieces.{new_from}
use Rattle.glyf.proofs.Composite.{Going}
use Rattle.glyf.proofs.write_composite.Given as goal

abbrev pub invariant-loop-component : goal.invariant-loop-component
invariant-loop-component l = Going l.n (new_from l.n l.scratch) l.b l.kept l.at l.fn.out l.out l.p

abbrev pub decreases-loop-component : goal.decreases-loop-component
decreases-loop-component l = length l.b - l.p
