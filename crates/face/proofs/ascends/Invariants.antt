-- The records from i on decide, with the tag before them.
use mathlib.Core.Path.{◌≡◌}
use Rattle.model.specs.Font.{ascending, rows}
use Rattle.face.proofs.Tags.{ascending_at}
use Rattle.face.proofs.ascends.Given as goal

abbrev pub invariant-loop-i : goal.invariant-loop-i
invariant-loop-i l = ascending (rows l.count l.dir) ≡ ascending_at (rows l.count l.dir) l.i
