-- The records from i on, noted behind the places so far, give what all of them give.
use mathlib.Core.Path.{◌≡◌}
use lib.ListN.{drop}
use Rattle.model.specs.Font.{rows}
use Rattle.places.specs.Places.{nowhere}
use Rattle.face.specs.Opening.{noted_rows}
use Rattle.face.proofs.find_places.Given as goal

abbrev pub invariant-loop-i : goal.invariant-loop-i
invariant-loop-i l = noted_rows l.font (rows l.count l.dir) nowhere ≡ noted_rows l.font (drop l.i (rows l.count l.dir)) l.t
