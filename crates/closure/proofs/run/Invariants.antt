-- At each turn the scratch holds a state of the walk from which going on gives the whole, and the sums are over the glyphs read; a turn reads a
-- request or numbers a glyph.
use Rattle.model.specs.Glyf.{width}
use Rattle.glyf.specs.Pieces.{length_at}
use Rattle.closure.specs.Closes.{parts_in}
use Rattle.closure.specs.Turns.{ahead}
use Rattle.closure.proofs.Running.{Running}
use Rattle.closure.proofs.run.Given as goal

abbrev pub invariant-loop-turn : goal.invariant-loop-turn
invariant-loop-turn l = Running (parts_in (width l.long) l.n l.loca l.glyf) (length_at (width l.long) l.n l.loca l.glyf) l.n l.initial.s l.count l.s l.kept l.left l.even l.raw

abbrev pub decreases-loop-turn : goal.decreases-loop-turn
decreases-loop-turn l = ahead l.kept l.left
