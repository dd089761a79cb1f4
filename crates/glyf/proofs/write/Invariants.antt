-- The invariant: both tables of the first i outlines are written, but for the run and the entry of outline i.
use Rattle.std.proofs.Common.{take}
use Rattle.model.specs.Glyf.{width}
use Rattle.glyf.proofs.Writing.{Begun}
use Rattle.glyf.proofs.write.Given as goal

abbrev pub invariant-loop-i : goal.invariant-loop-i
invariant-loop-i l = Begun (width l.long) (width l.wide) l.n l.loca l.glyf (take l.kept l.scratch) l.distance l.initial.out l.i l.run l.out
