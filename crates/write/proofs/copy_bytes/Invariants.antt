-- The invariant: the first i bytes of src are pasted in.
use mathlib.Core.Path.{◌≡◌}
use lib.Seq.{paste}
use Rattle.write.proofs.copy_bytes.Given as goal

abbrev pub invariant-loop-i : goal.invariant-loop-i
invariant-loop-i l = l.out ≡ paste l.initial.out l.at l.src l.i
