-- The invariant: the first i bytes are copied; the last block covers what is left, and some bytes again.
use mathlib.Core.Path.{◌≡◌}
use Prim.Native.Nat.{◌+◌, ◌-◌, ◌≤◌}
use lib.ListN.{length, take}
use Rattle.model.specs.Bytes.{put}
use Rattle.write.proofs.copy.Given as goal

abbrev pub invariant-loop-i : goal.invariant-loop-i
invariant-loop-i l =
    (l.i ≤ length l.src) × (l.last + 16 ≡ length l.src) × (length l.out ≡ length l.initial.out) × (l.out ≡ put l.initial.out l.at (take l.i l.src))

abbrev pub decreases-loop-i : goal.decreases-loop-i
decreases-loop-i l = length l.src - l.i
