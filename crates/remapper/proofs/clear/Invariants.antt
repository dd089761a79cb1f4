-- The first k blocks are zeros.
use Rattle.std.proofs.Common.{◌≡◌, ◌*◌, replicate}
use Rattle.model.specs.Bytes.{put}
use Rattle.remapper.proofs.clear.Given as goal

abbrev pub invariant-loop-k : goal.invariant-loop-k
invariant-loop-k l = l.s ≡ put l.initial.s l.at (replicate (512 * l.k) 0)
