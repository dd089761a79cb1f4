-- The lengths looked at fit.
use Rattle.std.proofs.Common.{ℕ, ◌≤◌, ◌<◌}
use Rattle.places.specs.Places.{place_at}
use Rattle.subset.proofs.narrow.Given as goal

abbrev pub invariant-loop-p : goal.invariant-loop-p
invariant-loop-p l = (j : ℕ) → j < l.p-index → (place_at l.fn.sized j).length ≤ 4294967295
