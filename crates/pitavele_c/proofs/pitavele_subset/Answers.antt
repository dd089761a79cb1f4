-- The answer's cases, in numbers.
use native.Mathlib.Omega.{arith}
use Rattle.subset.proofs.Whole.{font-few}
use Rattle.pitavele_c.proofs.pitavele_subset.Goals as goal

pub overflow_cast-result : goal.overflow_cast-result
overflow_cast-result c = let v = c.subset in omega (arith, font-few _ _ _ _ v.ensures _ c.in-Ok.is)
