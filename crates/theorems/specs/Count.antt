-- What document 01 says of the new count, word for word.
use Rattle.std.specs.Prelude.{ℕ, ◌-◌, ◌≤◌, ◌<◌, ◌≡◌, List, map, length, get_or}
use Rattle.model.specs.Metrics.{Metric, new_count}

-- all numbers of a list from a place on are equal
abbrev pub EqualFrom : List ℕ → ℕ → Type 0
EqualFrom l p = (j : ℕ) → p ≤ j → j < length l → get_or l j 0 ≡ get_or l p 0

-- "the smallest k of at least 1 such that all new advances from place k minus 1 on are equal"
pub record Smallest (advances : List ℕ) (k : ℕ) : Type 0 where
  pub one : 1 ≤ k
  pub equal : EqualFrom advances (k - 1)
  pub least : (m : ℕ) → 1 ≤ m → m < k → EqualFrom advances (m - 1) → ⊥

abbrev pub advances_of : List Metric → List ℕ
advances_of ms = map (λ m. m.0) ms

-- "The new count is" that number
abbrev pub NewCountIsSmallest : Type 0
NewCountIsSmallest = (ms : List Metric) → Smallest (advances_of ms) (new_count ms)

-- and no other number is
abbrev pub SmallestIsOne : Type 0
SmallestIsOne = (advances : List ℕ) (k k' : ℕ) → Smallest advances k → Smallest advances k' → k ≡ k'
