-- `new_count` is the paper's smallest k, and no other number is: by induction on the list, with k minus 1 as the place where the equal ones begin.
use Prim.Native.Nat.{ℕ, zero, suc, ◌-◌, ◌<◌, zero-le, suc-le-suc}
use mathlib.Core.Path.{◌≡◌, refl, ap}
use mathlib.Core.Bool.{Bool, true, false}
use mathlib.Core.List.{List, [], ◌∷◌}
use native.Mathlib.Omega.{arith}
use native.Mathlib.Nat.{le_of_suc-le-suc, not-suc-le-zero}
use native.Mathlib.Numerals.{sub-one}
use native.Mathlib.Decide.{dec_lt}
use borrow.Author.Tests.{eqb-true, eq-eqb}
use lib.Dec.{eqb}
use lib.ListN.{length, get_or}
use Rattle.model.specs.Res.{pick}
use Rattle.model.specs.Bytes.{all}
use Rattle.model.specs.Metrics.{Metric, new_count}
use Rattle.model.proofs.Res.{both_true, true_false}
use Rattle.theorems.specs.Count.{EqualFrom, advances_of, NewCountIsSmallest, SmallestIsOne}

-- have all these metrics the advance a
same : ℕ → List Metric → Bool
same a ms = all (λ x. eqb x.0 a) ms

same_at : (a : ℕ) (ms : List Metric) → same a ms ≡ true → (j : ℕ) → j < length (advances_of ms) → get_or (advances_of ms) j 0 ≡ a
unfolding same
same_at a [] e j lt = absurd (not-suc-le-zero lt)
same_at a (m ∷ ms) e zero lt = eqb-true m.0 a (both_true (eqb m.0 a) (same a ms) e).0
same_at a (m ∷ ms) e (suc j) lt = same_at a ms (both_true (eqb m.0 a) (same a ms) e).1 j (le_of_suc-le-suc lt)

at_same : (a : ℕ) (ms : List Metric) → ((j : ℕ) → j < length (advances_of ms) → get_or (advances_of ms) j 0 ≡ a) → same a ms ≡ true
unfolding same
at_same a [] h = refl
at_same a (m ∷ ms) h = rw (eq-eqb m.0 a (h 0 (suc-le-suc zero-le))) (at_same a ms (λ j lt. h (suc j) (suc-le-suc lt)))

-- e is k minus 1
Edge : List ℕ → ℕ → Type 0
Edge l e = EqualFrom l e × ((p : ℕ) → p < e → EqualFrom l p → ⊥)

edge_one : (m : Metric) (ms : List Metric) → same m.0 ms ≡ true → Edge (advances_of (m ∷ ms)) 0
unfolding Edge
edge_one m ms t = (equal, λ p lt. absurd (not-suc-le-zero lt))
  where
    equal : EqualFrom (advances_of (m ∷ ms)) 0
    equal zero le lt = refl
    equal (suc j) le lt = same_at m.0 ms t j (le_of_suc-le-suc lt)

edge_more : (m : Metric) (ms : List Metric) (e : ℕ) → (same m.0 ms ≡ true → ⊥) → Edge (advances_of ms) e → Edge (advances_of (m ∷ ms)) (suc e)
unfolding Edge
edge_more m ms e t g = (equal, least)
  where
    equal : EqualFrom (advances_of (m ∷ ms)) (suc e)
    equal zero le lt = absurd (not-suc-le-zero le)
    equal (suc j) le lt = g.0 j (le_of_suc-le-suc le) (le_of_suc-le-suc lt)

    least : (p : ℕ) → p < suc e → EqualFrom (advances_of (m ∷ ms)) p → ⊥
    least zero lt q = t (at_same m.0 ms (λ j h. q (suc j) zero-le (suc-le-suc h)))
    least (suc p) lt q = g.1 p (le_of_suc-le-suc lt) (λ j le h. q (suc j) (suc-le-suc le) (suc-le-suc h))

found : (ms : List Metric) → (e : ℕ) × (new_count ms ≡ suc e) × Edge (advances_of ms) e
unfolding same
found [] = (0, refl, unfold Edge in ((λ j le lt. absurd (not-suc-le-zero lt)), λ p lt. absurd (not-suc-le-zero lt)))
found (m ∷ ms) = go (same m.0 ms) refl (found ms)
  where
    go : (t : Bool) → same m.0 ms ≡ t → (e : ℕ) × (new_count ms ≡ suc e) × Edge (advances_of ms) e → (e : ℕ) × (pick t 1 (suc (new_count ms)) ≡ suc e) × Edge (advances_of (m ∷ ms)) e
    go true q f = (0, refl, edge_one m ms q)
    go false q f = (suc f.0, ap suc f.1, edge_more m ms f.0 (λ t. true_false (cc)) f.2)

pub new_count_smallest : NewCountIsSmallest
unfolding Edge
new_count_smallest ms =
    let f = found ms in
    record {
      one = omega arith;
      equal = rw (f.1, sub-one) f.2.0;
      least = λ m one lt q. f.2.1 (m - 1) (omega arith) q;
    }

-- the statement determines the number
pub smallest_one : SmallestIsOne
smallest_one l k k' s s' =
    elim (dec_lt k k') [
      | yes lt ↦ absurd (s'.least k s.one lt s.equal)
      | no ge ↦
          elim (dec_lt k' k) [
            | yes lt ↦ absurd (s.least k' s'.one lt s'.equal)
            | no ge' ↦ omega arith
          ]
    ]
