-- The new count as a forward pass finds it: a metric more either keeps the count, or makes it the number of metrics so far.
use Prim.Native.Nat.{ℕ, suc, ◌+◌, ◌≤◌, ◌<◌}
use mathlib.Core.Path.{◌≡◌, refl, ap, sym, ◌∙◌}
use mathlib.Core.Bool.{Bool, true, false}
use mathlib.Core.List.{List, [], ◌∷◌, ◌++◌}
use native.Mathlib.Omega.{arith}
use native.Mathlib.Nat.{not-suc-le-zero}
use native.Mathlib.Numerals.{add-one}
use borrow.Author.Tests.{eqb-true, eq-eqb, ne_eqb}
use lib.Dec.{eqb}
use lib.ListN.{length, take, get_or}
use lib.Seq.{take-suc, take-length, length-take-le}
use Rattle.model.specs.Res.{pick, both}
use Rattle.model.specs.Bytes.{all}
use Rattle.model.specs.Metrics.{Metric, new_count}
use Rattle.model.proofs.Res.{both_true}

-- have all these metrics the advance a
same : ℕ → List Metric → Bool
same a ms = all (λ x. eqb x.0 a) ms

-- the last advance (a, where there is none)
pub last_of : ℕ → List Metric → ℕ
last_of a [] = a
last_of a (m ∷ ms) = last_of m.0 ms

both_assoc : (t u v : Bool) → both t (both u v) ≡ both (both t u) v
both_assoc true u v = refl
both_assoc false u v = refl

both_end : (t : Bool) → both t true ≡ t
both_end true = refl
both_end false = refl

same_snoc : (a : ℕ) (ms : List Metric) (m : Metric) → same a (ms ++ m ∷ []) ≡ both (same a ms) (eqb m.0 a)
unfolding same
same_snoc a [] m = both_end (eqb m.0 a)
same_snoc a (x ∷ ms) m = ap (λ (t : Bool). both (eqb x.0 a) t) (same_snoc a ms m) ∙ both_assoc (eqb x.0 a) (same a ms) (eqb m.0 a)

same-last : (a : ℕ) (ms : List Metric) → same a ms ≡ true → last_of a ms ≡ a
unfolding same last_of
same-last a [] e = refl
same-last a (m ∷ ms) e =
    let p = both_true (eqb m.0 a) (same a ms) e in
    let q : m.0 ≡ a = eqb-true m.0 a p.0 in
    rw q (same-last a ms p.1)

new_count_cons : (m : Metric) (ms : List Metric) → new_count (m ∷ ms) ≡ pick (same m.0 ms) 1 (suc (new_count ms))
unfolding same
new_count_cons m ms = refl

shift : (t u q : Bool) (m n : ℕ) → (t ≡ true → q ≡ u) → pick (both t u) 1 (suc (pick q m n)) ≡ pick q (pick t 1 (suc m)) (suc n)
shift true true q m n h = rw (h refl)
shift true false q m n h = rw (h refl)
shift false u true m n h = refl
shift false u false m n h = refl

either_way : (t : Bool) (n : ℕ) → pick t n n ≡ n
either_way true n = refl
either_way false n = refl

new_count-more : (x : Metric) (ms : List Metric) (m : Metric) → new_count (x ∷ (ms ++ m ∷ [])) ≡ pick (eqb m.0 (last_of x.0 ms)) (new_count (x ∷ ms)) (suc (suc (length ms)))
unfolding last_of
new_count-more x [] m = unfold same in rw both_end
new_count-more x (y ∷ ms) m =
    rw (new_count_cons x (y ∷ (ms ++ m ∷ [])), new_count_cons x (y ∷ ms), same_snoc x.0 (y ∷ ms) m, new_count-more y ms m)
    (shift (same x.0 (y ∷ ms)) (eqb m.0 x.0) (eqb m.0 (last_of y.0 ms)) (new_count (y ∷ ms)) (suc (suc (length ms)))
    (λ e. ap (λ (z : ℕ). eqb m.0 z) (same-last x.0 (y ∷ ms) e)))

-- of no metrics the count is 1 whatever the first advance is compared with
new_count_snoc : (ms : List Metric) (m : Metric) (a : ℕ) → new_count (ms ++ m ∷ []) ≡ pick (eqb m.0 (last_of a ms)) (new_count ms) (suc (length ms))
unfolding last_of
new_count_snoc [] m a = sym (either_way (eqb m.0 a) 1)
new_count_snoc (x ∷ ms) m a = new_count-more x ms m

last_of_snoc : (a : ℕ) (ms : List Metric) (m : Metric) → last_of a (ms ++ m ∷ []) ≡ m.0
unfolding last_of
last_of_snoc a [] m = refl
last_of_snoc a (x ∷ ms) m = last_of_snoc x.0 ms m

-- the loop that counts: `count` is that of the first i metrics, `last` the last advance of them (0 before the first turn)
pub record Counting (ms : List Metric) (count last i : ℕ) : Type 0 where
  pub within : i ≤ length ms
  pub is_last : last ≡ last_of 0 (take i ms)
  pub is-count : count ≡ new_count (take i ms)

pub count-start : (ms : List Metric) → Counting ms 1 0 0
count-start ms = record { within = omega arith; is_last = unfold last_of in refl; is-count = refl }

module _ (ms : List Metric) (count last i a : ℕ) (m : Metric) (v : Counting ms count last i) (lt : i < length ms) (e : m ≡ get_or ms i (0, 0)) (ea : a ≡ m.0) where
  taken_more : take (i + 1) ms ≡ take i ms ++ m ∷ []
  taken_more = rw (add-one, take-suc ms i (0, 0) lt, e)

  count-after : (t : Bool) → eqb a last ≡ t → new_count (take (i + 1) ms) ≡ pick t count (i + 1)
  count-after t q =
      rw (taken_more, new_count_snoc (take i ms) m 0, ← v.is_last, ← v.is-count, ← ea, q, length-take-le i ms v.within, add-one)

  last-is : a ≡ last_of 0 (take (i + 1) ms)
  last-is = ea ∙ sym (ap (λ (l : List Metric). last_of 0 l) taken_more ∙ last_of_snoc 0 (take i ms) m)

  pub count_same : a ≡ last → Counting ms count last (i + 1)
  count_same q = record { within = omega arith; is_last = sym q ∙ last-is; is-count = sym (count-after true (eq-eqb a last q)) }

  pub count-new : (a ≡ last → ⊥) → Counting ms (i + 1) a (i + 1)
  count-new q = record { within = omega arith; is_last = last-is; is-count = sym (count-after false (ne_eqb a last q)) }

pub count_end : (ms : List Metric) (count last i : ℕ) → Counting ms count last i → i ≡ length ms → count ≡ new_count ms
count_end ms count last i v e = v.is-count ∙ rw (e, take-length)

-- the new count is at least 1, and at most the number of metrics
pick_range : (t : Bool) (m n : ℕ) → m ≤ n → (0 < pick t 1 (suc m)) × (pick t 1 (suc m) ≤ suc n)
pick_range true m n h = omega arith
pick_range false m n h = omega arith

pub new_count-some : (ms : List Metric) → 0 < new_count ms
new_count-some [] = omega arith
new_count-some (m ∷ ms) = rw (new_count_cons m ms) (pick_range (same m.0 ms) (new_count ms) (new_count ms) (omega arith)).0

pub new_count-most : (ms : List Metric) → 0 < length ms → new_count ms ≤ length ms
new_count-most [] h = absurd (not-suc-le-zero h)
new_count-most (m ∷ []) h = omega arith
new_count-most (m ∷ x ∷ ms) h =
    rw (new_count_cons m (x ∷ ms))
    (pick_range (same m.0 (x ∷ ms)) (new_count (x ∷ ms)) (length (x ∷ ms)) (new_count-most (x ∷ ms) (some (length ms)))).1
  where
    some : (n : ℕ) → 0 < suc n
    some n = omega arith
