-- The code's places hold the model's metric, and only inside hmtx: by whether the id is below the old count.
use Prim.Native.Nat.{ℕ, zero, suc, ◌+◌, ◌*◌, ◌-◌, ◌≤◌, ◌<◌}
use mathlib.Core.Path.{◌≡◌, refl}
use mathlib.Core.Bool.{Bool, true, false}
use mathlib.Core.List.{List, [], ◌∷◌}
use native.Mathlib.Omega.{arith}
use native.Mathlib.Decide.{dec_lt}
use native.Mathlib.Nat.{le_of_suc-le-suc, not-suc-le-zero}
use native.Mathlib.Numerals.{add-one}
use borrow.Author.Tests.{lt-ltb, le-ltb, leb-true, le-leb, lt-leb}
use lib.Dec.{leb}
use lib.ListN.{length, drop, get_or}
use lib.Seq.{drop-cons}
use Rattle.model.specs.Res.{refuse, ok, pick, both, need, each, ◌>>=◌, ◌>>◌}
use Rattle.model.specs.Bytes.{Bytes, all}
use Rattle.model.specs.Metrics.{Metric, metric}
use Rattle.model.proofs.Res.{both_true}
use Rattle.hmtx.specs.Places.{advance_place, bearing_place, inside, metric_at, metrics_at}

-- the advance lies before the bearing, or is the last long one
pub advance_in : (c g n : ℕ) → 0 < c → 4 * (c - 1) + 2 ≤ n → bearing_place c g + 2 ≤ n → advance_place c g + 2 ≤ n
unfolding advance_place bearing_place
advance_in c g n hc hl hb =
    elim (dec_lt g c) [
      | yes lt ↦ (let e = simp (lt-ltb g c lt) at hb in simp (lt-ltb g c lt) (omega arith))
      | no ge ↦ (let ge' : c ≤ g = omega arith in simp (le-ltb g c ge') hl)
    ]

pub bearing_small : (c g : ℕ) → c ≤ 65535 → g ≤ 65535 → bearing_place c g ≤ 393210
unfolding bearing_place
bearing_small c g hc hg =
    elim (dec_lt g c) [
      | yes lt ↦ simp (lt-ltb g c lt) (omega arith)
      | no ge ↦ (let ge' : c ≤ g = omega arith in simp (le-ltb g c ge') (omega arith))
    ]

-- one metric, and all of them: the first outside hmtx is refusal 3
pub metric-at : (h : Bytes) (c g : ℕ) → metric h c g ≡ pick (inside h c g) (ok (metric_at h c g)) (refuse 3)
unfolding metric inside metric_at advance_place bearing_place
metric-at h c g =
    elim (dec_lt g c) [
      | yes lt ↦ (let e : 4 * g + 2 + 2 ≡ 4 * g + 4 = omega arith in simp (lt-ltb g c lt, e) (tested (leb (4 * g + 4) (length h)) _))
      | no ge ↦ (let ge' : c ≤ g = omega arith in simp (le-ltb g c ge') (tested (leb (4 * c + 2 * (g - c) + 2) (length h)) _))
    ]
  where
    tested : (t : Bool) (m : Metric) → (need 3 t >> ok m) ≡ pick t (ok m) (refuse 3)
    tested true m = refl
    tested false m = refl

pub each-metric : (h : Bytes) (c : ℕ) (ids : List ℕ) → each (metric h c) ids ≡ pick (all (inside h c) ids) (ok (metrics_at h c ids)) (refuse 3)
unfolding metrics_at
each-metric h c [] = refl
each-metric h c (g ∷ ids) =
    rw (metric-at h c g, each-metric h c ids) (joined (inside h c g) (all (inside h c) ids) (metric_at h c g) (metrics_at h c ids))
  where
    joined : (t u : Bool) (m : Metric) (ms : List Metric) → (pick t (ok m) (refuse 3) >>= λ y. pick u (ok ms) (refuse 3) >>= λ ys. ok (y ∷ ys)) ≡ pick (both t u) (ok (m ∷ ms)) (refuse 3)
    joined true true m ms = refl
    joined true false m ms = refl
    joined false u m ms = refl

pub inside-at : (h : Bytes) (c : ℕ) (ids : List ℕ) (i : ℕ) → all (inside h c) ids ≡ true → i < length ids → bearing_place c (get_or ids i 0) + 2 ≤ length h
unfolding inside
inside-at h c [] i e lt = absurd (not-suc-le-zero lt)
inside-at h c (g ∷ ids) zero e lt = leb-true _ _ (both_true (inside h c g) (all (inside h c) ids) e).0
inside-at h c (g ∷ ids) (suc i) e lt = inside-at h c ids i (both_true (inside h c g) (all (inside h c) ids) e).1 (le_of_suc-le-suc lt)

-- a turn of the loop that tests them, and where it stops
pub inside-turn : (h : Bytes) (c : ℕ) (ids : List ℕ) (i : ℕ) → i < length ids → bearing_place c (get_or ids i 0) + 2 ≤ length h → all (inside h c) (drop i ids) ≡ all (inside h c) (drop (i + 1) ids)
unfolding inside
inside-turn h c ids i lt le = rw (add-one, drop-cons ids i 0, le-leb (bearing_place c (get_or ids i 0) + 2) (length h) le)

pub inside-stop : (h : Bytes) (c : ℕ) (ids : List ℕ) (i : ℕ) → i < length ids → length h < bearing_place c (get_or ids i 0) + 2 → all (inside h c) (drop i ids) ≡ false
unfolding inside
inside-stop h c ids i lt gt = rw (drop-cons ids i 0, lt-leb (bearing_place c (get_or ids i 0) + 2) (length h) gt)
