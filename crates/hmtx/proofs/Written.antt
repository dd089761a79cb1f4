-- The new hmtx as the writing loops leave it: records of one width each, and how long they are together.
use Prim.Native.Nat.{ℕ, zero, suc, ◌+◌, ◌*◌, ◌≤◌, ◌<◌}
use mathlib.Core.Path.{◌≡◌, refl, ap}
use mathlib.Core.List.{List, [], ◌∷◌, ◌++◌, flat_map}
use native.Mathlib.Omega.{arith}
use native.Mathlib.Nat.{le_of_suc-le-suc, not-suc-le-zero}
use lib.ListN.{length, get_or, take, drop, length-append, length-drop, length-map}
use lib.Seq.{length-take-le}
use Rattle.model.specs.Bytes.{Bytes, be16}
use Rattle.model.specs.Metrics.{Metric, pairs, bearings, new_hmtx}
use Rattle.hmtx.specs.Places.{metric_at, metrics_at}

-- what is written for one glyph
unfoldable pub pair_bytes : Bytes → ℕ → ℕ → Bytes
pair_bytes h c g = be16 (metric_at h c g).0 ++ be16 (metric_at h c g).1

unfoldable pub bearing_bytes : Bytes → ℕ → ℕ → Bytes
bearing_bytes h c g = be16 (metric_at h c g).1

module _ (h : Bytes) (c : ℕ) where
  pub length_pair : (g : ℕ) → length (pair_bytes h c g) ≡ 4
  unfolding pair_bytes
  length_pair g = refl

  pub length_bearing : (g : ℕ) → length (bearing_bytes h c g) ≡ 2
  unfolding bearing_bytes
  length_bearing g = refl

  pub pairs-run : (ids : List ℕ) → pairs (metrics_at h c ids) ≡ flat_map (pair_bytes h c) ids
  unfolding metrics_at pair_bytes flat_map
  pairs-run [] = refl
  pairs-run (g ∷ ids) = ap (λ (r : Bytes). be16 (metric_at h c g).0 ++ (be16 (metric_at h c g).1 ++ r)) (pairs-run ids)

  pub bearings-run : (ids : List ℕ) → bearings (metrics_at h c ids) ≡ flat_map (bearing_bytes h c) ids
  unfolding metrics_at bearing_bytes flat_map
  bearings-run [] = refl
  bearings-run (g ∷ ids) = ap (λ (r : Bytes). be16 (metric_at h c g).1 ++ r) (bearings-run ids)

  pub length-metrics_at : (ids : List ℕ) → length (metrics_at h c ids) ≡ length ids
  unfolding metrics_at
  length-metrics_at ids = length-map ids (metric_at h c)

  pub metrics_at-get : (ids : List ℕ) (i : ℕ) → i < length ids → metric_at h c (get_or ids i 0) ≡ get_or (metrics_at h c ids) i (0, 0)
  unfolding metrics_at
  metrics_at-get [] i lt = absurd (not-suc-le-zero lt)
  metrics_at-get (g ∷ ids) zero lt = refl
  metrics_at-get (g ∷ ids) (suc i) lt = metrics_at-get ids i (le_of_suc-le-suc lt)

  take-metrics_at : (k : ℕ) (ids : List ℕ) → take k (metrics_at h c ids) ≡ metrics_at h c (take k ids)
  unfolding metrics_at
  take-metrics_at zero ids = refl
  take-metrics_at (suc k) [] = refl
  take-metrics_at (suc k) (g ∷ ids) = ap (λ (r : List Metric). metric_at h c g ∷ r) (take-metrics_at k ids)

  drop-metrics_at : (k : ℕ) (ids : List ℕ) → drop k (metrics_at h c ids) ≡ metrics_at h c (drop k ids)
  unfolding metrics_at
  drop-metrics_at zero ids = refl
  drop-metrics_at (suc k) [] = refl
  drop-metrics_at (suc k) (g ∷ ids) = drop-metrics_at k ids

  -- the two loops, one behind the other
  pub new_hmtx-parts : (k : ℕ) (ids : List ℕ) → new_hmtx k (metrics_at h c ids) ≡ pairs (metrics_at h c (take k ids)) ++ bearings (metrics_at h c (drop k ids))
  new_hmtx-parts k ids = rw (take-metrics_at k ids, drop-metrics_at k ids)

pub length_pairs : (ms : List Metric) → length (pairs ms) ≡ 4 * length ms
length_pairs [] = refl
length_pairs (m ∷ ms) = simp (length_pairs ms) (omega arith)

pub length-bearings : (ms : List Metric) → length (bearings ms) ≡ 2 * length ms
length-bearings [] = refl
length-bearings (m ∷ ms) = simp (length-bearings ms) (omega arith)

pub length-new_hmtx : (k : ℕ) (ms : List Metric) → k ≤ length ms → length (new_hmtx k ms) ≡ 2 * length ms + 2 * k
length-new_hmtx k ms h =
    simp (length-append, length_pairs, length-bearings, length-take-le k ms h, length-drop) (omega arith)
