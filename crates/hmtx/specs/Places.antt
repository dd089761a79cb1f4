-- Where the code reads a metric. h is the old hmtx, c the old count, g an old id.
use Rattle.std.specs.Prelude.{ℕ, ◌+◌, ◌*◌, ◌-◌, ◌<◌, ◌≤◌, Bool, List, map, ltb, leb, length, get_or}
use Rattle.model.specs.Res.{pick}
use Rattle.model.specs.Bytes.{Bytes, word16}
use Rattle.model.specs.Metrics.{Metric}

unfoldable pub advance_place : ℕ → ℕ → ℕ
advance_place c g = pick (ltb g c) (4 * g) (4 * (c - 1))

unfoldable pub bearing_place : ℕ → ℕ → ℕ
bearing_place c g = pick (ltb g c) (4 * g + 2) (4 * c + 2 * (g - c))

-- the metric lies inside hmtx: its bearing does, since its advance stands before that or is the last long one
unfoldable pub inside : Bytes → ℕ → ℕ → Bool
inside h c g = leb (bearing_place c g + 2) (length h)

-- what is read there (law `metric-at`: inside hmtx it is the model's `metric`)
unfoldable pub metric_at : Bytes → ℕ → ℕ → Metric
metric_at h c g = (word16 h (advance_place c g), word16 h (bearing_place c g))

unfoldable pub metrics_at : Bytes → ℕ → List ℕ → List Metric
metrics_at h c ids = map (metric_at h c) ids

-- what step 6 has made sure of before anything is written: the old count, and every kept metric
pub record Room (h : Bytes) (c : ℕ) (ids : List ℕ) : Type 0 where
  pub some : 0 < c
  pub small : c ≤ 65535
  pub long : 4 * (c - 1) + 2 ≤ length h
  pub metrics : (i : ℕ) → i < length ids → bearing_place c (get_or ids i 0) + 2 ≤ length h
  pub few : length ids ≤ 65535
