-- What the code's answers mean, in document 01's numbers, and the metrics that the writer is called for.
use Rattle.std.specs.Prelude.{ℕ, List, [], length, Result}
use Rattle.answer.specs.Answers.{res_of}
use Rattle.answer.specs.declared.Refusal.{Refusal}
use Rattle.model.specs.Res.{Res, map_res, each, value_of}
use Rattle.model.specs.Bytes.{Bytes}
use Rattle.model.specs.Metrics.{Metric, metric, metrics, new_count, new_hmtx}
use Rattle.hmtx.specs.declared.Measured.{Measured}

abbrev pub measured_of : Result Measured Refusal → Res (ℕ × ℕ)
measured_of r = map_res (λ m. (m.count, m.size)) (res_of r)

-- the new count, and the length of the new hmtx
abbrev pub sizes : List Metric → ℕ × ℕ
sizes ms = (new_count ms, length (new_hmtx (new_count ms) ms))

-- the new count, or the refusal where a kept metric lies outside hmtx
abbrev pub counted : Bytes → ℕ → List ℕ → Res ℕ
counted hmtx c roster = map_res new_count (each (metric hmtx c) roster)

-- the kept glyphs' metrics, where step 6 refuses nothing
abbrev pub metrics_of : Bytes → Bytes → List ℕ → List Metric
metrics_of hhea hmtx roster = value_of [] (metrics hhea hmtx roster)
