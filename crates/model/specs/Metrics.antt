-- Step 6, hmtx and hhea.
use Rattle.std.specs.Prelude.{List, [], ◌∷◌, ◌++◌, ℕ, suc, ◌+◌, ◌*◌, ◌-◌, ltb, eqb, length, take, drop}
use Rattle.model.specs.Res.{Res, ok, pick, need, each, ◌>>◌}
use Rattle.model.specs.Bytes.{Bytes, word16, be16, holds, all}

-- advance and bearing
abbrev pub Metric : Type 0
Metric = ℕ × ℕ

-- "hhea's word at 34 is the old count"
abbrev pub old_count : Bytes → ℕ
old_count hhea = word16 hhea 34

-- "An id below the old count reads advance and bearing at 4 times id; another reads its bearing at
-- 4 times count + 2 times (id minus count), with the last long advance"; "any kept glyph's metric, outside hmtx: 3"
unfoldable pub metric : Bytes → ℕ → ℕ → Res Metric
metric hmtx count g =
    pick (ltb g count)
    (need 3 (holds hmtx (4 * g) 4) >> ok (word16 hmtx (4 * g), word16 hmtx (4 * g + 2)))
    (need 3 (holds hmtx (4 * count + 2 * (g - count)) 2)
    >> ok (word16 hmtx (4 * (count - 1)), word16 hmtx (4 * count + 2 * (g - count))))

-- "0 is 5. The last long advance, or any kept glyph's metric, outside hmtx: 3"
unfoldable pub metrics : Bytes → Bytes → List ℕ → Res (List Metric)
metrics hhea hmtx roster = do
  need 5 (ltb 0 (old_count hhea))
  need 3 (holds hmtx (4 * (old_count hhea - 1)) 2)
  each (metric hmtx (old_count hhea)) roster

-- "The new count is the smallest k of at least 1 such that all new advances from place k minus 1 on are equal"
abbrev pub new_count : List Metric → ℕ
new_count [] = 1
new_count (m ∷ ms) = pick (all (λ x. eqb x.0 m.0) ms) 1 (suc (new_count ms))

-- "Written: that many pairs of advance and bearing, then the other bearings"
abbrev pub pairs : List Metric → Bytes
pairs [] = []
pairs (m ∷ ms) = be16 m.0 ++ (be16 m.1 ++ pairs ms)

abbrev pub bearings : List Metric → Bytes
bearings [] = []
bearings (m ∷ ms) = be16 m.1 ++ bearings ms

abbrev pub new_hmtx : ℕ → List Metric → Bytes
new_hmtx k ms = pairs (take k ms) ++ bearings (drop k ms)

-- "hhea: all but its last two bytes, then the new count"
abbrev pub new_hhea : Bytes → ℕ → Bytes
new_hhea hhea k = take (length hhea - 2) hhea ++ be16 k
