-- "Simple outlines are copied. Composites are copied with new ids": what a reader of the new font finds at a new id.
use Rattle.std.specs.Prelude.{◌≡◌, true, List, map, ℕ, ◌≤◌, ◌<◌, ltb, length, get_or}
use Rattle.model.specs.Res.{ok}
use Rattle.model.specs.Bytes.{Bytes, place, all}
use Rattle.model.specs.Font.{Tables}
use Rattle.model.specs.Outline.{Outline, outline, components, renumber, written}
use Rattle.model.specs.Glyf.{width_of, glyph_bytes, padded}
use Rattle.model.specs.File.{entries, file}
use Rattle.model.specs.Cut.{CutFont, cut_tables, outline_of}

-- renumbering twice is renumbering by the composition
abbrev pub RenumberTwice : Type 0
RenumberTwice =
    (n : ℕ) (b : Bytes) (o : Outline) (f g : ℕ → ℕ) → outline n b ≡ ok o
    → all (λ c. ltb c 65536) (map f (components o)) ≡ true
    → renumber g (renumber f o) ≡ renumber (λ c. g (f c)) o

-- new glyph k's bytes are its old glyph's outline with new ids, up to the zero that pads it in a short loca
pub record NewOutline (t : Tables) (c : CutFont) (k : ℕ) : Type 0 where
  pub outline : Outline
  pub read : outline_of t (get_or c.roster k 0) ≡ ok outline
  pub stands : let w = width_of c.tables.head in
      glyph_bytes w c.tables.loca c.tables.glyf k ≡ ok (padded w (written (renumber (place c.roster) outline)))

abbrev pub NewOutlines : Type 0
NewOutlines =
    (t : Tables) (ids : List ℕ) (c : CutFont) → 52 ≤ length t.head → cut_tables t ids ≡ ok c → length (file (entries c.tables)) ≤ 4294967295
    → (k : ℕ) → k < length c.roster → NewOutline t c k
