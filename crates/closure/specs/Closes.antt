-- What the whole promises: the walk's answer, with the kept outlines' lengths added up, and in the scratch its roster and the new numbers, and nothing
-- of other glyphs.
use Rattle.std.specs.Prelude.{Result, Ok, Err, ◌≡◌, false, List, map, ℕ, ◌+◌, ◌*◌, ◌≤◌, ◌<◌, length, drop}
use Rattle.model.specs.Res.{Res, refuse, ok, map_res, ◌>>=◌}
use Rattle.model.specs.Bytes.{Bytes, sum}
use Rattle.model.specs.Glyf.{Width, short, entry_size, glyph_bytes}
use Rattle.model.specs.Outline.{outline, components}
use Rattle.model.specs.Walk.{walk}
use Rattle.glyf.specs.Pieces.{raised_to}
use Rattle.remapper.specs.Scratch.{Sweepable}
use Rattle.remapper.specs.State.{Rostered}
use Rattle.answer.specs.declared.Refusal.{Refusal}
use Rattle.answer.specs.Answers.{number}
use Rattle.closure.specs.declared.Kept.{Kept}

-- a glyph's components, and step 5's walk, over what the code is lent (`parts_of` and `closure` of a font's tables are these)
unfoldable pub parts_in : Width → ℕ → Bytes → Bytes → ℕ → Res (List ℕ)
parts_in w n loca glyf g = map_res components (glyph_bytes w loca glyf g >>= λ b. outline n b)

unfoldable pub walk_in : Width → ℕ → Bytes → Bytes → List ℕ → Res (List ℕ)
walk_in w n loca glyf ids = walk (2 + length ids + n * length glyf) n (parts_in w n loca glyf) ids

-- loca has the two offsets of each of the n glyphs, as n's own definition makes sure
abbrev pub Offsets : Width → ℕ → Bytes → Type 0
Offsets w n loca = 0 < n → entry_size w * (n + 1) ≤ length loca

-- glyphs' lengths together: "odd ones raised by 1", and as they are
abbrev pub even_length : (ℕ → ℕ) → List ℕ → ℕ
even_length lengths gs = sum (map (λ g. raised_to short (lengths g)) gs)

abbrev pub raw_length : (ℕ → ℕ) → List ℕ → ℕ
raw_length lengths gs = sum (map lengths gs)

-- so many glyphs are kept, of these lengths together, or the refusal
abbrev pub closed_of : Result Kept Refusal → Res (ℕ × ℕ × ℕ)
closed_of (Ok k) = ok (k.kept, k.even, k.raw)
closed_of (Err e) = refuse (number e)

abbrev pub totals : (ℕ → ℕ) → List ℕ → ℕ × ℕ × ℕ
totals lengths r = (length r, even_length lengths r, raw_length lengths r)

pub record Closes (lengths : ℕ → ℕ) (walked : Res (List ℕ)) (n : ℕ) (s s' : List ℕ) (a : Result Kept Refusal) : Type 0 where
  pub answer : closed_of a ≡ map_res (totals lengths) walked
  pub scratch : (r : List ℕ) → walked ≡ ok r → Rostered n s' r
  pub sweepable : (r : List ℕ) → walked ≡ ok r → Sweepable n s' (length r) false
  pub past : drop (4 * n) s' ≡ drop (4 * n) s
