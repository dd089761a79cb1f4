-- Steps 1 to 3 in the code's own steps, and what opening a font promises.
use Rattle.std.specs.Prelude.{◌≡◌, Bool, List, [], ◌∷◌, ℕ, leb, eqb, set, Option, Some, None, Result, IfOk}
use Rattle.model.specs.Res.{Res, pick, both, need, map_res, ◌>>=◌, ◌>>◌}
use Rattle.model.specs.Bytes.{Bytes, word32, holds, place}
use Rattle.model.specs.Font.{Row, OTTO, TTCF, outlines, directory, usable, gather, read}
use Rattle.places.specs.Places.{tag_words, place_at, present_at, contents, Within}
use Rattle.places.specs.declared.Place.{Place}
use Rattle.places.specs.declared.Tables.{Tables as Places}
use Rattle.face.specs.declared.Kind.{Kind}
use Rattle.face.specs.declared.Kind.TheVariants.{TrueType, Cff, Collection}
use Rattle.answer.specs.declared.Refusal.{Refusal}
use Rattle.answer.specs.Answers.{res_of}

-- what the word at a place says that the font is
abbrev pub kind_at : Bytes → ℕ → Option Kind
kind_at b at =
    pick (holds b at 4)
    (pick (outlines (word32 b at)) (Some TrueType) (pick (eqb (word32 b at) OTTO) (Some Cff) (pick (eqb (word32 b at) TTCF) (Some Collection) None)))
    None

-- the code's own steps: a record's place; the places with a record more; with all of them; step 3's tests
unfoldable pub row_place : Bytes → Row → Option Place
row_place font r = pick (holds font r.offset r.size) (Some (record { offset = r.offset; length = r.size })) None

unfoldable pub noted_row : Bytes → Row → Places → Places
noted_row font r t =
    let k = place tag_words r.tag in
    pick (leb 11 k) t (pick (present_at t k) t (record { places = set t.places k (row_place font r) }))

unfoldable pub noted_rows : Bytes → List Row → Places → Places
noted_rows font [] t = t
noted_rows font (r ∷ rs) t = noted_rows font rs (noted_row font r t)

abbrev pub there : Places → ℕ → ℕ → Bool
there t k least = both (present_at t k) (leb least (place_at t k).length)

-- glyf; then loca, head, hhea, hmtx, maxp
abbrev pub tested : Places → Res (Unit {0})
tested t = do
  need 2 (there t 2 0)
  need 3 (there t 6 0)
  need 3 (there t 3 52)
  need 3 (there t 4 36)
  need 3 (there t 5 0)
  need 3 (there t 7 6)

-- what `open_at` and `open` promise: document 01's steps 2 and 3, and 1 to 3
pub record OpenedAt (font : Bytes) (at : ℕ) (r : Result Places Refusal) : Type 0 where
  pub reads : map_res (contents font) (res_of r) ≡ (directory font at >>= λ rs. gather (usable font rs))
  pub within : IfOk r (Within font)

pub record Opened (font : Bytes) (index : ℕ) (r : Result Places Refusal) : Type 0 where
  pub reads : map_res (contents font) (res_of r) ≡ read font index
  pub within : IfOk r (Within font)
