-- "What a call gives back": the public call's answer, and the output and the scratch afterwards.
use Rattle.std.specs.Prelude.{◌≡◌, Bool, true, false, List, ◌++◌, ℕ, ◌*◌, ◌-◌, leb, length, drop, replicate}
use Rattle.model.specs.Res.{Res, refuse, ok, pick, need, ◌>>=◌, ◌>>◌}
use Rattle.model.specs.Bytes.{Bytes, over}
use Rattle.model.specs.Font.{Tables, read}
use Rattle.model.specs.File.{entries, file}
use Rattle.model.specs.Cut.{cut_tables, count}

-- "From a lent font, a face index, a lent list of 16-bit glyph ids, a lent scratch slice of 16-bit numbers and a lent output buffer"
pub record Input : Type 0 where
  pub font : Bytes
  pub index : ℕ
  pub ids : List ℕ
  pub scratch : List ℕ
  pub out : Bytes

-- "Success: the file's length, the number N of glyphs" (refusal 0); "A refusal reports N = 0 and length 0, but 6 reports the length needed"
pub record Answer : Type 0 where
  pub refusal : ℕ
  pub kept : ℕ
  pub length : ℕ

-- Steps 1 to 4. "Scratch must hold 4n numbers": 8
unfoldable pub ready : Input → Res Tables
ready x = do
  t ← read x.font x.index
  need 8 (leb (4 * count t) (length x.scratch))
  ok t

pub record Made : Type 0 where
  pub roster : List ℕ
  pub bytes : Bytes

-- Steps 5 to 9. "File longer than 4,294,967,295 bytes: 5"
unfoldable pub made : Tables → List ℕ → Res Made
made t ids = do
  c ← cut_tables t ids
  need 5 (leb (length (file (entries c.tables))) 4294967295)
  ok (record { roster = c.roster; bytes = file (entries c.tables) })

-- Step 10. "Output shorter than the file: 6"
abbrev pub delivered : Bool → Made → Answer
delivered true m = record { refusal = 0; kept = length m.roster; length = length m.bytes }
delivered false m = record { refusal = 6; kept = 0; length = length m.bytes }

abbrev pub last : ℕ → Res Made → Answer
last room (refuse k) = record { refusal = k; kept = 0; length = 0 }
last room (ok m) = delivered (leb (length m.bytes) room) m

unfoldable pub answer : Input → Answer
answer x = last (length x.out) (ready x >>= λ t. made t x.ids)

-- "the file at the start of the output, the rest of it unchanged"; on a refusal "Output is unchanged"
abbrev pub out_from : Bytes → Res Made → Bytes
out_from out (refuse k) = out
out_from out (ok m) = pick (leb (length m.bytes) (length out)) (over m.bytes out) out

unfoldable pub out_after : Input → Bytes
out_after x = out_from x.out (ready x >>= λ t. made t x.ids)

-- "After success its first N places are the roster: old ids in new order; the others of the first 4n are zero.
-- A refusal at step 5 or later leaves those 4n zero"
abbrev pub places_from : ℕ → ℕ → Res Made → List ℕ
places_from places room (refuse k) = replicate places 0
places_from places room (ok m) =
    pick (leb (length m.bytes) room) (m.roster ++ replicate (places - length m.roster) 0) (replicate places 0)

-- "Earlier refusals change nothing. Places past 4n never change"
abbrev pub scratch_from : Input → Res Tables → List ℕ
scratch_from x (refuse k) = x.scratch
scratch_from x (ok t) = places_from (4 * count t) (length x.out) (made t x.ids) ++ drop (4 * count t) x.scratch

unfoldable pub scratch_after : Input → List ℕ
scratch_after x = scratch_from x (ready x)

-- what the public call promises: it determines the answer and both lent slices
pub record Promise (x : Input) (r : Answer) (out : Bytes) (scratch : List ℕ) : Type 0 where
  pub answers : r ≡ answer x
  pub writes : out ≡ out_after x
  pub leaves : scratch ≡ scratch_after x
