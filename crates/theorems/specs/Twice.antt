-- Cutting twice is cutting once. For every font, index and first list that is cut successfully, with an hhea of 36 bytes and no kept glyph that
-- takes a missing name from a version 2 post table; for every list of glyphs kept: asking the small file for their new numbers and the original
-- for the old ones, with equal output room and scratch enough for each, gives the same refusal or the same bytes, and the rosters compose.
use Rattle.std.specs.Prelude.{◌≡◌, true, List, map, ℕ, ◌+◌, ◌*◌, ◌-◌, ◌≤◌, ◌<◌, length, get_or, take}
use Rattle.std.proofs.Math.Option.{some}
use Rattle.model.specs.Res.{ok}
use Rattle.model.specs.Bytes.{Bytes, word16, word32, all, member, place}
use Rattle.model.specs.Font.{Tables, read}
use Rattle.model.specs.Post.{names_of}
use Rattle.model.specs.Cut.{count}
use Rattle.model.specs.Call.{Input, Answer, Promise, answer, out_after, scratch_after}

-- what a call leaves: the file at the start of the output, and the roster at the start of the scratch
abbrev pub file_of : Input → Bytes
file_of x = take (answer x).length (out_after x)

abbrev pub roster_of : Input → List ℕ
roster_of x = take (answer x).kept (scratch_after x)

-- a lent font is of bytes
abbrev pub AreBytes : Bytes → Type 0
AreBytes b = (i : ℕ) → get_or b i 0 < 256

-- "an hhea of 36 bytes"
abbrev pub Hhea36 : Input → Type 0
Hhea36 x = (t : Tables) → read x.font x.index ≡ ok t → length t.hhea ≡ 36

-- "no kept glyph that takes a missing name from a version 2 post table": each with an index of 258 or more has its name
abbrev pub NoneMissing : Bytes → List ℕ → Type 0
NoneMissing post roster =
    word32 post 0 ≡ 0x00020000 → (g : ℕ) → member g roster ≡ true
    → 257 < word16 post (34 + 2 * g) → word16 post (34 + 2 * g) - 258 < length (names_of post)

abbrev pub Named : Input → Type 0
Named x = (t : Tables) (post : Bytes) → read x.font x.index ≡ ok t → t.post ≡ some post → NoneMissing post (roster_of x)

-- the first call
pub record FirstCut (x : Input) : Type 0 where
  pub bytes : AreBytes x.font
  pub success : (answer x).refusal ≡ 0
  pub hhea36 : Hhea36 x
  pub named : Named x

-- "Scratch must hold 4n numbers"
abbrev pub ScratchEnough : Input → Type 0
ScratchEnough x = (t : Tables) → read x.font x.index ≡ ok t → 4 * count t ≤ length x.scratch

-- two more calls: "asking the small file for their new numbers" (at any index) "and the original for the old ones,
-- with equal output room and scratch enough for each"
pub record Asked (first : Input) (glyphs : List ℕ) (small direct : Input) : Type 0 where
  pub kept : all (λ g. member g (roster_of first)) glyphs ≡ true
  pub small_file : small.font ≡ file_of first
  pub new_numbers : small.ids ≡ map (place (roster_of first)) glyphs
  pub original : (direct.font ≡ first.font) × (direct.index ≡ first.index)
  pub old_numbers : direct.ids ≡ glyphs
  pub room : length small.out ≡ length direct.out
  pub scratch : ScratchEnough small × ScratchEnough direct

-- "the same refusal or the same bytes, and the rosters compose": the second roster, read through the first, is the direct one
pub record Same (first small direct : Input) : Type 0 where
  pub answers : answer small ≡ answer direct
  pub files : (answer direct).refusal ≡ 0 → file_of small ≡ file_of direct
  pub rosters : map (λ k. get_or (roster_of first) k 0) (roster_of small) ≡ roster_of direct

abbrev pub CuttingTwice : Type 0
CuttingTwice = (first small direct : Input) (glyphs : List ℕ) → FirstCut first → Asked first glyphs small direct → Same first small direct

-- What is said here of a call is said of whatever meets the public promise
abbrev pub HandedBack : Type 0
HandedBack =
    (x : Input) (r : Answer) (out : Bytes) (scratch : List ℕ) → Promise x r out scratch
    → (r ≡ answer x) × (take r.length out ≡ file_of x) × (take r.kept scratch ≡ roster_of x)
