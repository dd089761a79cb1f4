-- What the places mean: the tables' contents, as parts of the font.
use Rattle.std.specs.Prelude.{Bool, None, is_some, List, [], ◌∷◌, ℕ, ◌+◌, ◌≤◌, ◌<◌, length, get_or, replicate}
use Rattle.std.specs.Option.{unwrap_or}
use Rattle.std.proofs.Math.Option.{Option, none, some}
use Rattle.model.specs.Res.{pick}
use Rattle.model.specs.Bytes.{Bytes, part}
use Rattle.model.specs.Font.{Tables, CVT, FPGM, GLYF, HEAD, HHEA, HMTX, LOCA, MAXP, NAME, POST, PREP}
use Rattle.places.specs.declared.Place.{Place}
use Rattle.places.specs.declared.Tables.{Tables as Places}

-- the eleven tags as words, in tag order
abbrev pub tag_words : List ℕ
tag_words = CVT ∷ FPGM ∷ GLYF ∷ HEAD ∷ HHEA ∷ HMTX ∷ LOCA ∷ MAXP ∷ NAME ∷ POST ∷ PREP ∷ []

-- where table number k stands, at 0 with no length if it is missing; and whether it is there
abbrev pub missing : Place
missing = record { offset = 0; length = 0 }

abbrev pub place_at : Places → ℕ → Place
place_at t k = unwrap_or (get_or t.places k None) missing

abbrev pub present_at : Places → ℕ → Bool
present_at t k = is_some (get_or t.places k None)

-- the contents of table number k, and those of one that may be missing
unfoldable pub content_at : Bytes → Places → ℕ → Bytes
content_at font t k = part font (place_at t k).offset (place_at t k).length

unfoldable pub option_at : Bytes → Places → ℕ → Option Bytes
option_at font t k = pick (present_at t k) (some (content_at font t k)) none

-- the tables that the places give
unfoldable pub contents : Bytes → Places → Tables
contents font t =
    record {
      cvt = option_at font t 0;
      fpgm = option_at font t 1;
      glyf = content_at font t 2;
      head = content_at font t 3;
      hhea = content_at font t 4;
      hmtx = content_at font t 5;
      loca = content_at font t 6;
      maxp = content_at font t 7;
      name = option_at font t 8;
      post = option_at font t 9;
      prep = option_at font t 10;
    }

-- no table at all
abbrev pub nowhere : Places
nowhere = record { places = replicate 11 None }

-- every place lies in the file, and its numbers are 32-bit words
abbrev pub Within : Bytes → Places → Type 0
Within font t = (k : ℕ) → k < 11 → ((place_at t k).offset + (place_at t k).length ≤ length font) × ((place_at t k).length ≤ 4294967295)
