-- "Bench samples (starred: proved together, as one statement over their table)", and "Slips we have seen or nearly made".
use Rattle.std.specs.Prelude.{◌≡◌, Bool, true, false, List, [], ◌∷◌, ◌++◌, map, ℕ, ◌*◌, ◌-◌, T, eqb, length, take, replicate}
use Rattle.std.proofs.Math.Option.{none}
use Rattle.model.specs.Res.{Res, refuse, ok, pick, both, map_res}
use Rattle.model.specs.Bytes.{Bytes, be16, all, concat, same_bytes}
use Rattle.model.specs.Font.{Tables}
use Rattle.model.specs.Outline.{outline, renumber, written}
use Rattle.model.specs.Walk.{walk}
use Rattle.model.specs.Glyf.{Width, short, long, new_width, padded, new_loca}
use Rattle.model.specs.Metrics.{Metric, new_count, new_hmtx}
use Rattle.model.specs.Post.{new_indexes}
use Rattle.model.specs.File.{checksum, search_range, selector, entries, file}
use Rattle.model.specs.Call.{Input, answer, out_after, scratch_after}

pub data Sample : Type 0 where
  -- glyphs with their components (all others are simple), requests: roster
  roster : List (ℕ × List ℕ) → List ℕ → List ℕ → Sample
  -- size: is loca long
  total : ℕ → Bool → Sample
  -- advances: count, hmtx's length
  advances : List ℕ → ℕ → ℕ → Sample
  -- number of tables: search range, selector, shift
  tables : ℕ → ℕ → ℕ → ℕ → Sample
  -- bytes: their checksum
  sum : Bytes → ℕ → Sample
  -- a composite's records by their flags, bytes behind: length kept
  composite : List ℕ → ℕ → ℕ → Sample
  -- a simple outline's length: its length in short, in long
  simple : ℕ → ℕ → ℕ → Sample
  -- outlines by their lengths: loca's bytes, short
  offsets : List ℕ → Bytes → Sample
  -- post's indexes, old and new
  indexes : List ℕ → List ℕ → Sample

abbrev pub parts_in : List (ℕ × List ℕ) → ℕ → Res (List ℕ)
parts_in [] g = ok []
parts_in (x ∷ xs) g = pick (eqb x.0 g) (ok x.1) (parts_in xs g)

abbrev pub is : Res (List ℕ) → List ℕ → Bool
is (refuse k) l = false
is (ok x) l = same_bytes x l

abbrev pub has_length : Res Bytes → ℕ → Bool
has_length (refuse k) n = false
has_length (ok b) n = eqb (length b) n

abbrev pub is_width : Width → Bool → Bool
is_width short true = false
is_width short false = true
is_width long l = l

abbrev pub with_bearing : ℕ → Metric
with_bearing a = (a, 0)

abbrev pub zeros : ℕ → Bytes
zeros n = replicate n 0

-- a composite with such records, of 6 bytes each, all of glyph 1
abbrev pub composite_bytes : List ℕ → ℕ → Bytes
composite_bytes flags behind =
    0xFF ∷ 0xFF ∷ (zeros 8 ++ (concat (map (λ f. be16 f ++ (0 ∷ 1 ∷ 0 ∷ 0 ∷ [])) flags) ++ replicate behind 7))

-- does the model say so (100 glyphs and 100 turns are enough for these rosters)
abbrev pub passes : Sample → Bool
passes (roster parts ids r) = is (walk 100 100 (parts_in parts) ids) r
passes (total s l) = is_width (new_width s) l
passes (advances xs k size) =
    both (eqb (new_count (map with_bearing xs)) k) (eqb (length (new_hmtx k (map with_bearing xs))) size)
passes (tables n range sel shift) =
    both (eqb (search_range n) range) (both (eqb (selector n n) sel) (eqb (16 * n - search_range n) shift))
passes (sum b s) = eqb (checksum b) s
passes (composite flags behind size) =
    has_length (map_res (λ o. written (renumber (λ x. x) o)) (outline 2 (composite_bytes flags behind))) size
passes (simple size s l) = both (eqb (length (padded short (zeros size))) s) (eqb (length (padded long (zeros size))) l)
passes (offsets sizes loca) = same_bytes (new_loca short 0 (map zeros sizes)) loca
passes (indexes old new) = same_bytes (new_indexes 258 old) new

-- the starred samples, in the paper's order: one table, one statement
abbrev pub starred : List Sample
starred =
    roster [] (3 ∷ 39 ∷ 8 ∷ 3 ∷ 10 ∷ 2 ∷ []) (0 ∷ 3 ∷ 39 ∷ 8 ∷ 10 ∷ 2 ∷ [])
    ∷ roster ((5, 7 ∷ 9 ∷ []) ∷ []) (5 ∷ []) (0 ∷ 5 ∷ 9 ∷ 7 ∷ [])
    ∷ roster ((5, 7 ∷ 9 ∷ 7 ∷ []) ∷ []) (5 ∷ []) (0 ∷ 5 ∷ 7 ∷ 9 ∷ [])
    ∷ roster ((5, 9 ∷ 7 ∷ []) ∷ []) (5 ∷ 9 ∷ []) (0 ∷ 5 ∷ 9 ∷ 7 ∷ [])
    ∷ total 131070 false
    ∷ total 131072 true
    ∷ advances (600 ∷ 500 ∷ 500 ∷ 500 ∷ []) 2 12
    ∷ advances (500 ∷ 500 ∷ 500 ∷ []) 1 8
    ∷ tables 6 64 2 32
    ∷ tables 8 128 3 0
    ∷ tables 11 128 3 48
    ∷ sum (0 ∷ 0 ∷ 0 ∷ 1 ∷ 0xFF ∷ []) 0xFF000001
    ∷ sum (0xFF ∷ 0xFF ∷ 0xFF ∷ 0xFF ∷ 0 ∷ 0 ∷ 0 ∷ 2 ∷ []) 1
    ∷ sum [] 0
    ∷ composite (0x0002 ∷ []) 5 16
    ∷ composite (0x0102 ∷ []) 5 21
    ∷ simple 13 14 13
    ∷ []

abbrev pub Starred : Type 0
Starred = T (all passes starred)

-- where a slip of the paper's list would show, beside the starred ones: 0x0100 on a record that isn't the last and on the last;
-- an odd outline in short; post indexes 257 and 258
abbrev pub slips : List Sample
slips =
    composite (0x0122 ∷ 0x0002 ∷ []) 5 22
    ∷ composite (0x0022 ∷ 0x0102 ∷ []) 5 27
    ∷ offsets (13 ∷ 2 ∷ []) (0 ∷ 0 ∷ 0 ∷ 7 ∷ 0 ∷ 8 ∷ [])
    ∷ indexes (300 ∷ 257 ∷ 258 ∷ []) (258 ∷ 257 ∷ 259 ∷ [])
    ∷ []

abbrev pub Slips : Type 0
Slips = T (all passes slips)

-- "glyph 0 empty, id 68 a 12-byte simple outline, equal advances, head 54, hhea 36, maxp 32, no optional tables"
abbrev pub program : Tables
program =
    record {
      cvt = none;
      fpgm = none;
      glyf = replicate 12 1;
      head = replicate 50 2 ++ (0 ∷ 0 ∷ 0 ∷ 0 ∷ []);
      hhea = zeros 35 ++ (1 ∷ []);
      hmtx = 1 ∷ 44 ∷ replicate 138 7;
      loca = zeros 138 ++ (0 ∷ 6 ∷ []);
      maxp = replicate 32 9;
      name = none;
      post = none;
      prep = none;
    }

abbrev pub program_call : Input
program_call = record { font = file (entries program); index = 0; ids = 68 ∷ []; scratch = replicate 276 5; out = replicate 300 3 }

-- "lines `kept 2 length 260`, `0 0`, `1 68`"; and the file's own sum is 0xB1B0AFBA, whatever stood in head's bytes 8 to 11
pub record ProgramSample : Type 0 where
  pub answers : answer program_call ≡ record { refusal = 0; kept = 2; length = 260 }
  pub roster : take 4 (scratch_after program_call) ≡ 0 ∷ 68 ∷ 0 ∷ 0 ∷ []
  pub sums : checksum (take 260 (out_after program_call)) ≡ 0xB1B0AFBA
