-- "Steps, in the order that decides a refusal": each number is given when its step's test is the first that fails, and then only.
-- Tests of one step that give the same number need no order among them.
use Rattle.std.specs.Prelude.{◌≡◌, false, List, [], ◌∷◌, ◌⊎◌, ℕ, ◌+◌, ◌*◌, ◌-◌, ◌≤◌, ◌<◌, length, drop}
use Rattle.std.proofs.Math.Option.{Option, none, some}
use Rattle.model.specs.Res.{refuse, ok, each}
use Rattle.model.specs.Bytes.{Bytes, word16, word32, concat}
use Rattle.model.specs.Font.{Entry, Row, Tables, OTTO, TTCF, outlines, face_start, rows, ascending, directory, usable, find, read, GLYF, HEAD, HHEA, HMTX, LOCA, MAXP}
use Rattle.model.specs.Metrics.{Metric, old_count, metrics}
use Rattle.model.specs.Name.{NameEntry, kept_rows, name_rows, name_entries, store, cut_name}
use Rattle.model.specs.Post.{post_index, new_names, names_of}
use Rattle.model.specs.File.{entries, file}
use Rattle.model.specs.Cut.{count, closure, optional, CutFont, cut_tables}
use Rattle.model.specs.Call.{Input, Made, answer, ready, made}

-- x stands in the list
pub data Among {A : Type 0} (x : A) : List A → Type 0 where
  here : (xs : List A) → Among x (x ∷ xs)
  there : (y : A) (xs : List A) → Among x xs → Among x (y ∷ xs)

-- 1. "In a collection the face's offset is the word at 12 + 4 times index"
abbrev pub Collection : Bytes → Type 0
Collection font = (4 ≤ length font) × (word32 font 0 ≡ TTCF)

abbrev pub face_offset : Bytes → ℕ → ℕ
face_offset font index = word32 font (12 + 4 * index)

abbrev pub Face : Bytes → ℕ → Type 0
Face font index = Collection font × (12 + 4 * index + 4 ≤ length font) × (face_offset font index + 4 ≤ length font)

pub data KindFails (font : Bytes) (index : ℕ) : ℕ → Type 0 where
  -- "0x4F54544F is 2"; "anything else or under 4 bytes is 1"
  under4 : length font < 4 → KindFails font index 1
  otto : 4 ≤ length font → word32 font 0 ≡ OTTO → KindFails font index 2
  unknown : 4 ≤ length font → outlines (word32 font 0) ≡ false → (word32 font 0 ≡ OTTO → ⊥) → (word32 font 0 ≡ TTCF → ⊥) → KindFails font index 1
  -- "missing, past the file, or leading to an unreadable or unknown kind or another collection: 3; to 0x4F54544F: 2"
  missing : Collection font → length font < 12 + 4 * index + 4 → KindFails font index 3
  past : Collection font → 12 + 4 * index + 4 ≤ length font → length font < face_offset font index + 4 → KindFails font index 3
  face_otto : Face font index → word32 font (face_offset font index) ≡ OTTO → KindFails font index 2
  face_unknown : Face font index → outlines (word32 font (face_offset font index)) ≡ false → (word32 font (face_offset font index) ≡ OTTO → ⊥) → KindFails font index 3

-- 2. "12 header bytes and every 16-byte record must be there, tags strictly ascending, else 3"
pub data DirectoryFails (font : Bytes) (at : ℕ) : Type 0 where
  cut : length font < at + 12 + 16 * word16 font (at + 4) → DirectoryFails font at
  unordered : ascending (rows (word16 font (at + 4)) (drop (at + 12) font)) ≡ false → DirectoryFails font at

-- 3. no usable table, or one that is too short
pub data Lacks (tag least : ℕ) (es : List Entry) : Type 0 where
  absent : find tag es ≡ none → Lacks tag least es
  too_short : (b : Bytes) → find tag es ≡ some b → length b < least → Lacks tag least es

pub data TablesFail (es : List Entry) : ℕ → Type 0 where
  -- "No usable glyf: 2"
  no_glyf : find GLYF es ≡ none → TablesFail es 2
  -- "No usable loca, head, hhea, hmtx or maxp, or head under 52 bytes, hhea under 36, maxp under 6: 3"
  no_other : (b : Bytes) → find GLYF es ≡ some b → Lacks LOCA 0 es ⊎ (Lacks HEAD 52 es ⊎ (Lacks HHEA 36 es ⊎ (Lacks HMTX 0 es ⊎ Lacks MAXP 6 es))) → TablesFail es 3

-- 6. "An id below the old count reads advance and bearing at 4 times id; another reads its bearing at 4 times count + 2 times (id minus count)"
pub data Outside (hmtx : Bytes) (count g : ℕ) : Type 0 where
  pair_out : g < count → length hmtx < 4 * g + 4 → Outside hmtx count g
  bearing_out : count ≤ g → length hmtx < 4 * count + 2 * (g - count) + 2 → Outside hmtx count g

pub data MetricsFail (hhea hmtx : Bytes) (roster : List ℕ) : ℕ → Type 0 where
  -- "hhea's word at 34 is the old count; 0 is 5. The last long advance, or any kept glyph's metric, outside hmtx: 3"
  no_count : old_count hhea ≡ 0 → MetricsFail hhea hmtx roster 5
  last_out : 0 < old_count hhea → length hmtx < 4 * (old_count hhea - 1) + 2 → MetricsFail hhea hmtx roster 3
  glyph_out : (g : ℕ) → 0 < old_count hhea → Among g roster → Outside hmtx (old_count hhea) g → MetricsFail hhea hmtx roster 3

-- 7. name
pub data NameFails (b : Bytes) : ℕ → Type 0 where
  -- "Under 2 bytes: 3. Version not 0: copied. Else header, records, storage start must be there (3)"
  under2 : length b < 2 → NameFails b 3
  rows_cut : 2 ≤ length b → word16 b 0 ≡ 0 → length b < 6 + 12 * word16 b 2 → NameFails b 3
  storage_cut : 2 ≤ length b → word16 b 0 ≡ 0 → length b < word16 b 4 → NameFails b 3
  -- "A kept string with offset + length over 65,535 or outside storage: 4"
  string_out : (r : Bytes) → word16 b 0 ≡ 0 → 6 + 12 * word16 b 2 ≤ length b → word16 b 4 ≤ length b
      → Among r (kept_rows (name_rows (word16 b 2) (drop 6 b)))
      → (65535 < word16 r 10 + word16 r 8) ⊎ (length (drop (word16 b 4) b) < word16 r 10 + word16 r 8) → NameFails b 4
  -- "all distinct ones over 65,535 bytes, or over 5,460 kept records: 5. All ranges are tested before either 5"
  storage_full : (es : List NameEntry) → 2 ≤ length b → word16 b 0 ≡ 0 → name_entries b ≡ ok es
      → (65535 < length (concat (store [] es))) ⊎ (5460 < length es) → NameFails b 5

-- 8. post
pub data PostFails (b : Bytes) (roster : List ℕ) : ℕ → Type 0 where
  -- "Under 4 bytes: 3. Version not 0x00020000: copied. Else under 34 bytes, or its index array cut, or no index for a kept id: 3"
  post_under4 : length b < 4 → PostFails b roster 3
  array_cut : 4 ≤ length b → word32 b 0 ≡ 0x00020000 → length b < 34 + 2 * word16 b 32 → PostFails b roster 3
  no_index : (g : ℕ) → 4 ≤ length b → word32 b 0 ≡ 0x00020000 → Among g roster → word16 b 32 ≤ g → PostFails b roster 3
  -- "A new index over 65,535: 5, tested after every 3"
  index_over : (is : List ℕ) → word32 b 0 ≡ 0x00020000 → 34 + 2 * word16 b 32 ≤ length b → each (post_index b) roster ≡ ok is
      → 65535 < 257 + length (new_names (names_of b) is) → PostFails b roster 5

-- All steps: those before passed, with what they found, and this one's test fails
pub data Refuses (x : Input) : ℕ → Type 0 where
  at_kind : (k : ℕ) → KindFails x.font x.index k → Refuses x k
  at_directory : (at : ℕ) → face_start x.font x.index ≡ ok at → DirectoryFails x.font at → Refuses x 3
  at_tables : (k at : ℕ) (rs : List Row) → face_start x.font x.index ≡ ok at → directory x.font at ≡ ok rs → TablesFail (usable x.font rs) k → Refuses x k
  -- "Scratch: 8"
  at_scratch : (t : Tables) → read x.font x.index ≡ ok t → length x.scratch < 4 * count t → Refuses x 8
  -- "Numbering and closure: 3 or 7, whichever comes first" (for which reasons: `WalkRefuses`)
  at_walk : (k : ℕ) (t : Tables) → ready x ≡ ok t → closure t x.ids ≡ refuse k → Refuses x k
  at_metrics : (k : ℕ) (t : Tables) (r : List ℕ) → ready x ≡ ok t → closure t x.ids ≡ ok r → MetricsFail t.hhea t.hmtx r k → Refuses x k
  at_name : (k : ℕ) (t : Tables) (r : List ℕ) (ms : List Metric) (b : Bytes) → ready x ≡ ok t → closure t x.ids ≡ ok r → metrics t.hhea t.hmtx r ≡ ok ms
      → t.name ≡ some b → NameFails b k → Refuses x k
  at_post : (k : ℕ) (t : Tables) (r : List ℕ) (ms : List Metric) (n : Option Bytes) (b : Bytes) → ready x ≡ ok t → closure t x.ids ≡ ok r
      → metrics t.hhea t.hmtx r ≡ ok ms → optional cut_name t.name ≡ ok n → t.post ≡ some b → PostFails b r k → Refuses x k
  -- "File longer than 4,294,967,295 bytes: 5"
  at_file : (t : Tables) (c : CutFont) → ready x ≡ ok t → cut_tables t x.ids ≡ ok c → 4294967295 < length (file (entries c.tables)) → Refuses x 5
  -- "Output shorter than the file: 6"
  at_output : (t : Tables) (m : Made) → ready x ≡ ok t → made t x.ids ≡ ok m → length x.out < length m.bytes → Refuses x 6

-- success: every step passes
pub record Succeeds (x : Input) : Type 0 where
  pub tables : Tables
  pub result : Made
  pub passed : ready x ≡ ok tables
  pub cut : made tables x.ids ≡ ok result
  pub room : length result.bytes ≤ length x.out

pub record Stated (x : Input) : Type 0 where
  -- a refusal is given for its reason and for no other
  pub given : (k : ℕ) → Refuses x k → (answer x).refusal ≡ k
  pub only : (k : ℕ) → (answer x).refusal ≡ k → 1 ≤ k → Refuses x k
  -- it is one of 1 to 8, or 0: success
  pub numbers : (answer x).refusal ≤ 8
  pub success : (answer x).refusal ≡ 0 → Succeeds x

abbrev pub Refusals : Type 0
Refusals = (x : Input) → Stated x
