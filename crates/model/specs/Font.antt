-- Steps 1 to 3: kind, directory, tables. What follows depends on the tables' contents alone.
use Rattle.std.specs.Prelude.{Bool, true, not, List, [], ◌∷◌, ℕ, zero, suc, ◌+◌, ◌*◌, ltb, leb, eqb, length, drop}
use Rattle.std.proofs.Math.Option.{Option, none, some}
use Rattle.model.specs.Res.{Res, refuse, ok, pick, both, either, need, ◌>>=◌, ◌>>◌}
use Rattle.model.specs.Bytes.{Bytes, word16, word32, holds, part}

-- Step 1. "Kind, from the first big-endian word: 0x00010000 or 0x74727565 go on; 0x4F54544F is 2; 0x74746366 is a collection"
abbrev pub TRUETYPE : ℕ
TRUETYPE = 0x00010000

abbrev pub APPLE : ℕ
APPLE = 0x74727565

abbrev pub OTTO : ℕ
OTTO = 0x4F54544F

abbrev pub TTCF : ℕ
TTCF = 0x74746366

abbrev pub outlines : ℕ → Bool
outlines kind = either (eqb kind TRUETYPE) (eqb kind APPLE)

-- a face of a collection: "past the file, or leading to an unreadable or unknown kind or another collection: 3; to 0x4F54544F: 2"
unfoldable pub face_at : Bytes → ℕ → Res ℕ
face_at font at = do
  need 3 (holds font at 4)
  need 2 (not (eqb (word32 font at) OTTO))
  need 3 (outlines (word32 font at))
  ok at

-- "anything else or under 4 bytes is 1"; "the face's offset is the word at 12 + 4 times index; missing: 3"; "Index is ignored in a single font"
unfoldable pub face_start : Bytes → ℕ → Res ℕ
face_start font index = do
  need 1 (holds font 0 4)
  pick (outlines (word32 font 0)) (ok 0)
      (pick (eqb (word32 font 0) OTTO) (refuse 2)
      (pick (eqb (word32 font 0) TTCF) (need 3 (holds font (12 + 4 * index) 4) >> face_at font (word32 font (12 + 4 * index)))
      (refuse 1)))

-- Step 2. A record: tag, checksum (never looked at), offset, length. "Table offsets always count from the file's start"
pub record Row : Type 0 where
  pub tag : ℕ
  pub offset : ℕ
  pub size : ℕ

abbrev pub row_of : Bytes → Row
row_of b = record { tag = word32 b 0; offset = word32 b 8; size = word32 b 12 }

abbrev pub rows : ℕ → Bytes → List Row
rows zero b = []
rows (suc n) b = row_of b ∷ rows n (drop 16 b)

-- "tags strictly ascending": as four bytes or as one big-endian word, the order is the same
abbrev pub ascending_from : ℕ → List Row → Bool
ascending_from t [] = true
ascending_from t (r ∷ rs) = both (ltb t r.tag) (ascending_from r.tag rs)

abbrev pub ascending : List Row → Bool
ascending [] = true
ascending (r ∷ rs) = ascending_from r.tag rs

-- "12 header bytes and every 16-byte record must be there, tags strictly ascending, else 3"
unfoldable pub directory : Bytes → ℕ → Res (List Row)
directory font at = do
  need 3 (holds font at 12)
  need 3 (holds font (at + 12) (16 * word16 font (at + 4)))
  need 3 (ascending (rows (word16 font (at + 4)) (drop (at + 12) font)))
  ok (rows (word16 font (at + 4)) (drop (at + 12) font))

-- Step 3. "A table is usable if its record exists and its range is in the file": the usable tables, tag and contents
abbrev pub Entry : Type 0
Entry = ℕ × Bytes

abbrev pub usable : Bytes → List Row → List Entry
usable font [] = []
usable font (r ∷ rs) =
    pick (holds font r.offset r.size) ((r.tag, part font r.offset r.size) ∷ usable font rs) (usable font rs)

abbrev pub find : ℕ → List Entry → Option Bytes
find t [] = none
find t (e ∷ es) = pick (eqb e.0 t) (some e.1) (find t es)

abbrev pub CVT : ℕ
CVT = 0x63767420

abbrev pub FPGM : ℕ
FPGM = 0x6670676D

abbrev pub GLYF : ℕ
GLYF = 0x676C7966

abbrev pub HEAD : ℕ
HEAD = 0x68656164

abbrev pub HHEA : ℕ
HHEA = 0x68686561

abbrev pub HMTX : ℕ
HMTX = 0x686D7478

abbrev pub LOCA : ℕ
LOCA = 0x6C6F6361

abbrev pub MAXP : ℕ
MAXP = 0x6D617870

abbrev pub NAME : ℕ
NAME = 0x6E616D65

abbrev pub POST : ℕ
POST = 0x706F7374

abbrev pub PREP : ℕ
PREP = 0x70726570

-- the contents of the eleven tables. "Unusable cvt, fpgm, prep, name, post count as absent"
pub record Tables : Type 0 where
  pub cvt : Option Bytes
  pub fpgm : Option Bytes
  pub glyf : Bytes
  pub head : Bytes
  pub hhea : Bytes
  pub hmtx : Bytes
  pub loca : Bytes
  pub maxp : Bytes
  pub name : Option Bytes
  pub post : Option Bytes
  pub prep : Option Bytes

-- a table that must be usable, with its least length
abbrev pub must : ℕ → ℕ → Option Bytes → Res Bytes
must k least none = refuse k
must k least (some b) = need k (leb least (length b)) >> ok b

-- "No usable glyf: 2. No usable loca, head, hhea, hmtx or maxp, or head under 52 bytes, hhea under 36, maxp under 6: 3"
unfoldable pub gather : List Entry → Res Tables
gather es = do
  glyf ← must 2 0 (find GLYF es)
  loca ← must 3 0 (find LOCA es)
  head ← must 3 52 (find HEAD es)
  hhea ← must 3 36 (find HHEA es)
  hmtx ← must 3 0 (find HMTX es)
  maxp ← must 3 6 (find MAXP es)
  ok
      (record {
        cvt = find CVT es;
        fpgm = find FPGM es;
        glyf = glyf;
        head = head;
        hhea = hhea;
        hmtx = hmtx;
        loca = loca;
        maxp = maxp;
        name = find NAME es;
        post = find POST es;
        prep = find PREP es;
      })

-- Steps 1 to 3
unfoldable pub read : Bytes → ℕ → Res Tables
read font index = do
  at ← face_start font index
  rs ← directory font at
  gather (usable font rs)
