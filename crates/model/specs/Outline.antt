-- "Outline": one glyph's bytes, read into a datum, renumbered, and written again.
use Rattle.std.specs.Prelude.{List, [], ◌∷◌, ◌++◌, map, ℕ, zero, suc, ◌+◌, ltb, length, take, drop}
use Rattle.model.specs.Res.{Res, refuse, ok, pick, need, map_res, ◌>>=◌, ◌>>◌}
use Rattle.model.specs.Bytes.{Bytes, word16, be16, flag, holds, concat}

-- "Empty is fine"; a simple outline is its bytes; a composite is its 10 header bytes, its records, and the bytes kept after the last record
pub data Outline : Type 0 where
  empty : Outline
  simple : Bytes → Outline
  composite : Bytes → List Bytes → Bytes → Outline

-- "records of flags, id, 4 argument bytes if flag 0x0001 else 2, then 2 bytes if 0x0008, else 4 if 0x0040, else 8 if 0x0080"
abbrev pub record_size : ℕ → ℕ
record_size flags =
    4 + pick (flag 0x0001 flags) 4 2
    + pick (flag 0x0008 flags) 2 (pick (flag 0x0040 flags) 4 (pick (flag 0x0080 flags) 8 0))

abbrev pub flags_of : Bytes → ℕ
flags_of r = word16 r 0

abbrev pub id_of : Bytes → ℕ
id_of r = word16 r 2

-- the records, and what is kept after the last one
abbrev pub Records : Type 0
Records = List Bytes × Bytes

abbrev pub before : Bytes → Records → Records
before r rs = (r ∷ rs.0, rs.1)

-- "bytes after the last record are kept only if that record's flags hold 0x0100"
abbrev pub last_of : Bytes → Bytes → Records
last_of r rest = (r ∷ [], pick (flag 0x0100 (flags_of r)) rest [])

-- "0x0020 means another record follows. Records are read in order; a cut record, or an id of n or more, is 3".
-- A record takes 6 bytes or more, so as many turns as there are bytes are enough (theorem `records-enough`)
unfoldable pub records : ℕ → ℕ → Bytes → Res Records
records n zero b = refuse 3
records n (suc turns) b =
    let size = record_size (flags_of b) in
    let more = map_res (before (take size b)) (records n turns (drop size b)) in
    let last = ok (last_of (take size b) (drop size b)) in
    need 3 (holds b 0 4) >> (need 3 (holds b 0 size) >> (need 3 (ltb (id_of b) n) >> pick (flag 0x0020 (flags_of b)) more last))

-- "Otherwise the first signed word; 1 byte is 3. Negative means composite: 10 header bytes, then records"
unfoldable pub outline : ℕ → Bytes → Res Outline
outline n [] = ok empty
outline n (x ∷ xs) =
    let b = x ∷ xs in
    do
      need 3 (holds b 0 2)
      pick (ltb (word16 b 0) 0x8000) (ok (simple b))
          (do
            need 3 (holds b 0 10)
            r ← records n (length b) (drop 10 b)
            ok (composite (take 10 b) r.0 r.1))

abbrev pub components : Outline → List ℕ
components empty = []
components (simple b) = []
components (composite h rs t) = map id_of rs

-- "Simple outlines are copied. Composites are copied with new ids"
abbrev pub renumber_record : (ℕ → ℕ) → Bytes → Bytes
renumber_record new r = take 2 r ++ (be16 (new (id_of r)) ++ drop 4 r)

abbrev pub renumber : (ℕ → ℕ) → Outline → Outline
renumber new empty = empty
renumber new (simple b) = simple b
renumber new (composite h rs t) = composite h (map (renumber_record new) rs) t

abbrev pub written : Outline → Bytes
written empty = []
written (simple b) = b
written (composite h rs t) = h ++ (concat rs ++ t)
