-- "File": directory, tables, checksums, head's adjustment.
use Rattle.std.proofs.Math.Option.{Option, none, some}
use Rattle.std.specs.Prelude.{List, [], ◌∷◌, ◌++◌, ℕ, zero, suc, ◌+◌, ◌*◌, ◌-◌, ◌/◌, ◌%◌, ◌^◌, ltb, eqb, length}
use Rattle.model.specs.Res.{pick}
use Rattle.model.specs.Bytes.{Bytes, be16, be32, put, pad4}
use Rattle.model.specs.Font.{Entry, Tables, CVT, FPGM, GLYF, HEAD, HHEA, HMTX, LOCA, MAXP, NAME, POST, PREP}

abbrev pub maybe : ℕ → Option Bytes → List Entry
maybe t none = []
maybe t (some b) = (t, b) ∷ []

-- "records by tag": the tables that are there, in tag order
unfoldable pub entries : Tables → List Entry
entries t =
    maybe CVT t.cvt ++ (maybe FPGM t.fpgm
    ++ ((GLYF, t.glyf) ∷ (HEAD, t.head) ∷ (HHEA, t.hhea) ∷ (HMTX, t.hmtx) ∷ (LOCA, t.loca) ∷ (MAXP, t.maxp)
    ∷ (maybe NAME t.name ++ (maybe POST t.post ++ maybe PREP t.prep))))

-- "A checksum is the sum of big-endian words, modulo 2^32, zero-padded"
abbrev pub word_sum : Bytes → ℕ
word_sum [] = 0
word_sum (a ∷ []) = a * 0x1000000
word_sum (a ∷ b ∷ []) = a * 0x1000000 + b * 0x10000
word_sum (a ∷ b ∷ c ∷ []) = a * 0x1000000 + b * 0x10000 + c * 0x100
word_sum (a ∷ b ∷ c ∷ d ∷ r) = a * 0x1000000 + b * 0x10000 + c * 0x100 + d + word_sum r

abbrev pub checksum : Bytes → ℕ
checksum b = word_sum b % 2 ^ 32

-- "search range, selector, shift": the selector is the whole part of the binary logarithm; n halvings are enough for it (theorem `selector-enough`)
abbrev pub selector : ℕ → ℕ → ℕ
selector zero n = 0
selector (suc turns) n = let more = suc (selector turns (n / 2)) in pick (ltb n 2) 0 more

abbrev pub search_range : ℕ → ℕ
search_range n = 16 * 2 ^ selector n n

-- "word 0x00010000, table count, search range, selector, shift"
abbrev pub header : ℕ → Bytes
header n = be32 0x00010000 ++ (be16 n ++ (be16 (search_range n) ++ (be16 (selector n n) ++ be16 (16 * n - search_range n))))

abbrev pub row : ℕ → Entry → Bytes
row at e = be32 e.0 ++ (be32 (checksum e.1) ++ (be32 at ++ be32 (length e.1)))

-- the records of tables that stand one behind the other, the first at `at`; "tables each zero-padded to 4"
abbrev pub rows_from : ℕ → List Entry → Bytes
rows_from at [] = []
rows_from at (e ∷ es) = row at e ++ rows_from (at + length (pad4 e.1)) es

abbrev pub bodies : List Entry → Bytes
bodies [] = []
bodies (e ∷ es) = pad4 e.1 ++ bodies es

unfoldable pub directory_of : List Entry → Bytes
directory_of es = header (length es) ++ rows_from (12 + 16 * length es) es

-- "head's bytes 8 to 11 are zero for its own checksum and the first file sum S; then they become 0xB1B0AFBA minus S, modulo 2^32"
abbrev pub adjust : ℕ → List Entry → List Entry
adjust x [] = []
adjust x (e ∷ es) = (e.0, pick (eqb e.0 HEAD) (put e.1 8 (be32 x)) e.1) ∷ adjust x es

unfoldable pub adjustment : List Entry → ℕ
adjustment es = (2 ^ 32 + 0xB1B0AFBA - checksum (directory_of es ++ bodies es)) % 2 ^ 32

unfoldable pub file : List Entry → Bytes
file es = directory_of es ++ bodies (adjust (adjustment es) es)
