-- glyf, loca and head. The width of a loca entry is a parameter: nothing is said twice for 2 and 4 bytes.
use Rattle.std.specs.Prelude.{Bool, true, false, List, [], ◌∷◌, ◌++◌, map, ℕ, suc, ◌+◌, ◌*◌, ◌-◌, ◌/◌, min, leb, eqb, length, drop}
use Rattle.model.specs.Res.{Res, ok, pick, need, ◌>>◌}
use Rattle.model.specs.Bytes.{Bytes, word16, word32, be16, be32, part, put, pad2, sum, concat}

pub data Width : Type 0 where
  short : Width
  long : Width

-- a width as the code carries it: is it long
abbrev pub width : Bool → Width
width true = long
width false = short

-- "entries are 4 bytes (long) if head's word at 50 isn't zero, else 2"
abbrev pub width_of : Bytes → Width
width_of head = pick (eqb (word16 head 50) 0) short long

abbrev pub entry_size : Width → ℕ
entry_size short = 2
entry_size long = 4

-- what an entry counts in: "short ones doubled", "offsets are halved"
abbrev pub unit : Width → ℕ
unit short = 2
unit long = 1

abbrev pub entry_word : Width → Bytes → ℕ
entry_word short b = word16 b 0
entry_word long b = word32 b 0

abbrev pub be_entry : Width → ℕ → Bytes
be_entry short x = be16 x
be_entry long x = be32 x

-- "Let n be the smaller of 65,536 and (whole loca entries minus 1, never below 0)"
abbrev pub glyphs : Width → Bytes → ℕ
glyphs w loca = min 65536 (length loca / entry_size w - 1)

-- offset number i
abbrev pub entry : Width → Bytes → ℕ → ℕ
entry w loca i = unit w * entry_word w (drop (entry_size w * i) loca)

-- "loca's two offsets (short ones doubled); past glyf or descending: 3"
unfoldable pub glyph_bytes : Width → Bytes → Bytes → ℕ → Res Bytes
glyph_bytes w loca glyf g = do
  need 3 (leb (entry w loca g) (entry w loca (suc g)))
  need 3 (leb (entry w loca (suc g)) (length glyf))
  ok (part glyf (entry w loca g) (entry w loca (suc g) - entry w loca g))

-- "Add each length, odd ones raised by 1. Over 131,070: long loca"
abbrev pub size : List Bytes → ℕ
size bs = sum (map (λ b. length (pad2 b)) bs)

abbrev pub new_width : ℕ → Width
new_width total = pick (leb total 131070) short long

-- "entries unpadded. Otherwise each entry is padded with zeros to 2"
abbrev pub padded : Width → Bytes → Bytes
padded short b = pad2 b
padded long b = b

abbrev pub new_glyf : Width → List Bytes → Bytes
new_glyf w bs = concat (map (padded w) bs)

-- "loca has N + 1 entries": each outline's start, the first at `at`, and the end of the last
abbrev pub new_loca : Width → ℕ → List Bytes → Bytes
new_loca w at [] = be_entry w (at / unit w)
new_loca w at (b ∷ bs) = be_entry w (at / unit w) ++ new_loca w (at + length (padded w b)) bs

-- head: "Copied; bytes 50 and 51 become 0 and 1 (long) or 0 and 0"; "head's bytes 8 to 11 are zero for its own checksum and the first file sum"
abbrev pub width_bytes : Width → Bytes
width_bytes short = 0 ∷ 0 ∷ []
width_bytes long = 0 ∷ 1 ∷ []

abbrev pub new_head : Width → Bytes → Bytes
new_head w head = put (put head 50 (width_bytes w)) 8 (0 ∷ 0 ∷ 0 ∷ 0 ∷ [])
