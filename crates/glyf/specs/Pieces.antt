-- What is written of each glyph of the roster. The model's `piece_of` is `piece` of the tables' loca and glyf (proofs/Pieces: `piece_of`).
use Rattle.std.specs.Prelude.{◌≡◌, true, List, [], map, ℕ, ◌+◌, ◌*◌, ◌-◌, ◌%◌, ◌≤◌, ◌<◌, length, get_or, take, replicate}
use Rattle.model.specs.Res.{Res, map_res, each, is_ok, value_of, ◌>>=◌}
use Rattle.model.specs.Bytes.{Bytes, part, put, over, sum, member, place}
use Rattle.model.specs.Glyf.{Width, short, long, entry_size, glyph_bytes, size, new_glyf, new_loca}
use Rattle.model.specs.Outline.{Outline, outline, components, renumber, written}
use Rattle.outline.specs.Places.{kept_length}
use Rattle.glyf.specs.declared.Run.{Run}

-- glyph g's outline; its bytes with new ids; those of the whole roster
unfoldable pub outline_at : Width → ℕ → Bytes → Bytes → ℕ → Res Outline
outline_at w n loca glyf g = glyph_bytes w loca glyf g >>= λ b. outline n b

unfoldable pub piece : Width → ℕ → Bytes → Bytes → (ℕ → ℕ) → ℕ → Res Bytes
piece w n loca glyf new g = map_res (λ o. written (renumber new o)) (outline_at w n loca glyf g)

unfoldable pub pieces : Width → ℕ → Bytes → Bytes → List ℕ → List Bytes
pieces w n loca glyf roster = value_of [] (each (piece w n loca glyf (place roster)) roster)

-- how long glyph g's bytes will be
unfoldable pub length_at : Width → ℕ → Bytes → Bytes → ℕ → ℕ
length_at w n loca glyf g = value_of 0 (map_res (λ o. length (written o)) (outline_at w n loca glyf g))

-- "odd ones raised by 1", where the loca is short
abbrev pub raised_to : Width → ℕ → ℕ
raised_to short x = x + x % 2
raised_to long x = x

-- the numbers in the scratch: an old id's place holds its new number + 1
abbrev pub new_from : ℕ → List ℕ → ℕ → ℕ
new_from n scratch id = get_or scratch (n + id) 0 - 1

-- an outline's bytes with new ids
unfoldable pub bytes_of : ℕ → (ℕ → ℕ) → Bytes → Bytes
bytes_of n new b = value_of [] (map_res (λ o. written (renumber new o)) (outline n b))

-- the walk has read every outline of the roster
pub record Readable (w : Width) (n : ℕ) (loca glyf : Bytes) (roster : List ℕ) : Type 0 where
  pub few : length roster ≤ 65535
  pub entries : entry_size w * (n + 1) ≤ length loca
  pub low : (g : ℕ) → member g roster ≡ true → g < n
  pub read : is_ok (each (piece w n loca glyf (place roster)) roster) ≡ true

-- and left the roster and the new numbers in the scratch; a kept glyph's components are kept
pub record Numbered (w : Width) (n : ℕ) (loca glyf : Bytes) (scratch : List ℕ) (kept : ℕ) : Type 0 where
  pub readable : Readable w n loca glyf (take kept scratch)
  pub roster : kept ≤ length scratch
  pub room : 2 * n ≤ length scratch
  pub numbers : (g : ℕ) → member g (take kept scratch) ≡ true → get_or scratch (n + g) 0 ≡ place (take kept scratch) g + 1
  pub closed : (g id : ℕ) → member g (take kept scratch) ≡ true → member id (value_of [] (map_res components (outline_at w n loca glyf g))) ≡ true → member id (take kept scratch) ≡ true

-- the largest offset that a loca of the width holds
abbrev pub most_offset : Width → ℕ
most_offset short = 131070
most_offset long = 4294967295

pub record Measured (bs : List Bytes) (even raw : ℕ) : Type 0 where
  pub is_even : even ≡ size bs
  pub is_raw : raw ≡ sum (map (λ b. length b) bs)

-- one outline can be written
pub record OutlineRoom (n : ℕ) (b : Bytes) (scratch : List ℕ) (out : Bytes) (at : ℕ) : Type 0 where
  pub read : is_ok (outline n b) ≡ true
  pub numbers : 2 * n ≤ length scratch
  pub room : at + kept_length n b ≤ length out

-- one glyph can be
pub record PieceRoom (w to : Width) (n : ℕ) (loca glyf : Bytes) (scratch : List ℕ) (g : ℕ) (out : Bytes) (at : ℕ) : Type 0 where
  pub entries : entry_size w * (g + 2) ≤ length loca
  pub read : is_ok (outline_at w n loca glyf g) ≡ true
  pub numbers : 2 * n ≤ length scratch
  pub room : at + raised_to to (length_at w n loca glyf g) ≤ length out

-- both new tables in one output that starts with glyf; loca stands at a distance
unfoldable pub both_tables : Width → List Bytes → ℕ → Bytes → Bytes
both_tables to bs distance out = put (over (new_glyf to bs) out) distance (new_loca to 0 bs)

-- they can be written: the offsets fit, and loca stands behind glyf
pub record TablesRoom (w to : Width) (n : ℕ) (loca glyf : Bytes) (scratch : List ℕ) (kept : ℕ) (out : Bytes) (distance : ℕ) : Type 0 where
  pub numbered : Numbered w n loca glyf scratch kept
  pub offsets : length (new_glyf to (pieces w n loca glyf (take kept scratch))) ≤ most_offset to
  pub behind : length (new_glyf to (pieces w n loca glyf (take kept scratch))) ≤ distance
  pub room : distance + entry_size to * (kept + 1) ≤ length out

-- bytes were put at a place, and the next place is behind them
pub record Placed (d e : Bytes) (at next : ℕ) (bytes : Bytes) : Type 0 where
  pub is-put : e ≡ put d at bytes
  pub behind : next ≡ at + length bytes

-- the zeros behind an outline of so many bytes
abbrev pub zeros_behind : Width → ℕ → Bytes
zeros_behind short size = replicate (size % 2) 0
zeros_behind long size = []

-- the output once the run is copied
unfoldable pub with_run : Bytes → Run → Bytes → Bytes
with_run glyf run out = put out (run.end - run.size) (part glyf run.from run.size)

-- it can be copied
pub record RunRoom (glyf : Bytes) (run : Run) (out : Bytes) : Type 0 where
  pub there : run.from + run.size ≤ length glyf
  pub within : run.size ≤ run.end
  pub room : run.end ≤ length out

-- bytes were put behind a run, and another run is left
pub record Moved (glyf : Bytes) (run : Run) (d : Bytes) (next : Run) (e : Bytes) (bytes : Bytes) : Type 0 where
  pub placed : Placed (with_run glyf run d) (with_run glyf next e) run.end next.end bytes
  pub left : RunRoom glyf next e
