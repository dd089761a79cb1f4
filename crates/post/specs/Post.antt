-- What post's code goes by: where a name stands in the list of names, which places the scratch holds, and the new table glyph by glyph.
use Rattle.std.specs.Prelude.{◌≡◌, Result, Ok, Err, Option, Some, None, Bool, true, false, ℕ, zero, suc, ◌+◌, ◌*◌, ◌-◌, ◌%◌, ◌/◌, ◌<◌, ◌≤◌, ltb, leb, eqb, length, get_or, take, drop, set}
use mathlib.Core.List.{List, [], ◌++◌, map, flat_map}
use Rattle.model.specs.Res.{Res, refuse, ok, pick, both, either, map_res, is_ok, each}
use Rattle.model.specs.Bytes.{Bytes, word16, word32, be16, part}
use Rattle.model.specs.Post.{names, names_of, new_indexes, new_names, post_index, pascal, cut_post}
use Rattle.answer.specs.declared.Refusal.{Refusal}
use Rattle.answer.specs.Answers.{number, res_of}
use Rattle.post.specs.declared.Asked.{Asked}

-- how long the name is whose length byte stands at p; 0 where the list ends: past the table, cut, or empty
unfoldable pub size_at : Bytes → ℕ → ℕ
size_at b p = pick (leb (length b) p) 0 (pick (ltb (length b - (p + 1)) (get_or b p 0)) 0 (get_or b p 0))

-- so many names further on; where the list ends the walk stays
unfoldable pub walked : Bytes → ℕ → ℕ → ℕ
walked b p zero = p
walked b p (suc k) = pick (eqb (size_at b p) 0) p (walked b (p + 1 + size_at b p) k)

-- the names from number k on are those that stand from p on: p is where name k stands, if there is one
pub record Stands (b : Bytes) (p k : ℕ) : Type 0 where
  pub rest : drop k (names_of b) ≡ names (length b) (drop p b)

-- a place as two numbers of the scratch's part, the low half first
unfoldable pub place_in : List ℕ → ℕ → ℕ
place_in room j = get_or room (2 * j) 0 + 65536 * get_or room (2 * j + 1) 0

unfoldable pub with_place : List ℕ → ℕ → ℕ → List ℕ
with_place room j p = set (set room (2 * j) (p % 65536)) (2 * j + 1) (p / 65536)

-- The part holds the places of names in one of two ways. Number 0 tells: it is the stride, or 0 for chains.
-- By stride: number 1 is the last place j that is held; place j is that of name j times the stride. Place 0 is not held: the first name stands
-- behind the index array.
pub record Strided (b : Bytes) (room : List ℕ) : Type 0 where
  pub inside : 2 * get_or room 1 0 + 1 < length room
  pub places : (j : ℕ) → 0 < j → j ≤ get_or room 1 0 → Stands b (place_in room j) (j * get_or room 0 0)

-- By chains: as many as number 2 says, eight or more, each with as many numbers as number 1 says, behind the heads of all. The head of chain i, at 4 + 4i, is the
-- place of its first name, that name's number, and the number in the chain of the last name held; a name is held by its distance from the first.
pub record ChainAt (b : Bytes) (room : List ℕ) (i : ℕ) : Type 0 where
  pub few : get_or room (7 + 4 * i) 0 < get_or room 1 0
  pub places : (j : ℕ) → j ≤ get_or room (7 + 4 * i) 0
      → Stands b (place_in room (2 + 2 * i) + get_or room (4 + 4 * get_or room 2 0 + i * get_or room 1 0 + j) 0) (get_or room (6 + 4 * i) 0 + j)

pub record Chained (b : Bytes) (room : List ℕ) : Type 0 where
  pub eight : 8 ≤ get_or room 2 0
  pub inside : 4 + 4 * get_or room 2 0 + get_or room 2 0 * get_or room 1 0 ≤ length room
  pub from_first : get_or room 6 0 ≡ 0
  pub chains : (i : ℕ) → i < get_or room 2 0 → ChainAt b room i

pub record Index (b : Bytes) (room : List ℕ) : Type 0 where
  pub some : 2 ≤ length room
  pub strided : 0 < get_or room 0 0 → Strided b room
  pub chained : get_or room 0 0 ≡ 0 → Chained b room

-- a glyph's index
unfoldable pub index_of : Bytes → ℕ → ℕ
index_of b g = word16 b (34 + 2 * g)

-- Where the name of glyph g, roster place j, is found: the part is either the found places, two numbers for each roster place (of an index of 257
-- or below nothing is said), or the index.
pub record PlaceAt (b : Bytes) (found : Bool) (room : List ℕ) (j g : ℕ) : Type 0 where
  pub place : found ≡ true → 257 < index_of b g → (2 * j + 1 < length room) × Stands b (place_in room j) (index_of b g - 258)
  pub index : found ≡ false → Index b room

pub record Located (b : Bytes) (ids : List ℕ) (found : Bool) (room : List ℕ) : Type 0 where
  pub places : (j : ℕ) → j < length ids → PlaceAt b found room j (get_or ids j 0)

-- Which of the two it is: the found places if few glyphs are kept, or if there may be far more names than glyphs. They end the scratch's places 2n to
-- 4n; the index is all of these.
unfoldable pub many_names : ℕ → ℕ → Bool
many_names len n = both (ltb n 4096) (ltb (32 * n) len)

unfoldable pub placed_for : ℕ → ℕ → ℕ → Bool
placed_for len n kept = either (leb (4 * kept) n) (many_names len n)

unfoldable pub room_start : Bool → ℕ → ℕ → ℕ
room_start found n kept = pick found (4 * n - 2 * kept) (2 * n)

-- the scratch's part that `write` goes by
unfoldable pub room_of : Bool → ℕ → ℕ → List ℕ → List ℕ
room_of found n kept scratch = part scratch (room_start found n kept) (4 * n - room_start found n kept)

-- what `measure` leaves for `write`
pub record Indexed (b : Bytes) (scratch : List ℕ) (n kept : ℕ) : Type 0 where
  pub index : word32 b 0 ≡ 0x00020000 → Located b (take kept scratch) (placed_for (length b) n kept) (room_of (placed_for (length b) n kept) n kept scratch)

-- the names that are stored for glyphs, and a glyph's part of their bytes
unfoldable pub stored_names : Bytes → List ℕ → List Bytes
stored_names b ids = new_names (names_of b) (map (index_of b) ids)

unfoldable pub name_bytes : Bytes → ℕ → Bytes
name_bytes b g = pick (leb (index_of b g) 257) [] (pascal (get_or (names_of b) (index_of b g - 258) []))

unfoldable pub index_bytes : Bytes → List ℕ → Bytes
index_bytes b ids = flat_map be16 (new_indexes 258 (map (index_of b) ids))

unfoldable pub head_bytes : Bytes → List ℕ → Bytes
head_bytes b ids = (take 32 b ++ be16 (length ids)) ++ index_bytes b ids

unfoldable pub post_bytes : Bytes → List ℕ → Bytes
post_bytes b ids = head_bytes b ids ++ flat_map (name_bytes b) ids

-- version 2 and every test passed
pub record Named (b : Bytes) (ids : List ℕ) : Type 0 where
  pub version : word32 b 0 ≡ 0x00020000
  pub array : 34 + 2 * word16 b 32 ≤ length b
  pub under : (j : ℕ) → j < length ids → get_or ids j 0 < word16 b 32
  pub few : 257 + length (stored_names b ids) ≤ 65535

-- the survey of the kept glyphs: one of them has no index, or so many names will be stored
abbrev pub own_of : Result Asked Refusal → Res ℕ
own_of (Err e) = refuse (number e)
own_of (Ok s) = ok s.own

-- names from this number on are not asked for: it decides how many places are held and not what is right
abbrev pub want_of : Result Asked Refusal → ℕ
want_of (Err e) = 0
want_of (Ok s) = s.want

pub record Answered (b : Bytes) (ids : List ℕ) (r : Result Asked Refusal) : Type 0 where
  pub own : own_of r ≡ map_res (λ is. length (new_names (names_of b) is)) (each (post_index b) ids)
  pub small : want_of r ≤ 65278

-- what each outcome of the tests says
abbrev pub Tells : Bytes → List ℕ → Result (Option ℕ) Refusal → Type 0
Tells b ids (Err e) = cut_post b ids ≡ refuse (number e)
Tells b ids (Ok None) = (cut_post b ids ≡ ok b) × (word32 b 0 ≡ 0x00020000 → ⊥)
Tells b ids (Ok (Some want)) = Named b ids × (want ≤ 65278)

-- a measured table: its size or the refusal; the scratch, of which only the places 2n to 4n may have changed, and only if the table has names; what `write`
-- goes by
pub record Measured (b : Bytes) (scratch : List ℕ) (n kept : ℕ) (r : Result ℕ Refusal) (after : List ℕ) : Type 0 where
  pub size : res_of r ≡ map_res length (cut_post b (take kept scratch))
  pub same_length : length after ≡ length scratch
  pub front : take (2 * n) after ≡ take (2 * n) scratch
  pub back : drop (4 * n) after ≡ drop (4 * n) scratch
  pub index : is_ok (res_of r) ≡ true → Indexed b after n kept
  pub unnamed : (word32 b 0 ≡ 0x00020000 → ⊥) → after ≡ scratch
