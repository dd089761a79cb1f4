-- Names that `measure` finds one after the other: where it looks, and what it puts away.
use Rattle.std.specs.Prelude.{◌≡◌, Option, Some, None, Bool, ℕ, ◌+◌, ◌*◌, ◌-◌, ◌<◌, length, get_or, take, drop}
use Rattle.std.specs.Borrow.{Bor}
use mathlib.Core.List.{List, flat_map}
use Rattle.model.specs.Res.{pick}
use Rattle.model.specs.Bytes.{Bytes, part}
use Rattle.post.specs.Post.{Stands, place_in, index_of, name_bytes, placed_for, room_of, Located}

-- the first of the scratch's places (two numbers each) that is for a found one; 2n: none is
unfoldable pub places_at : Bool → ℕ → ℕ → ℕ
places_at found n kept = pick found (2 * n - kept) (2 * n)

-- the index: an array of its own, or, with none, the scratch from 2n to place `at`
abbrev pub index_for : Option (Bor (List ℕ)) → List ℕ → ℕ → ℕ → List ℕ
index_for None scratch n at = part scratch (2 * n) (2 * at - 2 * n)
index_for (Some own) scratch n at = own.now

-- only the scratch's numbers from place `at` to 4n may have changed
pub record Behind (n at : ℕ) (before after : List ℕ) : Type 0 where
  pub same_length : length after ≡ length before
  pub front : take (2 * at) after ≡ take (2 * at) before
  pub back : drop (4 * n) after ≡ drop (4 * n) before

-- place p put away for roster place j, if places are put away
pub record PutAway (b : Bytes) (n at j p : ℕ) (before after : List ℕ) : Type 0 where
  pub behind : Behind n at before after
  pub others : (i : ℕ) → (i ≡ j → ⊥) → place_in after (at + i) ≡ place_in before (at + i)
  pub here : at < 2 * n → (k : ℕ) → Stands b p k → Stands b (place_in after (at + j)) k

-- the name of roster place j found, and how many bytes it takes
pub record Sized (b : Bytes) (n at j : ℕ) (before : List ℕ) (r : ℕ) (after : List ℕ) : Type 0 where
  pub size : r ≡ length (name_bytes b (get_or before j 0))
  pub behind : Behind n at before after
  pub others : (i : ℕ) → (i ≡ j → ⊥) → place_in after (at + i) ≡ place_in before (at + i)
  pub here : at < 2 * n → 257 < index_of b (get_or before j 0) → Stands b (place_in after (at + j)) (index_of b (get_or before j 0) - 258)

-- the names of the first j roster places found
pub record Placing (b : Bytes) (n at j : ℕ) (before after : List ℕ) : Type 0 where
  pub behind : Behind n at before after
  pub found : at < 2 * n → (i : ℕ) → i < j → 257 < index_of b (get_or before i 0) → Stands b (place_in after (at + i)) (index_of b (get_or before i 0) - 258)

-- all of them, and how many bytes they take
pub record Sought (b : Bytes) (n kept : ℕ) (before : List ℕ) (r : ℕ) (after : List ℕ) : Type 0 where
  pub size : r ≡ length (flat_map (name_bytes b) (take kept before))
  pub behind : Behind n n before after
  pub located : Located b (take kept before) (placed_for (length b) n kept) (room_of (placed_for (length b) n kept) n kept after)
