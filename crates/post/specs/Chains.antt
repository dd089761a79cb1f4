-- Walks along the names, each from its own start: what each has left in the room, and what four of them side by side keep.
use Rattle.std.specs.Prelude.{◌≡◌, Option, Some, None, List, ℕ, ◌+◌, ◌*◌, ◌-◌, ◌<◌, ◌≤◌, length, get_or}
use Rattle.model.specs.Bytes.{Bytes}
use Rattle.post.specs.Post.{walked, Stands, place_in, ChainAt}
use Rattle.post.specs.declared.chains.Lane.{Lane}
use Rattle.post.specs.declared.chains.Starts.{Starts}
use Rattle.post.specs.declared.chains.Lanes.{Lanes}

-- A walk from `base` has passed n names and left their distances from `at` on. It is behind them, or outside the table and nowhere.
pub record Chain (b : Bytes) (room : List ℕ) (base at : ℕ) (l : Lane) : Type 0 where
  pub ahead : base ≤ l.p
  pub held : (j : ℕ) → j < l.n → base + get_or room (at + j) 0 ≡ walked b base j
  pub here : l.p ≤ length b → walked b base l.n ≡ l.p

-- one turn of a walk: at most one more name, and only its place written
pub record Stepped (b : Bytes) (base at : ℕ) (l : Lane) (room : List ℕ) (r : Lane) (after : List ℕ) : Type 0 where
  pub chain : Chain b after base at r
  pub more : r.n ≤ l.n + 1
  pub grown : l.n ≤ r.n
  pub others : (x : ℕ) → (x ≡ at + l.n → ⊥) → get_or after x 0 ≡ get_or room x 0
  pub same_length : length after ≡ length room

-- a walk alone, within its q numbers of the room
pub record Went (b : Bytes) (base at q : ℕ) (l : Lane) (room : List ℕ) (r : Lane) (after : List ℕ) : Type 0 where
  pub chain : Chain b after base at r
  pub few : r.n ≤ q
  pub same_length : length after ≡ length room
  pub front : (x : ℕ) → x < at → get_or after x 0 ≡ get_or room x 0
  pub grown : l.n ≤ r.n

-- four starts: none further from the one before than a distance can say, and all inside the table
pub record Spaced (b : Bytes) (s : Starts) : Type 0 where
  pub to_b : s.b ≤ s.a + 65536
  pub to_c : s.c ≤ s.b + 65536
  pub to_d : s.d ≤ s.c + 65536
  pub to_end : s.end ≤ s.d + 65536
  pub in_a : s.a ≤ length b
  pub in_b : s.b ≤ length b
  pub in_c : s.c ≤ length b
  pub in_d : s.d ≤ length b
  pub in_end : s.end ≤ length b

-- four walks, each with its own q numbers of the room from `at` on, of which `turns` or fewer are used
pub record Four (b : Bytes) (room : List ℕ) (at q : ℕ) (s : Starts) (turns : ℕ) (l₁ l₂ l₃ l₄ : Lane) : Type 0 where
  pub chain₁ : Chain b room s.a at l₁
  pub chain₂ : Chain b room s.b (at + q) l₂
  pub chain₃ : Chain b room s.c (at + 2 * q) l₃
  pub chain₄ : Chain b room s.d (at + 3 * q) l₄
  pub few₁ : l₁.n ≤ turns
  pub few₂ : l₂.n ≤ turns
  pub few₃ : l₃.n ≤ turns
  pub few₄ : l₄.n ≤ turns

-- none has made a turn
pub record Begun (s : Starts) (f : Lanes) : Type 0 where
  pub at_a : f.a ≡ record { p = s.a; n = 0 }
  pub at_b : f.b ≡ record { p = s.b; n = 0 }
  pub at_c : f.c ≡ record { p = s.c; n = 0 }
  pub at-d : f.d ≡ record { p = s.d; n = 0 }
  pub turns : f.turns ≡ 0

-- and what they leave of a room
pub record Ran (b : Bytes) (at q : ℕ) (s : Starts) (room : List ℕ) (f : Lanes) (after : List ℕ) : Type 0 where
  pub four : Four b after at q s f.turns f.a f.b f.c f.d
  pub fits : f.turns ≤ q
  pub same_length : length after ≡ length room
  pub front : (x : ℕ) → x < at → get_or after x 0 ≡ get_or room x 0

-- every walk but the last ended where the next one began, and none is empty
pub record Joined (s : Starts) (f : Lanes) : Type 0 where
  pub at_b : f.a.p ≡ s.b
  pub at_c : f.b.p ≡ s.c
  pub at-d : f.c.p ≡ s.d
  pub some₁ : 0 < f.a.n
  pub some₂ : 0 < f.b.n
  pub some₃ : 0 < f.c.n
  pub some₄ : 0 < f.d.n

-- the head of chain i
pub record Head (room : List ℕ) (i base first last : ℕ) : Type 0 where
  pub base_at : place_in room (2 + 2 * i) ≡ base
  pub first-at : get_or room (6 + 4 * i) 0 ≡ first
  pub last-at : get_or room (7 + 4 * i) 0 ≡ last

pub record Headed (i base first last : ℕ) (room after : List ℕ) : Type 0 where
  pub head : Head after i base first last
  pub same_length : length after ≡ length room
  pub front : (x : ℕ) → x < 4 + 4 * i → get_or after x 0 ≡ get_or room x 0
  pub back : (x : ℕ) → 8 + 4 * i ≤ x → get_or after x 0 ≡ get_or room x 0

-- the heads of chains i to i + 3, of so many names each
pub record Heads (i first : ℕ) (s : Starts) (n₁ n₂ n₃ n₄ : ℕ) (room after : List ℕ) : Type 0 where
  pub head₁ : Head after i s.a first (n₁ - 1)
  pub head₂ : Head after (i + 1) s.b (first + n₁) (n₂ - 1)
  pub head₃ : Head after (i + 2) s.c (first + n₁ + n₂) (n₃ - 1)
  pub head₄ : Head after (i + 3) s.d (first + n₁ + n₂ + n₃) (n₄ - 1)
  pub same_length : length after ≡ length room
  pub front : (x : ℕ) → x < 4 + 4 * i → get_or after x 0 ≡ get_or room x 0
  pub back : (x : ℕ) → 20 + 4 * i ≤ x → get_or after x 0 ≡ get_or room x 0

-- what four walks start from: a name's place and number (if inside the table), and a room of q numbers for each of c chains, behind their heads
pub record Led (b : Bytes) (room : List ℕ) (q c i : ℕ) (from : Lane) : Type 0 where
  pub stands : from.p ≤ length b → Stands b from.p from.n
  pub small : from.n ≤ 65535
  pub four-more : i + 4 ≤ c
  pub room_for : 4 + 4 * c + c * q ≤ length room
  pub short : length room ≤ 131072
  pub few : q ≤ 32768
  pub share : get_or room 1 0 ≡ q
  pub number : get_or room 2 0 ≡ c

-- four chains more, nothing in front of their heads or of their places changed
pub record Arrived (b : Bytes) (q c i first : ℕ) (room : List ℕ) (l : Lane) (after : List ℕ) : Type 0 where
  pub first-at : get_or after (6 + 4 * i) 0 ≡ first
  pub stands : l.p ≤ length b → Stands b l.p l.n
  pub small : l.n ≤ 65535
  pub chains : (j : ℕ) → i ≤ j → j < i + 4 → ChainAt b after j
  pub heads_front : (x : ℕ) → x < 4 + 4 * i → get_or after x 0 ≡ get_or room x 0
  pub places-front : (x : ℕ) → 4 + 4 * c ≤ x → x < 4 + 4 * c + i * q → get_or after x 0 ≡ get_or room x 0
  pub same_length : length after ≡ length room

abbrev pub Rounded : Bytes → ℕ → ℕ → ℕ → ℕ → List ℕ → Option Lane → List ℕ → Type 0
Rounded b q c i first room None after = length after ≡ length room
Rounded b q c i first room (Some l) after = Arrived b q c i first room l after
