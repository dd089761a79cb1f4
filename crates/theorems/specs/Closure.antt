-- The walk: it ends, what it keeps, when it refuses, and that a font cut before is walked alike.
use Rattle.std.specs.Prelude.{ℕ, suc, ◌≤◌, ◌<◌, ◌^◌, List, [], ◌∷◌, ◌++◌, map, ◌⊎◌, ◌≡◌, length, get_or}
use Rattle.model.specs.Res.{refuse, ok, each, map_res}
use Rattle.model.specs.Bytes.{Bytes, place, In, Once}
use Rattle.model.specs.Font.{Tables}
use Rattle.model.specs.Outline.{records}
use Rattle.model.specs.Post.{names}
use Rattle.model.specs.File.{selector}
use Rattle.model.specs.Walk.{going, begin, run, walk, most, firsts, walk_t}
use Rattle.model.specs.Cut.{count, parts_of, piece_of, turns, closure}

-- "Repeat until empty": when its turns are over the walk has ended, and more turns give the same
pub record Enough (t : Tables) (ids : List ℕ) : Type 0 where
  pub ends : (roster stack : List ℕ) → run (parts_of t) (turns t ids) (begin (count t) ids) ≡ going roster stack → ⊥
  pub more : (n : ℕ) → turns t ids ≤ n → walk n (count t) (parts_of t) ids ≡ closure t ids

abbrev pub TurnsEnough : Type 0
TurnsEnough = (t : Tables) (ids : List ℕ) → Enough t ids

-- "Records are read in order": as many turns as there are bytes are enough
abbrev pub RecordsEnough : Type 0
RecordsEnough = (n turns : ℕ) (b : Bytes) → length b ≤ turns → records n turns b ≡ records n (length b) b

-- "The names list ends at an empty or cut name": as many turns as there are bytes are enough
abbrev pub NamesEnough : Type 0
NamesEnough = (turns : ℕ) (b : Bytes) → length b ≤ turns → names turns b ≡ names (length b) b

-- "selector": n halvings are enough, and it is the whole part of the binary logarithm
pub record Logarithm (n : ℕ) : Type 0 where
  pub more : (turns : ℕ) → n ≤ turns → selector turns n ≡ selector n n
  pub reached : 1 ≤ n → 2 ^ selector n n ≤ n
  pub greatest : n < 2 ^ suc (selector n n)

abbrev pub SelectorEnough : Type 0
SelectorEnough = (n : ℕ) → Logarithm n

-- A component pushed again may move to the top of the stack instead: `walk_t` is the walk that does so
abbrev pub MovingToTop : Type 0
MovingToTop = (t : Tables) (ids : List ℕ) → closure t ids ≡ walk_t (turns t ids) (count t) (parts_of t) ids

-- "Glyph 0 gets number 0. Then the requests in list order, first appearances only"; then the others; "the 65,536th is 7"
pub record Numbering (t : Tables) (ids roster : List ℕ) : Type 0 where
  pub in_order : (rest : List ℕ) × (roster ≡ firsts (0 ∷ []) ids ++ rest)
  pub once : Once roster
  pub glyphs : (g : ℕ) → In g roster → g < count t
  pub few : length roster ≤ most

abbrev pub RosterInOrder : Type 0
RosterInOrder = (t : Tables) (ids roster : List ℕ) → closure t ids ≡ ok roster → Numbering t ids roster

-- The glyphs a subset must have: 0, the requests, and components of what it must have
pub data Needed (t : Tables) (ids : List ℕ) : ℕ → Type 0 where
  zeroth : Needed t ids 0
  asked : (g : ℕ) → In g ids → Needed t ids g
  component : (g c : ℕ) (cs : List ℕ) → Needed t ids g → parts_of t g ≡ ok cs → In c cs → Needed t ids c

-- of the sets that hold 0 and the requests and are closed under components these are the least
abbrev pub NeededLeast : Type 1
NeededLeast =
    (t : Tables) (ids : List ℕ) (S : ℕ → Type 0) → S 0 → ((g : ℕ) → In g ids → S g)
    → ((g c : ℕ) (cs : List ℕ) → S g → parts_of t g ≡ ok cs → In c cs → S c) → (g : ℕ) → Needed t ids g → S g

-- The roster holds what is needed and nothing else, and each of its outlines was read
pub record Closed (t : Tables) (ids roster : List ℕ) : Type 0 where
  pub needed : (g : ℕ) → In g roster → Needed t ids g
  pub kept : (g : ℕ) → Needed t ids g → In g roster
  pub readable : (g : ℕ) → In g roster → (cs : List ℕ) × (parts_of t g ≡ ok cs)

abbrev pub RosterLeast : Type 0
RosterLeast = (t : Tables) (ids roster : List ℕ) → closure t ids ≡ ok roster → Closed t ids roster

-- The outlines with the roster's numbers refuse nothing, and each component of a kept glyph has a number
pub record Pieces (t : Tables) (roster : List ℕ) : Type 0 where
  pub written : (bs : List Bytes) × (each (piece_of t (place roster)) roster ≡ ok bs)
  pub numbered : (g c : ℕ) (cs : List ℕ) → In g roster → parts_of t g ≡ ok cs → In c cs → place roster c < length roster

abbrev pub PiecesOk : Type 0
PiecesOk = (t : Tables) (ids roster : List ℕ) → closure t ids ≡ ok roster → Pieces t roster

-- The walk refuses with 3 if there is no glyph, a request is none, or a needed outline can't be read; with 7 if over 65,535 glyphs are needed
pub data Unreadable (t : Tables) (ids : List ℕ) : Type 0 where
  none : count t ≡ 0 → Unreadable t ids
  outside : (q : ℕ) → In q ids → count t ≤ q → Unreadable t ids
  outline : (g : ℕ) → Needed t ids g → parts_of t g ≡ refuse 3 → Unreadable t ids

abbrev pub TooMany : Tables → List ℕ → Type 0
TooMany t ids = (gs : List ℕ) × Once gs × (most < length gs) × ((g : ℕ) → In g gs → Needed t ids g)

abbrev pub Refused : Tables → List ℕ → ℕ → Type 0
Refused t ids k = ((k ≡ 3) × Unreadable t ids) ⊎ ((k ≡ 7) × TooMany t ids)

-- it refuses for these reasons, and only without them it succeeds
pub record Reasons (t : Tables) (ids : List ℕ) : Type 0 where
  pub refuses : (k : ℕ) → closure t ids ≡ refuse k → Refused t ids k
  pub succeeds : (roster : List ℕ) → closure t ids ≡ ok roster → (Unreadable t ids → ⊥) × (TooMany t ids → ⊥)

abbrev pub WalkRefuses : Type 0
WalkRefuses = (t : Tables) (ids : List ℕ) → Reasons t ids

-- "Cutting twice": t₁'s glyphs are those of t's roster, with new ids
pub record Copied (t : Tables) (roster : List ℕ) (t₁ : Tables) : Type 0 where
  pub size : count t₁ ≡ length roster
  pub parts : (k : ℕ) → k < length roster → parts_of t₁ k ≡ map_res (map (place roster)) (parts_of t (get_or roster k 0))

-- then t₁'s walk is t's, renumbered
abbrev pub WalkTwice : Type 0
WalkTwice =
    (t t₁ : Tables) (ids roster : List ℕ) → closure t ids ≡ ok roster → Copied t roster t₁
    → (qs : List ℕ) → ((q : ℕ) → In q qs → q < length roster)
    → closure t (map (λ (k : ℕ). get_or roster k 0) qs) ≡ map_res (map (λ (k : ℕ). get_or roster k 0)) (closure t₁ qs)
