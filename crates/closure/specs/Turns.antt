-- What the parts promise: reading an outline, a turn of the walk, all turns, the requests.
use Rattle.std.specs.Prelude.{Option, None, Some, Result, Ok, Err, ◌≡◌, List, [], ◌∷◌, ◌++◌, reverse, ◌⊎◌, ℕ, ◌+◌, ◌*◌, ◌-◌, ◌≤◌, ◌<◌, length, take, drop}
use Rattle.model.specs.Res.{Res, refuse, ok, ◌>>=◌}
use Rattle.model.specs.Bytes.{In}
use Rattle.model.specs.Walk.{Walk, going, kept, refused, most, step_t, run_t, Done}
use Rattle.remapper.specs.Scratch.{offered}
use Rattle.remapper.specs.State.{Walking, asked, Counts}
use Rattle.answer.specs.declared.Refusal.{Refusal}
use Rattle.answer.specs.Answers.{number}
use Rattle.closure.specs.Closes.{even_length, raw_length}
use Rattle.closure.specs.declared.Kept.{Kept}
use Rattle.closure.specs.declared.Turn.{Turn}

-- components are offered, in record order
abbrev pub offered_all : ℕ → List ℕ → List ℕ → List ℕ
offered_all n s [] = s
offered_all n s (c ∷ cs) = offered_all n (offered n s c) cs

-- what reading an outline says: the components read are all there are, and so many bytes are kept; or it is unreadable
abbrev pub read_of : Option ℕ → List ℕ → Res (List ℕ)
read_of (Some k) cs = ok cs
read_of None cs = refuse 3

abbrev pub kept_of : Option ℕ → ℕ
kept_of (Some k) = k
kept_of None = 0

-- an outline was read, whole or not, and the components read were offered: m says what they are, if it was whole, and `kept` how long
pub record Opened (n : ℕ) (s s' : List ℕ) (m : Res (List ℕ)) (kept : ℕ) (a : Option ℕ) : Type 0 where
  pub cs : List ℕ
  pub gone : s' ≡ offered_all n s cs
  pub low : (c : ℕ) → In c cs → c < n
  pub all : m ≡ read_of a cs
  pub size : kept ≡ kept_of a

-- the walk's stack: the waiting components, then the requests not yet read, the last of them first
abbrev pub stack : List ℕ → List ℕ → ℕ → List ℕ
stack r l left = l ++ reverse (take left r)

-- the walk is on: so many are numbered, so many requests are left to read
abbrev pub Underway : ℕ → List ℕ → ℕ → ℕ → Type 0
Underway n s count left = (r : List ℕ) × (l : List ℕ) × Walking n s r l × (count ≡ length r) × (left ≤ length r)

-- the scratch holds this state of the walk
abbrev pub Holds : ℕ → List ℕ → ℕ → ℕ → List ℕ → List ℕ → Type 0
Holds n s count left r st = (l : List ℕ) × Walking n s r l × (count ≡ length r) × (left ≤ length r) × (st ≡ stack r l left)

-- read were the requests from the place `left` on, then the components: one more, g, stands before them or behind them
pub record OneMore (lengths : ℕ → ℕ) (before after : List ℕ) (kept : ℕ) : Type 0 where
  pub g : ℕ
  pub size : kept ≡ lengths g
  pub at : (after ≡ g ∷ before) ⊎ (after ≡ before ++ (g ∷ []))

-- a turn's answer, of count numbered ones, those read before it and the scratch s, is this state of the walk
abbrev pub At : (ℕ → ℕ) → ℕ → List ℕ → ℕ → List ℕ → Result (Option Turn) Refusal → Walk → Type 0
At lengths n s count before (Ok (Some t)) (going r st) = Holds n s t.count t.left r st × OneMore lengths before (drop t.left r) t.length
At lengths n s count before (Ok (Some t)) (kept r) = ⊥
At lengths n s count before (Ok (Some t)) (refused j) = ⊥
At lengths n s count before (Ok None) (going r st) = ⊥
At lengths n s count before (Ok None) (kept r) = Walking n s r [] × (count ≡ length r) × (before ≡ r)
At lengths n s count before (Ok None) (refused j) = ⊥
At lengths n s count before (Err e) (going r st) = ⊥
At lengths n s count before (Err e) (kept r) = ⊥
At lengths n s count before (Err e) (refused j) = number e ≡ j

-- a turn reads a request or numbers a component: there are only so many of both
abbrev pub ahead : ℕ → ℕ → ℕ
ahead count left = left + (most - count)

abbrev pub Falls : ℕ → ℕ → Result (Option Turn) Refusal → Type 0
Falls count left (Ok (Some t)) = ahead t.count t.left < ahead count left
Falls count left (Ok None) = Unit {0}
Falls count left (Err e) = Unit {0}

-- a turn is the walk's turn, in which a component pushed again moves to the top
pub record Turned (parts : ℕ → Res (List ℕ)) (lengths : ℕ → ℕ) (n : ℕ) (s s' : List ℕ) (count left : ℕ) (a : Result (Option Turn) Refusal) : Type 0 where
  pub past : drop (4 * n) s' ≡ drop (4 * n) s
  pub falls : Falls count left a
  pub at : (r l : List ℕ) → Walking n s r l → count ≡ length r → left ≤ length r → At lengths n s' count (drop left r) a (step_t parts (going r (stack r l left)))

-- glyphs' lengths were added up
pub record Summed (lengths : ℕ → ℕ) (gs : List ℕ) (even raw : ℕ) : Type 0 where
  pub is_even : even ≡ even_length lengths gs
  pub is_raw : raw ≡ raw_length lengths gs

-- the walk's end
abbrev pub Ends : (ℕ → ℕ) → ℕ → List ℕ → Result Kept Refusal → Walk → Type 0
Ends lengths n s (Ok k) (going r st) = ⊥
Ends lengths n s (Ok k) (kept r) = Walking n s r [] × (k.kept ≡ length r) × Summed lengths r k.even k.raw
Ends lengths n s (Ok k) (refused j) = ⊥
Ends lengths n s (Err e) (going r st) = ⊥
Ends lengths n s (Err e) (kept r) = ⊥
Ends lengths n s (Err e) (refused j) = number e ≡ j

-- all turns, from where the requests are numbered
pub record Ran (parts : ℕ → Res (List ℕ)) (lengths : ℕ → ℕ) (n : ℕ) (s s' : List ℕ) (count : ℕ) (a : Result Kept Refusal) : Type 0 where
  pub past : drop (4 * n) s' ≡ drop (4 * n) s
  pub ends : (r : List ℕ) → Walking n s r [] → count ≡ length r → (turns : ℕ) → Done (run_t parts turns (going r (reverse r)))
      → Ends lengths n s' a (run_t parts turns (going r (reverse r)))

-- the requests, in list order
abbrev pub asks : ℕ → List ℕ → List ℕ → Res (List ℕ)
asks n r [] = ok r
asks n r (q ∷ qs) = asked n r q >>= λ (r : List ℕ). asks n r qs

pub record Numbered (n : ℕ) (ids s s' : List ℕ) (a : Result ℕ Refusal) : Type 0 where
  pub past : drop (4 * n) s' ≡ drop (4 * n) s
  pub counts : Counts n s' a (asks n (0 ∷ []) ids)
