-- What the scratch holds: the roster with the ids' new numbers, and the components that wait.
use Rattle.std.specs.Prelude.{Result, Ok, Err, ℕ, suc, ◌*◌, ◌<◌, false, List, [], ◌∷◌, ◌≡◌, length, take, drop, leb}
use Rattle.model.specs.Res.{Res, refuse, ok, pick}
use Rattle.model.specs.Bytes.{member, place, In, Once}
use Rattle.model.specs.Walk.{numbered, full}
use Rattle.remapper.specs.Scratch.{num, prev, next, Linked}
use Rattle.answer.specs.declared.Refusal.{Refusal}
use Rattle.answer.specs.Answers.{number}

-- an id's new number + 1, or 0
abbrev pub number_in : List ℕ → ℕ → ℕ
number_in r g = pick (member g r) (suc (place r g)) 0

-- the roster r stands in the first places, and behind it each id's new number + 1
pub record Rostered (n : ℕ) (s r : List ℕ) : Type 0 where
  pub ids : take (length r) s ≡ r
  pub numbers : (g : ℕ) → g < n → num n s g ≡ number_in r g

-- a, the ids of l, e: each is linked with the one after it, by the previous links p and the next links f
abbrev pub Links : (ℕ → ℕ) → (ℕ → ℕ) → ℕ → List ℕ → ℕ → Type 0
Links p f a [] e = (f a ≡ e) × (p e ≡ a)
Links p f a (g ∷ l) e = (f a ≡ g) × (p g ≡ a) × Links p f g l e

-- the components l wait, the top first; r has the ids whose links don't matter
pub record Waits (n : ℕ) (s r l : List ℕ) : Type 0 where
  pub linked : Linked n s
  pub ring : Links (prev n s) (next n s) 0 l 0
  pub once : Once l
  pub low : (x : ℕ) → In x l → x < n
  pub apart : (x : ℕ) → In x l → member x r ≡ false
  pub lone : (x : ℕ) → x < n → member x r ≡ false → member x l ≡ false → (prev n s x ≡ x) × (next n s x ≡ x)
  pub zeroth : In 0 r

-- the walk has come to the roster r, and the components l wait
pub record Walking (n : ℕ) (s r l : List ℕ) : Type 0 where
  pub rostered : Rostered n s r
  pub once : Once r
  pub low : (x : ℕ) → In x r → x < n
  pub waits : Waits n s r l

-- some requests are numbered, and nothing waits
abbrev pub Numbering : ℕ → List ℕ → ℕ → Type 0
Numbering n s count = (r : List ℕ) × Walking n s r [] × (count ≡ length r)

-- one request, of a roster: "an id of n or more is 3; numbering a 65,536th is 7"
abbrev pub asked : ℕ → List ℕ → ℕ → Res (List ℕ)
asked n r q = pick (leb n q) (refuse 3) (pick (full r q) (refuse 7) (ok (numbered r q)))

-- an answer's meaning, of the scratch s: so many of a roster, or the refusal
abbrev pub Counts : ℕ → List ℕ → Result ℕ Refusal → Res (List ℕ) → Type 0
Counts n s (Ok k) (ok r) = Walking n s r [] × (k ≡ length r)
Counts n s (Ok k) (refuse j) = ⊥
Counts n s (Err e) (ok r) = ⊥
Counts n s (Err e) (refuse j) = number e ≡ j

pub record Asked (n : ℕ) (s s' : List ℕ) (q count : ℕ) (a : Result ℕ Refusal) : Type 0 where
  pub past : drop (4 * n) s' ≡ drop (4 * n) s
  pub counts : (r : List ℕ) → Walking n s r [] → count ≡ length r → Counts n s' a (asked n r q)
