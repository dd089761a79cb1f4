-- What the call's own functions promise, step by step.
use Rattle.std.specs.Prelude.{◌≡◌, Result, Ok, Bool, true, false, List, ℕ, ◌*◌, ◌≤◌, ◌<◌, length, take, drop}
use Rattle.model.specs.Res.{ok, is_ok}
use Rattle.model.specs.Bytes.{Bytes}
use Rattle.model.specs.Font.{Tables}
use Rattle.model.specs.Cut.{rewrite}
use Rattle.model.specs.Call.{Input, Made, made, last, out_from}
use Rattle.answer.specs.declared.Font.{Font}
use Rattle.answer.specs.declared.CutError.{CutError}
use Rattle.answer.specs.Answers.{answer_of}
use Rattle.remapper.specs.Scratch.{Sweepable}
use Rattle.places.specs.declared.Tables.{Tables as Places}
use Rattle.places.specs.Places.{place_at}
use Rattle.plan.specs.Steps.{file_from}
use Rattle.plan.specs.Sources.{Unnamed, Kept}

-- what the public call is lent
abbrev pub lent : Bytes → ℕ → List ℕ → List ℕ → Bytes → Input
lent font index ids scratch out = record { font = font; index = index; ids = ids; scratch = scratch; out = out }

-- every length fits 32 bits, or one doesn't
pub record Narrow (sized : Places) (r : Bool) : Type 0 where
  pub all : r ≡ true → (k : ℕ) → k < 11 → (place_at sized k).length ≤ 4294967295
  pub one : r ≡ false → (k : ℕ) × (k < 11) × (4294967295 < (place_at sized k).length)

-- steps 6 to 10, of a roster
pub record Rewrites (t : Tables) (r : List ℕ) (n : ℕ) (before after : List ℕ) (d e : Bytes) (a : Result Font CutError) : Type 0 where
  pub answers : answer_of a ≡ last (length d) (file_from (rewrite t r))
  pub done : (f : Font) → a ≡ Ok f → is_ok (file_from (rewrite t r)) ≡ true
  pub writes : e ≡ out_from d (file_from (rewrite t r))
  pub leaves : Kept t.post n before after

-- steps 5 to 10: the scratch holds the roster after a success; its other places up to 4n are to be cleared, of which the walk left few to do
pub record Cuts (t : Tables) (ids : List ℕ) (n : ℕ) (before after : List ℕ) (d e : Bytes) (a : Result Font CutError) : Type 0 where
  pub answers : answer_of a ≡ last (length d) (made t ids)
  pub done : (f : Font) → a ≡ Ok f → is_ok (made t ids) ≡ true
  pub writes : e ≡ out_from d (made t ids)
  pub same_length : length after ≡ length before
  pub past : drop (4 * n) after ≡ drop (4 * n) before
  pub roster : (m : Made) → made t ids ≡ ok m → take (length m.roster) after ≡ m.roster
  pub sweepable : (m : Made) → made t ids ≡ ok m → (written : Bool) → (written ≡ false → Unnamed t.post) → Sweepable n after (length m.roster) written
