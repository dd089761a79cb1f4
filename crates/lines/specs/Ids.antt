-- The list of ids: "at most 1,024 decimal ids, one a line (anything else prints `bad list`)", 1,024 being the places lent (`most`);
-- and the machine that reads it byte by byte.
use Rattle.std.specs.Prelude.{Bool, true, false, List, [], ◌∷◌, ◌++◌, map, ℕ, ◌+◌, ◌*◌, ◌-◌, leb, ltb, eqb, length, take, unwrap_or, is_some, Result, Ok, Err}
use Rattle.std.proofs.Math.Option.{Option, none, some}
use Rattle.model.specs.Res.{pick, both}
use Rattle.model.specs.Bytes.{Bytes, all}
use Rattle.lines.specs.declared.Reading.{Reading}
use Rattle.lines.specs.declared.BadList.{BadList}

-- has a list an element
abbrev pub some? : Bytes → Bool
some? [] = false
some? (b ∷ bs) = true

-- the lines of a text whose first line has begun with `line`; a last one without a newline counts
unfoldable pub lines_from : Bytes → Bytes → List Bytes
lines_from line [] = pick (some? line) (line ∷ []) []
lines_from line (b ∷ bs) = pick (eqb b 10) (line ∷ lines_from [] bs) (lines_from (line ++ (b ∷ [])) bs)

abbrev pub digit : ℕ → Bool
digit b = both (leb 48 b) (leb b 57)

-- the number that digits spell, `v` being that of the digits before them
unfoldable pub number_from : ℕ → Bytes → ℕ
number_from v [] = v
number_from v (b ∷ bs) = number_from (10 * v + (b - 48)) bs

abbrev pub number : Bytes → ℕ
number = number_from 0

-- one digit at least, nothing but digits, and a number of 16 bits
abbrev pub id : Bytes → Bool
id line = both (some? line) (both (all digit line) (leb (number line) 65535))

-- the ids that lines give, those of earlier lines before them
abbrev pub judged : ℕ → List ℕ → List Bytes → Option (List ℕ)
judged most ids ls = pick (both (all id ls) (leb (length ids + length ls) most)) (some (ids ++ map number ls)) none

unfoldable pub id_list : ℕ → Bytes → Option (List ℕ)
id_list most text = judged most [] (lines_from [] text)

-- what was read so far: is all of it good, the ids of closed lines, has the last line begun, and its number
pub record State : Type 0 where
  pub good : Bool
  pub ids : List ℕ
  pub inside : Bool
  pub value : ℕ

abbrev pub begun : State
begun = record { good = true; ids = []; inside = false; value = 0 }

abbrev pub spoilt : State → State
spoilt t = record { good = false; ids = t.ids; inside = t.inside; value = t.value }

unfoldable pub closed : ℕ → State → State
closed most t = pick (both t.inside (ltb (length t.ids) most)) (record { good = true; ids = t.ids ++ (t.value ∷ []); inside = false; value = 0 }) (spoilt t)

unfoldable pub grown : State → ℕ → State
grown t d = pick (leb (10 * t.value + d) 65535) (record { good = true; ids = t.ids; inside = true; value = 10 * t.value + d }) (spoilt t)

unfoldable pub stepped : ℕ → State → ℕ → State
stepped most t b = pick t.good (pick (eqb b 10) (closed most t) (pick (digit b) (grown t (b - 48)) (spoilt t))) t

unfoldable pub run : ℕ → State → Bytes → State
run most t [] = t
run most t (b ∷ bs) = run most (stepped most t b) bs

-- a last line without a newline is closed
unfoldable pub last : ℕ → State → State
last most t = pick (both t.good t.inside) (closed most t) t

abbrev pub given : State → Option (List ℕ)
given t = pick t.good (some t.ids) none

-- what the code's values mean
abbrev pub state_of : Reading → List ℕ → State
state_of r ids = record { good = r.good; ids = take r.count ids; inside = is_some r.line; value = unwrap_or r.line 0 }

abbrev pub list_of : Result ℕ BadList → List ℕ → Option (List ℕ)
list_of (Ok k) ids = some (take k ids)
list_of (Err e) ids = none

-- how many places of the ids an answer speaks of
abbrev pub room : Result ℕ BadList → ℕ
room (Ok k) = k
room (Err e) = 0
