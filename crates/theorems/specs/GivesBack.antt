-- "What a call gives back": the answer, the output and the scratch after a success, after a refusal at steps 1 to 4, and after a later one.
use Rattle.std.specs.Prelude.{◌≡◌, ◌++◌, ◌*◌, ◌-◌, ◌≤◌, ◌<◌, length, drop, replicate}
use Rattle.model.specs.Res.{refuse, ok}
use Rattle.model.specs.Bytes.{over}
use Rattle.model.specs.Font.{Tables}
use Rattle.model.specs.Cut.{count}
use Rattle.model.specs.Call.{Input, answer, out_after, scratch_after, ready, made}
use Rattle.theorems.specs.Twice.{file_of, roster_of}

-- "Success: the file's length, the number N of glyphs, the file at the start of the output, the rest of it unchanged";
-- "its first N places are the roster: old ids in new order; the others of the first 4n are zero"
pub record Success (x : Input) (t : Tables) : Type 0 where
  pub cut : made t x.ids ≡ ok (record { roster = roster_of x; bytes = file_of x })
  pub file_length : (answer x).length ≡ length (file_of x)
  pub number : (answer x).kept ≡ length (roster_of x)
  pub most : length (roster_of x) ≤ count t
  pub out : out_after x ≡ over (file_of x) x.out
  pub scratch : scratch_after x ≡ (roster_of x ++ replicate (4 * count t - length (roster_of x)) 0) ++ drop (4 * count t) x.scratch

-- "A refusal reports N = 0 and length 0, but 6 reports the length needed. Output is unchanged"
pub record Refusal (x : Input) : Type 0 where
  pub none : (answer x).kept ≡ 0
  pub zero : ((answer x).refusal ≡ 6 → ⊥) → (answer x).length ≡ 0
  pub needed : (answer x).refusal ≡ 6 → length x.out < (answer x).length
  pub out : out_after x ≡ x.out

pub data Leaves (x : Input) : Type 0 where
  success : (t : Tables) → (answer x).refusal ≡ 0 → ready x ≡ ok t → Success x t → Leaves x
  -- "Earlier refusals change nothing"
  early : 1 ≤ (answer x).refusal → ready x ≡ refuse (answer x).refusal → Refusal x → scratch_after x ≡ x.scratch → Leaves x
  -- "A refusal at step 5 or later leaves those 4n zero"; "Places past 4n never change"
  late : (t : Tables) → 1 ≤ (answer x).refusal → ready x ≡ ok t → Refusal x
      → scratch_after x ≡ replicate (4 * count t) 0 ++ drop (4 * count t) x.scratch → Leaves x

abbrev pub GivesBack : Type 0
GivesBack = (x : Input) → Leaves x
