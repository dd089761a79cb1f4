-- What the code's answers mean, in document 01's numbers.
use Rattle.std.specs.Prelude.{ℕ, Result, Ok, Err}
use Rattle.answer.specs.declared.Refusal.{Refusal}
use Rattle.answer.specs.declared.Refusal.TheVariants.{UnknownKind, NotTrueType, MalformedFont, NameOutsideStorage, Overflow, TooManyGlyphs, ScratchTooShort}
use Rattle.answer.specs.declared.Font.{Font}
use Rattle.answer.specs.declared.CutError.{CutError}
use Rattle.answer.specs.declared.CutError.TheVariants.{Refused, OutputTooShort}
use Rattle.model.specs.Res.{Res, refuse, ok}
use Rattle.model.specs.Call.{Answer}

-- the refusals' numbers
abbrev pub number : Refusal → ℕ
number UnknownKind = 1
number NotTrueType = 2
number MalformedFont = 3
number NameOutsideStorage = 4
number Overflow = 5
number TooManyGlyphs = 7
number ScratchTooShort = 8

abbrev pub error_number : CutError → ℕ
error_number (Refused r) = number r
error_number (OutputTooShort needed) = 6

abbrev pub res_of : {A : Type 0} → Result A Refusal → Res A
res_of (Ok x) = ok x
res_of (Err r) = refuse (number r)

-- "A refusal reports N = 0 and length 0, but 6 reports the length needed"
abbrev pub answer_of : Result Font CutError → Answer
answer_of (Ok f) = record { refusal = 0; kept = f.kept; length = f.length }
answer_of (Err (Refused r)) = record { refusal = number r; kept = 0; length = 0 }
answer_of (Err (OutputTooShort needed)) = record { refusal = 6; kept = 0; length = needed }
