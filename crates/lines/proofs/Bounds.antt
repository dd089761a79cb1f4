-- What a caller of the public call may take from its promise: the roster lies in the scratch, the file in the output.
use mathlib.Core.Path.{◌≡◌, refl, subst}
use mathlib.Core.Bool.{Bool, true, false}
use mathlib.Core.List.{List, ◌++◌}
use Prim.Native.Nat.{ℕ, ◌*◌, ◌-◌, ◌≤◌}
use native.Mathlib.Omega.{arith}
use lib.Dec.{leb}
use lib.ListN.{length, drop, replicate, length-append}
use Rattle.model.specs.Res.{Res, refuse, ok, pick, ◌>>=◌}
use Rattle.model.specs.Bytes.{Bytes, over}
use Rattle.model.specs.Font.{Tables}
use Rattle.model.specs.Cut.{count}
use Rattle.std.specs.Prelude.{Result, Ok}
use Rattle.answer.specs.declared.CutError.{CutError}
use Rattle.answer.specs.declared.Font.{Font}
use Rattle.answer.specs.Answers.{answer_of}
use Rattle.model.specs.Call.{Input, Answer, Made, Promise, ready, made, delivered, last, answer, out_after, out_from, scratch_after, scratch_from, places_from}

roster_in : (b : Bool) (m : Made) (places : ℕ) (rest : List ℕ) → (delivered b m).kept
    ≤ length (pick b (m.roster ++ replicate (places - length m.roster) 0) (replicate places 0) ++ rest)
roster_in true m places rest =
    rw (length-append (m.roster ++ replicate (places - length m.roster) 0) rest, length-append m.roster (replicate (places - length m.roster) 0)) (omega arith)
roster_in false m places rest = omega arith

kept-made : (x : Input) (t : Tables) (m : Res Made) → (last (length x.out) m).kept ≤ length (places_from (4 * count t) (length x.out) m ++ drop (4 * count t) x.scratch)
kept-made x t (refuse k) = omega arith
kept-made x t (ok m) = roster_in (leb (length m.bytes) (length x.out)) m (4 * count t) (drop (4 * count t) x.scratch)

kept_read : (x : Input) (r : Res Tables) → (last (length x.out) (r >>= λ t. made t x.ids)).kept ≤ length (scratch_from x r)
kept_read x (refuse k) = omega arith
kept_read x (ok t) = kept-made x t (made t x.ids)

kept-within : (x : Input) (r : Answer) (o s : List ℕ) → Promise x r o s → r.kept ≤ length s
unfolding answer scratch_after
kept-within x r o s p = rw (p.answers, p.leaves) (kept_read x (ready x))

file_in : (b : Bool) (m : Made) (out : Bytes) → (delivered b m).refusal ≡ 0 → (delivered b m).length ≤ length (pick b (over m.bytes out) out)
unfolding over
file_in true m out h = rw (length-append m.bytes (drop (length m.bytes) out)) (omega arith)
file_in false m out h = omega (arith, h)

file-made : (out : Bytes) (m : Res Made) → (last (length out) m).refusal ≡ 0 → (last (length out) m).length ≤ length (out_from out m)
file-made out (refuse k) h = omega arith
file-made out (ok m) h = file_in (leb (length m.bytes) (length out)) m out h

file-within : (x : Input) (r : Answer) (o s : List ℕ) → Promise x r o s → r.refusal ≡ 0 → r.length ≤ length o
unfolding answer out_after
file-within x r o s p h = rw (p.answers, p.writes) (file-made x.out (ready x >>= λ t. made t x.ids) (rw p.answers at h))

pub font-kept : (x : Input) (a : Result Font CutError) (f : Font) (o s : List ℕ) → a ≡ Ok f → Promise x (answer_of a) o s → f.kept ≤ length s
font-kept x a f o s e p = kept-within x (answer_of (Ok f)) o s (subst (λ b. Promise x (answer_of b) o s) e p)

pub font-file : (x : Input) (a : Result Font CutError) (f : Font) (o s : List ℕ) → a ≡ Ok f → Promise x (answer_of a) o s → f.length ≤ length o
font-file x a f o s e p = file-within x (answer_of (Ok f)) o s (subst (λ b. Promise x (answer_of b) o s) e p) refl
