-- The public call, case by case: what a refusal at each step and a success make of the answer, the output and the scratch.
use mathlib.Core.Path.{◌≡◌, refl, sym, ◌∙◌}
use mathlib.Core.List.{List, ◌++◌}
use Prim.Native.Nat.{ℕ, ◌*◌, ◌≤◌, ◌<◌}
use lib.ListN.{length, drop}
use borrow.Author.Tests.{le-leb, lt-leb}
use Rattle.model.specs.Res.{Res, refuse, ok}
use Rattle.model.specs.Bytes.{Bytes, over}
use Rattle.model.specs.Font.{Tables, read}
use Rattle.model.specs.File.{entries, file}
use Rattle.model.specs.Cut.{CutFont, rewrite, cut_tables, closure, count}
use Rattle.model.specs.Call.{Input, Answer, Made, ready, made, last, answer, out_from, out_after, places_from, scratch_after, Promise}
use Rattle.model.proofs.Res.{bind_ok, need-ok, need_no}
use Rattle.plan.specs.Steps.{file_from}

-- steps 1 to 4 refuse: nothing changes
pub not-ready : (x : Input) (k : ℕ) → ready x ≡ refuse k → Promise x (record { refusal = k; kept = 0; length = 0 }) x.out x.scratch
unfolding answer out_after scratch_after
not-ready x k e = record { answers = rw e; writes = rw e; leaves = rw e }

pub read-refuses : (x : Input) (k : ℕ) → read x.font x.index ≡ refuse k → ready x ≡ refuse k
unfolding ready
read-refuses x k e = rw e

pub scratch-short : (x : Input) (t : Tables) → read x.font x.index ≡ ok t → length x.scratch < 4 * count t → ready x ≡ refuse 8
unfolding ready
scratch-short x t e h = bind_ok _ _ e (need_no _ _ _ (lt-leb (4 * count t) (length x.scratch) h))

pub is-ready : (x : Input) (t : Tables) → read x.font x.index ≡ ok t → 4 * count t ≤ length x.scratch → ready x ≡ ok t
unfolding ready
is-ready x t e h = bind_ok _ _ e (need-ok _ _ _ (le-leb (4 * count t) (length x.scratch) h) refl)

-- from step 5 on: what the tables make
pub from_made : (x : Input) (t : Tables) (m : Res Made) (r : Answer) (o : Bytes) (s : List ℕ) → ready x ≡ ok t → made t x.ids ≡ m
    → r ≡ last (length x.out) m → o ≡ out_from x.out m
    → s ≡ places_from (4 * count t) (length x.out) m ++ drop (4 * count t) x.scratch → Promise x r o s
unfolding answer out_after scratch_after
from_made x t m r o s e f p q l = record { answers = p ∙ sym (rw (e, f)); writes = q ∙ sym (rw (e, f)); leaves = l ∙ sym (rw (e, f)) }

-- steps 5 to 9
pub made-refused : (t : Tables) (ids : List ℕ) (k : ℕ) → closure t ids ≡ refuse k → made t ids ≡ refuse k
unfolding made cut_tables
made-refused t ids k e = rw e

pub made_from : (t : Tables) (ids r : List ℕ) → closure t ids ≡ ok r → made t ids ≡ file_from (rewrite t r)
unfolding made cut_tables file_from
made_from t ids r e = rw e

-- step 9 and 10
pub too_long : (c : CutFont) → 4294967295 < length (file (entries c.tables)) → file_from (ok c) ≡ refuse 5
unfolding file_from
too_long c h = need_no _ _ _ (lt-leb (length (file (entries c.tables))) 4294967295 h)

pub long-enough : (c : CutFont) → length (file (entries c.tables)) ≤ 4294967295 → file_from (ok c) ≡ ok (record { roster = c.roster; bytes = file (entries c.tables) })
unfolding file_from
long-enough c h = need-ok _ _ _ (le-leb (length (file (entries c.tables))) 4294967295 h) refl

pub no_room : (out : Bytes) (m : Made) → length out < length m.bytes
    → (last (length out) (ok m) ≡ record { refusal = 6; kept = 0; length = length m.bytes }) × (out_from out (ok m) ≡ out)
no_room out m h = let e = lt-leb (length m.bytes) (length out) h in (rw e, rw e)

pub room : (out : Bytes) (m : Made) → length m.bytes ≤ length out
    → (last (length out) (ok m) ≡ record { refusal = 0; kept = length m.roster; length = length m.bytes }) × (out_from out (ok m) ≡ over m.bytes out)
room out m h = let e = le-leb (length m.bytes) (length out) h in (rw e, rw e)
