-- The machine's cases, one law each; and a text read to a place is a text read byte by byte.
use mathlib.Core.Path.{◌≡◌, refl}
use mathlib.Core.Bool.{Bool, true, false}
use mathlib.Core.List.{[], ◌∷◌, ◌++◌}
use Prim.Native.Nat.{ℕ, ◌+◌, ◌≤◌, ◌<◌}
use native.Mathlib.Numerals.{add-one}
use borrow.Author.Tests.{lt-ltb, le-ltb, eq-eqb}
use lib.ListN.{length, take, get_or}
use lib.Seq.{take-suc}
use Rattle.model.specs.Res.{both}
use Rattle.model.specs.Bytes.{Bytes}
use Rattle.lines.specs.Ids.{State, spoilt, closed, stepped, run}

pub by : {C : Type 0} (b : Bool) → (b ≡ true → C) → (b ≡ false → C) → C
by true f g = f refl
by false f g = g refl

pub both_no : (b : Bool) → both b false ≡ false
both_no true = refl
both_no false = refl

pub closed-outside : (m : ℕ) (t : State) → t.inside ≡ false → closed m t ≡ spoilt t
unfolding closed
closed-outside m t e = rw e refl

pub closed-full : (m : ℕ) (t : State) → m ≤ length t.ids → closed m t ≡ spoilt t
unfolding closed
closed-full m t h = rw (le-ltb _ _ h, both_no) refl

pub closed-more : (m : ℕ) (t : State) → t.inside ≡ true → length t.ids < m
    → closed m t ≡ record { good = true; ids = t.ids ++ (t.value ∷ []); inside = false; value = 0 }
unfolding closed
closed-more m t e h = rw (e, lt-ltb _ _ h) refl

pub stepped_bad : (m : ℕ) (t : State) (b : ℕ) → t.good ≡ false → stepped m t b ≡ t
unfolding stepped
stepped_bad m t b e = rw e refl

pub stepped_line : (m : ℕ) (t : State) (b : ℕ) → t.good ≡ true → b ≡ 10 → stepped m t b ≡ closed m t
unfolding stepped
stepped_line m t b e h = rw (e, eq-eqb _ _ h) refl

pub run-append : (m : ℕ) (t : State) (a b : Bytes) → run m t (a ++ b) ≡ run m (run m t a) b
unfolding run
run-append m t [] b = refl
run-append m t (x ∷ a) b = run-append m (stepped m t x) a b

pub run-turn : (m : ℕ) (t : State) (text : Bytes) (i : ℕ) → i < length text → run m t (take (i + 1) text) ≡ stepped m (run m t (take i text)) (get_or text i 0)
unfolding run
run-turn m t text i h = rw (add-one, take-suc text i 0 h) (run-append m t (take i text) (get_or text i 0 ∷ []))
