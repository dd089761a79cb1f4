-- Each turn shortens what is left: so turns that are as many as bytes, halvings or pushes are enough, and more change nothing.
use Prim.Native.Nat.{ℕ, zero, suc, ◌/◌, ◌≤◌, ◌<◌, ◌^◌}
use mathlib.Core.List.{List, [], ◌∷◌}
use mathlib.Core.Path.{◌≡◌, refl, ap, subst}
use native.Mathlib.Omega.{arith}
use native.Mathlib.Nat.{pow-suc}
use lib.Dec.{ltb, leb}
use lib.ListN.{length, take, drop, length-drop}
use borrow.Author.Tests.{lt-ltb, ltb-false, ltb-true}
use Rattle.model.specs.Res.{pick, both}
use Rattle.model.specs.Bytes.{Bytes}
use Rattle.model.specs.Post.{names}
use Rattle.model.specs.File.{selector}
use Rattle.model.specs.Walk.{begin, ended, walk}
use Rattle.model.specs.Cut.{count, parts_of, turns, closure}
use Rattle.model.proofs.Members.{by}
use Rattle.model.proofs.Outlines.{records-same}
use Rattle.model.proofs.Thin.{Done, one_end}
use Rattle.model.proofs.Start.{thin}
use Rattle.model.proofs.Closure.{parts-inside, turns_cover, closure-ends}
use Rattle.theorems.specs.Closure.{TurnsEnough, RecordsEnough, NamesEnough, SelectorEnough}

pub turns-enough : TurnsEnough
unfolding closure walk
turns-enough t qs =
    record {
      ends = λ r st e. subst Done e (closure-ends t qs).1;
      more = λ n h.
          ap ended (one_end (parts_of t) n (turns t qs) (begin (count t) qs)
          (thin n (count t) (parts_of t) qs (parts-inside t) (omega (arith, h, turns_cover t qs))).1 (closure-ends t qs).1);
    }

pub records-enough : RecordsEnough
records-enough n turns b h = records-same n turns (length b) b h (omega arith)

names_same : (i j : ℕ) (b : Bytes) → length b ≤ i → length b ≤ j → names i b ≡ names j b
names_same zero zero b h k = refl
names_same zero (suc j) [] h k = refl
names_same zero (suc j) (x ∷ b) h k = absurd (omega arith)
names_same (suc i) zero [] h k = refl
names_same (suc i) zero (x ∷ b) h k = absurd (omega arith)
names_same (suc i) (suc j) [] h k = refl
names_same (suc i) (suc j) (x ∷ b) h k =
    ap (λ (more : List Bytes). pick (both (ltb 0 x) (leb x (length b))) (take x b ∷ more) [])
    (names_same i j (drop x b) (omega (arith, length-drop x b)) (omega (arith, length-drop x b)))

pub names-enough : NamesEnough
names-enough turns b h = names_same turns (length b) b h (omega arith)

selector-same : (i j n : ℕ) → n ≤ i → n ≤ j → selector i n ≡ selector j n
selector-same zero zero n h k = refl
selector-same zero (suc j) n h k = rw (lt-ltb n 2 (omega arith))
selector-same (suc i) zero n h k = rw (lt-ltb n 2 (omega arith))
selector-same (suc i) (suc j) n h k =
    by (ltb n 2)
    (λ e. rw e)
    (λ e. rw e (ap suc (selector-same i j (n / 2) (omega (arith, ltb-false n 2 e)) (omega (arith, ltb-false n 2 e)))))

log : (i n : ℕ) → n ≤ i → (1 ≤ n → 2 ^ selector i n ≤ n) × (n < 2 ^ suc (selector i n))
log zero n h = (λ l. absurd (omega arith), omega arith)
log (suc i) n h =
    by (ltb n 2)
    (λ e. rw e (λ l. l, ltb-true n 2 e))
    (λ e. rw e (
    (let ih = log i (n / 2) (omega (arith, ltb-false n 2 e)) in
    let s = selector i (n / 2) in
    (λ l. omega (arith, pow-suc 2 s, ih.0 (omega (arith, ltb-false n 2 e))), omega (arith, pow-suc 2 (suc s), ih.1)))
    ))

pub selector-enough : SelectorEnough
selector-enough n =
    let l = log n n (omega arith) in
    record { more = λ turns h. selector-same turns n n h (omega arith); reached = l.0; greatest = l.1 }
