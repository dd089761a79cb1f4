-- Where the walk stops, the glyph in hand is needed: so a refusal has one of the stated reasons. A roster leaves no room for any of them.
use Prim.Native.Nat.{ℕ, ◌≤◌, ◌<◌}
use mathlib.Core.Bool.{Bool, true, false, not}
use mathlib.Core.List.{List, [], ◌∷◌, ◌++◌, reverse}
use mathlib.Core.Logic.{◌⊎◌, inl, inr, ⊎_elim}
use mathlib.Core.Path.{◌≡◌, refl, sym, ap, ◌∙◌, subst}
use native.Mathlib.Omega.{arith}
use lib.Dec.{leb, eqb}
use lib.ListN.{length, length-append}
use borrow.Author.Tests.{leb-true, eqb-true, eq-eqb}
use Rattle.model.specs.Res.{refuse, ok}
use Rattle.model.specs.Bytes.{member}
use Rattle.model.specs.Font.{Tables}
use Rattle.model.specs.Walk.{Walk, going, kept, refused, numbered, full, run, seed, begin, ended, most, walk}
use Rattle.model.specs.Cut.{count, parts_of, turns, closure}
use Rattle.model.proofs.Res.{both_true, ok-refuse}
use Rattle.model.proofs.Members.{In, by, clash, in_here, in_there, in_cons, in_one, in_eq, in_append, numbered-cases}
use Rattle.model.proofs.Outlines.{parts_yield}
use Rattle.model.proofs.Thin.{without, Done, run-done}
use Rattle.model.proofs.Start.{Once, once_snoc, once-numbered, Started, begin-cases}
use Rattle.model.proofs.Least.{Keeps, End, ends, AllIn, all-turn, all_start}
use Rattle.model.proofs.Closure.{closure-ends, closure-roster}
use Rattle.theorems.specs.Closure.{Needed, zeroth, asked, Unreadable, none, outside, outline, TooMany, Refused, WalkRefuses}
use Rattle.theorems.proofs.Rosters.{needed_shut, roster-least}

-- no more different ids than there are to take them from
in_without : (x y : ℕ) (r : List ℕ) → eqb x y ≡ false → In x r → In x (without y r)
in_without x y [] e m = m
in_without x y (z ∷ r) e m =
    by (eqb z y)
    (λ k. rw k (in_without x y r e (⊎_elim (λ q. clash (subst (λ (t : ℕ). eqb t y ≡ true) (sym q) k) e) (λ q. q) (in_cons x z r m))))
    (λ k. rw k (⊎_elim (λ q. in_eq (z ∷ without y r) q (in_here z (without y r))) (λ q. in_there x z (without y r) (in_without x y r e q)) (in_cons x z r m)))

length_without : (y : ℕ) (r : List ℕ) → length (without y r) ≤ length r
length_without y [] = omega arith
length_without y (z ∷ r) = by (eqb z y) (λ k. rw k (omega (arith, length_without y r))) (λ k. rw k (omega (arith, length_without y r)))

shorter : (y : ℕ) (r : List ℕ) → In y r → length (without y r) < length r
shorter y [] m = clash m refl
shorter y (z ∷ r) m =
    by (eqb z y)
    (λ k. rw k (omega (arith, length_without y r)))
    (λ k. rw k (omega (arith, shorter y r (⊎_elim (λ q. clash (subst (λ (t : ℕ). eqb t y ≡ true) q (eq-eqb y y refl)) k) (λ q. q) (in_cons y z r m)))))

pigeon : (l r : List ℕ) → Once l → ((x : ℕ) → In x l → In x r) → length l ≤ length r
pigeon [] r o h = omega arith
pigeon (x ∷ l) r o h =
    omega (arith, shorter x r (h x (in_here x l)), pigeon l (without x r) o.1 (λ y m. in_without y x r (other y m) (h y (in_there y x l m))))
  where
    other : (y : ℕ) → In y l → eqb y x ≡ false
    other y m = by (eqb y x) (λ e. clash (in_eq l (sym (eqb-true y x e)) m) o.0) (λ e. e)

ended-refused : (w : Walk) (k : ℕ) → Done w → ended w ≡ refuse k → w ≡ refused k
ended-refused (going r st) k d e = absurd d
ended-refused (kept r) k d e = ok-refuse e
ended-refused (refused j) k d e = ap refused (cc)

not_true : (b : Bool) → not b ≡ true → b ≡ false
not_true true e = clash e refl
not_true false e = refl

module _ (t : Tables) (qs : List ℕ) where
  abbrev AllNeeded : List ℕ → Type 0
  AllNeeded r = (g : ℕ) → In g r → Needed t qs g

  too_many : (r : List ℕ) (g : ℕ) → Once r → AllNeeded r → Needed t qs g → full r g ≡ true → TooMany t qs
  unfolding full
  too_many r g o a n e =
      let b = both_true (not (member g r)) (leb most (length r)) e in (
        r ++ (g ∷ []),
        once_snoc r g o (not_true (member g r) b.0),
        omega (arith, length-append r (g ∷ []), leb-true most (length r) b.1),
        λ x m. ⊎_elim (a x) (λ q. subst (Needed t qs) (sym (in_one x g q)) n) (in_append x r (g ∷ []) m),
      )

  seed-refused : (r ps : List ℕ) (k : ℕ) → Once r → AllNeeded r → ((q : ℕ) → In q ps → In q qs) → seed (count t) r ps ≡ refused k → Refused t qs k
  seed-refused r [] k o a h e = absurd (let z : ◌≡◌ {A = ℕ} 0 1 = cc in omega arith)
  seed-refused r (q ∷ ps) k o a h e =
      by (leb (count t) q)
      (λ l. let z : refused 3 ≡ refused k = rw l at e in inl (cc, outside q here (leb-true (count t) q l)))
      (λ l. by (full r q)
      (λ f. let z : refused 7 ≡ refused k = rw (l, f) at e in inr (cc, too_many r q o a (asked q here) f))
      (λ f. seed-refused (numbered r q) ps k (once-numbered r q o)
      (λ x m. ⊎_elim (a x) (λ d. subst (Needed t qs) (sym d) (asked q here)) (numbered-cases r q x m))
      (λ x m. h x (in_there x q ps m)) (rw (l, f) at e)))
    where
      here : In q qs
      here = h q (in_here q ps)

  begin-refused : (k : ℕ) → begin (count t) qs ≡ refused k → Refused t qs k
  unfolding begin
  begin-refused k e =
      by (eqb (count t) 0)
      (λ z. let q : refused 3 ≡ refused k = rw z at e in inl (cc, none (eqb-true (count t) 0 z)))
      (λ z. seed-refused (0 ∷ []) qs k (refl, tt) (λ g m. subst (Needed t qs) (sym (in_one g 0 m)) zeroth) (λ q m. m) (rw z at e))

  -- in each turn the roster has no repeats, and all on roster and stack is needed
  abbrev Going : List ℕ → List ℕ → Type 0
  Going r st = Once r × AllIn (parts_of t) (Needed t qs) (needed_shut t qs) r st

  going-turn : Keeps (parts_of t) Going
  going-turn r g st cs p f q = (once-numbered r g p.0, all-turn (parts_of t) (Needed t qs) (needed_shut t qs) r g st cs p.1 f q)

  end_refused : (k : ℕ) → End (parts_of t) Going going-turn (refused k) → Refused t qs k
  end_refused k (r, g, st, p, why) = go why
    where
      here : Needed t qs g
      here = p.1.1 g (in_here g st)

      go : ((k ≡ 7) × (full r g ≡ true)) ⊎ (parts_of t g ≡ refuse k) → Refused t qs k
      go (inl f) = inr (f.0, too_many r g p.0 p.1.0 here f.1)
      go (inr f) =
          let three = (parts_yield t g).refusal k f in
          inl (three, outline g here (f ∙ ap refuse three))

  run-refused : (k : ℕ) → Started (count t) qs → run (parts_of t) (turns t qs) (begin (count t) qs) ≡ refused k → Refused t qs k
  run-refused k (inl d) e = begin-refused k (d.1 ∙ sym (run-done (parts_of t) (turns t qs) (refused d.0) tt) ∙ (rw d.1 at e))
  run-refused k (inr d) e =
      end_refused k (subst (End (parts_of t) Going going-turn) (rw d.1 at e)
      (ends (parts_of t) Going going-turn (turns t qs) d.0 (reverse d.0)
      (d.2.once, all_start (parts_of t) (Needed t qs) (needed_shut t qs) (count t) qs d.0 d.2 zeroth asked)))

pub walk-refuses : WalkRefuses
unfolding closure walk
walk-refuses t qs =
    record {
      refuses = λ k e.
          run-refused t qs k (begin-cases (count t) qs)
          (ended-refused (run (parts_of t) (turns t qs) (begin (count t) qs)) k (closure-ends t qs).1 e);
      succeeds = λ r e. (fine r e, few r e);
    }
  where
    few : (r : List ℕ) → closure t qs ≡ ok r → TooMany t qs → ⊥
    few r e m = omega (arith, m.2, (closure-roster t qs r e).size, pigeon m.0 r m.1 (λ g i. (roster-least t qs r e).kept g (m.3 g i)))

    fine : (r : List ℕ) → closure t qs ≡ ok r → Unreadable t qs → ⊥
    fine r e (none z) = omega (arith, z, (closure-roster t qs r e).within 0 (closure-roster t qs r e).zeroth)
    fine r e (outside q m h) = omega (arith, h, (closure-roster t qs r e).within q ((closure-roster t qs r e).asked q m))
    fine r e (outline g n z) = ok-refuse (sym ((roster-least t qs r e).readable g ((roster-least t qs r e).kept g n)).1 ∙ z)
