-- Taking numbers to ids one to one commutes with every turn of the walk: so a font whose outlines are another's, renumbered, is walked alike.
use Prim.Native.Nat.{ℕ, zero, suc, ◌+◌, ◌≤◌, ◌<◌}
use mathlib.Core.Bool.{Bool}
use mathlib.Core.List.{List, [], ◌∷◌, map, reverse, reverse_aux, map-append}
use mathlib.Core.Logic.{⊎_elim}
use mathlib.Core.Path.{◌≡◌, refl, sym, ap, ◌∙◌, subst}
use native.Mathlib.Omega.{arith}
use lib.ListN.{length, length-map, get_or}
use lib.Dec.{eqb}
use borrow.Author.Tests.{lt-leb, eqb-true, eqb-false, ne_eqb, eq-eqb}
use Rattle.model.specs.Res.{Res, refuse, ok, pick, either, map_res}
use Rattle.model.specs.Bytes.{member, place}
use Rattle.model.specs.Font.{Tables}
use Rattle.model.specs.Walk.{Walk, going, kept, refused, numbered, full, push, opened, run, seed, begin, ended, walk}
use Rattle.model.specs.Cut.{count, parts_of, turns, closure}
use Rattle.model.proofs.Members.{In, by, clash, in_here, in_there, in_one, numbered-cases, in_push}
use Rattle.model.proofs.Places.{place-low, get_in, place-get, map_back}
use Rattle.model.proofs.Thin.{Done, Inside, run-done, one_end, ids, widths}
use Rattle.model.proofs.Start.{in_reverse_aux, thin}
use Rattle.model.proofs.Least.{Roster}
use Rattle.model.proofs.Closure.{parts-inside, turns_cover, closure-roster}
use Rattle.theorems.specs.Closure.{Copied, WalkTwice}

abbrev map_w : (ℕ → ℕ) → Walk → Walk
map_w ρ (going r st) = going (map ρ r) (map ρ st)
map_w ρ (kept r) = kept (map ρ r)
map_w ρ (refused k) = refused k

done-map : (ρ : ℕ → ℕ) (w : Walk) → Done w → Done (map_w ρ w)
done-map ρ (going r st) d = d
done-map ρ (kept r) d = tt
done-map ρ (refused k) d = tt

ended-map : (ρ : ℕ → ℕ) (w : Walk) → ended (map_w ρ w) ≡ map_res (map ρ) (ended w)
ended-map ρ (going r st) = refl
ended-map ρ (kept r) = refl
ended-map ρ (refused k) = refl

reverse-map : (ρ : ℕ → ℕ) (l acc : List ℕ) → reverse_aux (map ρ l) (map ρ acc) ≡ map ρ (reverse_aux l acc)
reverse-map ρ [] acc = refl
reverse-map ρ (x ∷ l) acc = reverse-map ρ l (x ∷ acc)

-- the ids of a list are below m
abbrev pub Low : ℕ → List ℕ → Type 0
Low m l = (x : ℕ) → In x l → x < m

low-tail : (m x : ℕ) (l : List ℕ) → Low m (x ∷ l) → Low m l
low-tail m x l h y k = h y (in_there y x l k)

-- ρ takes the numbers below m to ids of a font of n glyphs, and the outlines o' are the outlines o, renumbered
pub record Renumbered (m n : ℕ) (ρ : ℕ → ℕ) (o' o : ℕ → Res (List ℕ)) : Type 0 where
  pub some : 0 < m
  pub zeroth : ρ 0 ≡ 0
  pub one-one : (x y : ℕ) → x < m → y < m → ρ x ≡ ρ y → x ≡ y
  pub below : (x : ℕ) → x < m → ρ x < n
  pub alike : (x : ℕ) → x < m → o (ρ x) ≡ map_res (map ρ) (o' x)
  pub inside' : Inside o' m
  pub inside : Inside o n

module _ (m n : ℕ) (ρ : ℕ → ℕ) (o' o : ℕ → Res (List ℕ)) (v : Renumbered m n ρ o' o) where
  member-map : (x : ℕ) (l : List ℕ) → x < m → Low m l → member (ρ x) (map ρ l) ≡ member x l
  member-map x [] h k = refl
  member-map x (y ∷ l) h k = rw (member-map x l h (low-tail m y l k)) (ap (λ (t : Bool). either t (member x l)) same)
    where
      same : eqb (ρ x) (ρ y) ≡ eqb x y
      same =
          by (eqb x y)
          (λ e. eq-eqb (ρ x) (ρ y) (ap ρ (eqb-true x y e)) ∙ sym e)
          (λ e. ne_eqb (ρ x) (ρ y) (λ q. eqb-false x y e (v.one-one x y h (k y (in_here y l)) q)) ∙ sym e)

  numbered-map : (r : List ℕ) (g : ℕ) → g < m → Low m r → numbered (map ρ r) (ρ g) ≡ map ρ (numbered r g)
  unfolding numbered
  numbered-map r g h k = rw (member-map g r h k) (by (member g r) (λ e. rw e) (λ e. rw e (sym (map-append ρ r (g ∷ [])))))

  full-map : (r : List ℕ) (g : ℕ) → g < m → Low m r → full (map ρ r) (ρ g) ≡ full r g
  unfolding full
  full-map r g h k = rw (member-map g r h k, length-map r ρ)

  push-map : (r cs st : List ℕ) → Low m r → Low m cs → push (map ρ r) (map ρ cs) (map ρ st) ≡ map ρ (push r cs st)
  push-map r [] st h k = refl
  push-map r (c ∷ cs) st h k =
      ap (λ (b : Bool). push (map ρ r) (map ρ cs) (pick b (map ρ st) (ρ c ∷ map ρ st))) (member-map c r (k c (in_here c cs)) h)
      ∙ by (member c r)
      (λ e. rw e (push-map r cs st h (low-tail m c cs k)))
      (λ e. rw e (push-map r cs (c ∷ st) h (low-tail m c cs k)))

  low-numbered : (r : List ℕ) (g : ℕ) → g < m → Low m r → Low m (numbered r g)
  low-numbered r g h k x q = ⊎_elim (k x) (λ e. omega (arith, e)) (numbered-cases r g x q)

  stop-map : (f k : ℕ) → run o f (refused k) ≡ map_w ρ (run o' f (refused k))
  stop-map f k = run-done o f (refused k) tt ∙ ap (map_w ρ) (sym (run-done o' f (refused k) tt))

  run-map : (f : ℕ) (r st : List ℕ) → Low m r → Low m st → run o f (going (map ρ r) (map ρ st)) ≡ map_w ρ (run o' f (going r st))
  run-map zero r st h k = refl
  run-map (suc f) r [] h k = run-done o f (kept (map ρ r)) tt ∙ ap (map_w ρ) (sym (run-done o' f (kept r) tt))
  run-map (suc f) r (g ∷ st) h k =
      rw (full-map r g low h)
      (by (full r g)
      (λ e. rw e (stop-map f 7))
      (λ e. rw (e, v.alike g low, numbered-map r g low h)
      (go (o' g) refl (λ cs q. run-map f (numbered r g) (push (numbered r g) cs st) (low-numbered r g low h) (after cs q)))))
    where
      low : g < m
      low = k g (in_here g st)

      comps : (cs : List ℕ) → o' g ≡ ok cs → Low m cs
      comps cs q x e = v.inside' g low x (rw q e)

      after : (cs : List ℕ) → o' g ≡ ok cs → Low m (push (numbered r g) cs st)
      after cs q x e = ⊎_elim (comps cs q x) (low-tail m g st k x) (in_push (numbered r g) cs st x e)

      go : (w : Res (List ℕ)) → o' g ≡ w
          → ((cs : List ℕ) → o' g ≡ ok cs
          → run o f (going (map ρ (numbered r g)) (map ρ (push (numbered r g) cs st))) ≡ map_w ρ (run o' f (going (numbered r g) (push (numbered r g) cs st))))
          → run o f (opened (map_res (map ρ) (o' g)) (map ρ (numbered r g)) (map ρ st)) ≡ map_w ρ (run o' f (opened (o' g) (numbered r g) st))
      go (refuse j) q ih = rw q (stop-map f j)
      go (ok cs) q ih = rw (q, push-map (numbered r g) cs st (low-numbered r g low h) (comps cs q)) (ih cs q)

  -- the start: a state that goes on, or a refusal
  seed-map : (f : ℕ) (r qs : List ℕ) → Low m r → Low m qs → run o f (seed n (map ρ r) (map ρ qs)) ≡ map_w ρ (run o' f (seed m r qs))
  seed-map f r [] h k = rw (reverse-map ρ r []) (run-map f r (reverse r) h (λ x q. ⊎_elim (h x) (λ e. clash e refl) (in_reverse_aux x r [] q)))
  seed-map f r (q ∷ qs) h k =
      rw (lt-leb n (ρ q) (v.below q low), lt-leb m q low, full-map r q low h)
      (by (full r q)
      (λ e. rw e (stop-map f 7))
      (λ e. rw (e, numbered-map r q low h) (seed-map f (numbered r q) qs (low-numbered r q low h) (low-tail m q qs k))))
    where
      low : q < m
      low = k q (in_here q qs)

  begin-map : (f : ℕ) (qs : List ℕ) → Low m qs → run o f (begin n (map ρ qs)) ≡ map_w ρ (run o' f (begin m qs))
  unfolding begin
  begin-map f qs k =
      rw (ne_eqb n 0 (λ e. omega (arith, e, v.below 0 v.some)), ne_eqb m 0 (λ e. omega (arith, e, v.some)))
      (subst (λ (t : ℕ). run o f (seed n (t ∷ []) (map ρ qs)) ≡ map_w ρ (run o' f (seed m (0 ∷ []) qs))) v.zeroth
      (seed-map f (0 ∷ []) qs (λ x e. omega (arith, in_one x 0 e, v.some)) k))

  -- the renumbered font's walk, for requests that it has, is the original's, renumbered; each with any turns that are enough
  pub walk-map : (turns' turns : ℕ) (qs : List ℕ) → Low m qs → 2 + length qs + widths m o' ≤ turns' → 2 + length qs + widths n o ≤ turns
      → walk turns n o (map ρ qs) ≡ map_res (map ρ) (walk turns' m o' qs)
  unfolding walk
  walk-map turns' turns qs k enough' enough =
      ap ended
      (one_end o turns turns' (begin n (map ρ qs))
      (thin turns n o (map ρ qs) v.inside (omega (arith, length-map qs ρ))).1
      (subst Done (sym same) (done-map ρ (run o' turns' (begin m qs)) (thin turns' m o' qs v.inside' enough').1))
      ∙ same)
      ∙ ended-map ρ (run o' turns' (begin m qs))
    where
      same : run o turns' (begin n (map ρ qs)) ≡ map_w ρ (run o' turns' (begin m qs))
      same = begin-map turns' qs k

-- a subset's outlines are the original's, renumbered
renumbered : (t t₁ : Tables) (ids r : List ℕ) → closure t ids ≡ ok r → Copied t r t₁
    → Renumbered (length r) (count t) (λ (k : ℕ). get_or r k 0) (parts_of t₁) (parts_of t)
renumbered t t₁ qs r e c =
    record {
      some = omega (arith, place-low r 0 v.zeroth);
      zeroth = v.first;
      one-one = λ x y h k e. sym (place-get r x v.once h) ∙ ap (place r) e ∙ place-get r y v.once k;
      below = λ x h. v.within (get_or r x 0) (get_in r x h);
      alike = alike;
      inside' = subst (Inside (parts_of t₁)) c.size (parts-inside t₁);
      inside = parts-inside t;
    }
  where
    v : Roster (count t) (parts_of t) qs r
    v = closure-roster t qs r e

    alike : (x : ℕ) → x < length r → parts_of t (get_or r x 0) ≡ map_res (map (λ (k : ℕ). get_or r k 0)) (parts_of t₁ x)
    alike x h =
        let g = get_or r x 0 in
        let m = get_in r x h in
        let read = v.readable g m in
        read ∙ ap ok (sym (map_back r (ids (parts_of t g)) (v.closed g m)))
        ∙ sym (ap (λ (p : Res (List ℕ)). map_res (map (λ (k : ℕ). get_or r k 0)) p) (c.parts x h ∙ ap (λ (p : Res (List ℕ)). map_res (map (place r)) p) read))

pub walk-twice : WalkTwice
unfolding closure
walk-twice t t₁ qs r e c qs₂ h =
    walk-map (length r) (count t) old (parts_of t₁) (parts_of t) (renumbered t t₁ qs r e c) (turns t₁ qs₂) (turns t (map old qs₂)) qs₂ h
    (subst (λ (m : ℕ). 2 + length qs₂ + widths m (parts_of t₁) ≤ turns t₁ qs₂) c.size (turns_cover t₁ qs₂))
    (omega (arith, turns_cover t (map old qs₂), length-map qs₂ old))
    ∙ ap (λ (m : ℕ). map_res (map old) (walk (turns t₁ qs₂) m (parts_of t₁) qs₂)) (sym c.size)
  where
    old : ℕ → ℕ
    old k = get_or r k 0
