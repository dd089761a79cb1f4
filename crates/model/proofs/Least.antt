-- What holds at the start of a walk and is kept by each turn holds at its end: so the roster has 0 and the requests first, no id twice, and
-- is the least set that holds these and is closed under components.
use Prim.Native.Nat.{ℕ, zero, suc, ◌≤◌, ◌<◌}
use mathlib.Core.Bool.{true, false}
use mathlib.Core.List.{List, [], ◌∷◌, ◌++◌, reverse, append_assoc, append-nil}
use mathlib.Core.Logic.{◌⊎◌, inl, inr, ⊎_elim}
use mathlib.Core.Path.{◌≡◌, refl, sym, ap, ◌∙◌, subst}
use native.Mathlib.Omega.{arith}
use lib.ListN.{length, get_or}
use Rattle.model.specs.Res.{Res, refuse, ok}
use Rattle.model.specs.Bytes.{member}
use Rattle.model.specs.Walk.{Walk, going, kept, refused, numbered, full, push, opened, run, begin, ended, most, walk}
use Rattle.model.proofs.Res.{ok_inj, ok-refuse}
use Rattle.model.proofs.Members.{In, by, clash, in_here, in_there, in_cons, in_one, in_eq, in_left, in_numbered, in_numbered_self, numbered-cases, numbered_in, numbered-new, in_push, in_push-old, in_push-new}
use Rattle.model.proofs.Thin.{Inside, run-done, ids}
use Rattle.model.proofs.Start.{Once, once-numbered, keeps-numbered, firsts, room, Seeded, Started, begin-cases, in_reverse_aux, reverse_aux_in}

-- a turn that goes on keeps P
abbrev pub Keeps : (ℕ → Res (List ℕ)) → (List ℕ → List ℕ → Type 0) → Type 0
Keeps o P = (r : List ℕ) (g : ℕ) (st cs : List ℕ) → P r (g ∷ st) → full r g ≡ false → o g ≡ ok cs → P (numbered r g) (push (numbered r g) cs st)

module _ (o : ℕ → Res (List ℕ)) (P : List ℕ → List ℕ → Type 0) (turn : Keeps o P) where
  -- a refusal came at some glyph: it could not be numbered, or its outline not be read
  abbrev pub End : Walk → Type 0
  End (going r st) = P r st
  End (kept r) = P r []
  End (refused k) = (r : List ℕ) × (g : ℕ) × (st : List ℕ) × P r (g ∷ st) × (((k ≡ 7) × (full r g ≡ true)) ⊎ (o g ≡ refuse k))

  pub ends : (f : ℕ) (r st : List ℕ) → P r st → End (run o f (going r st))
  ends zero r st p = p
  ends (suc f) r [] p = subst End (sym (run-done o f (kept r) tt)) p
  ends (suc f) r (g ∷ st) p =
      by (full r g)
      (λ k. rw k (subst End (sym (run-done o f (refused 7) tt)) (r, g, st, p, inl (refl, k))))
      (λ k. rw k (go (o g) refl (λ cs q. ends f (numbered r g) (push (numbered r g) cs st) (turn r g st cs p k q))))
    where
      go : (m : Res (List ℕ)) → o g ≡ m → ((cs : List ℕ) → o g ≡ ok cs → End (run o f (going (numbered r g) (push (numbered r g) cs st))))
          → End (run o f (opened (o g) (numbered r g) st))
      go (refuse j) q ih = rw q (subst End (sym (run-done o f (refused j) tt)) (r, g, st, p, inr q))
      go (ok cs) q ih = rw q (ih cs q)

  pub to_end : (f : ℕ) (r st r' : List ℕ) → P r st → run o f (going r st) ≡ kept r' → P r' []
  to_end f r st r' p e = subst End e (ends f r st p)

firsts_in : (r qs : List ℕ) (x : ℕ) → In x r → In x (firsts r qs)
firsts_in r [] x m = m
firsts_in r (q ∷ qs) x m = firsts_in (numbered r q) qs x (in_numbered r q x m)

first-zero : (r qs t : List ℕ) → get_or (firsts (0 ∷ r) qs ++ t) 0 0 ≡ 0
first-zero r [] t = refl
first-zero r (q ∷ qs) t =
    by (member q (0 ∷ r))
    (λ e. rw (numbered_in (0 ∷ r) q e) (first-zero r qs t))
    (λ e. rw (numbered-new (0 ∷ r) q e) (first-zero (r ++ (q ∷ [])) qs t))

-- what a successful walk's roster is
pub record Roster (n : ℕ) (o : ℕ → Res (List ℕ)) (qs r : List ℕ) : Type 1 where
  pub starts : (t : List ℕ) × (r ≡ firsts (0 ∷ []) qs ++ t)
  pub once : Once r
  pub within : (x : ℕ) → In x r → x < n
  pub size : length r ≤ most
  pub first : get_or r 0 0 ≡ 0
  pub zeroth : In 0 r
  pub asked : (x : ℕ) → In x qs → In x r
  pub readable : (g : ℕ) → In g r → o g ≡ ok (ids (o g))
  pub closed : (g : ℕ) → In g r → (c : ℕ) → In c (ids (o g)) → In c r
  pub least : (S : ℕ → Type 0) → S 0 → ((q : ℕ) → In q qs → S q) → ((g c : ℕ) → S g → In c (ids (o g)) → S c) → (x : ℕ) → In x r → S x

module _ (o : ℕ → Res (List ℕ)) where
  -- each numbered glyph waits on the stack, or was read and each of its components is numbered or waits
  abbrev Read : List ℕ → List ℕ → ℕ → Type 0
  Read r st g = (o g ≡ ok (ids (o g))) × ((c : ℕ) → In c (ids (o g)) → In c r ⊎ In c st)

  abbrev Closing : List ℕ → List ℕ → Type 0
  Closing r st = (g : ℕ) → In g r → In g st ⊎ Read r st g

  closing_turn : Keeps o Closing
  closing_turn r g st cs h k q x m = ⊎_elim (λ e. ⊎_elim waits (λ d. inr (d.0, λ c e. carry c (d.1 c e))) (h x e)) mine (numbered-cases r g x m)
    where
      r' : List ℕ
      r' = numbered r g

      st' : List ℕ
      st' = push r' cs st

      mine : x ≡ g → In x st' ⊎ Read r' st' x
      mine e = subst (λ (y : ℕ). In y st' ⊎ Read r' st' y) (sym e) (inr (rw q refl, λ c d. in_push-new r' cs st c (rw q at d)))

      waits : In x (g ∷ st) → In x st' ⊎ Read r' st' x
      waits e = ⊎_elim mine (λ d. inl (in_push-old r' cs st x d)) (in_cons x g st e)

      carry : (c : ℕ) → In c r ⊎ In c (g ∷ st) → In c r' ⊎ In c st'
      carry c (inl e) = inl (in_numbered r g c e)
      carry c (inr e) = ⊎_elim (λ d. inl (in_eq r' d (in_numbered_self r g))) (λ d. inr (in_push-old r' cs st c d)) (in_cons c g st e)

  closing_end : (r : List ℕ) → Closing r [] → (g : ℕ) → In g r → (o g ≡ ok (ids (o g))) × ((c : ℕ) → In c (ids (o g)) → In c r)
  closing_end r h g m = ⊎_elim (λ e. clash e refl) (λ e. (e.0, λ c d. ⊎_elim (λ z. z) (λ z. clash z refl) (e.1 c d))) (h g m)

  -- all are of a set that is closed under components
  module _ (S : ℕ → Type 0) (shut : (g c : ℕ) → S g → In c (ids (o g)) → S c) where
    abbrev pub AllIn : List ℕ → List ℕ → Type 0
    AllIn r st = ((x : ℕ) → In x r → S x) × ((x : ℕ) → In x st → S x)

    pub all-turn : Keeps o AllIn
    all-turn r g st cs h k q = (
      λ x m. ⊎_elim (h.0 x) (λ e. subst S (sym e) mine) (numbered-cases r g x m),
      λ x m. ⊎_elim (λ e. shut g x mine (rw q e)) (λ e. h.1 x (in_there x g st e)) (in_push (numbered r g) cs st x m),
    )
      where
        mine : S g
        mine = h.1 g (in_here g st)

    pub all_start : (n : ℕ) (qs r : List ℕ) → Seeded n (0 ∷ []) qs r → S 0 → ((q : ℕ) → In q qs → S q) → AllIn r (reverse r)
    all_start n qs r v z a = (first, λ x m. ⊎_elim (first x) (λ e. clash e refl) (in_reverse_aux x r [] m))
      where
        first : (x : ℕ) → In x r → S x
        first x m = ⊎_elim (λ e. subst S (sym (in_one x 0 e)) z) (a x) (v.only x m)

roster_of_lem : (n : ℕ) (o : ℕ → Res (List ℕ)) (f : ℕ) (qs r₀ r : List ℕ) → Inside o n → Seeded n (0 ∷ []) qs r₀
    → run o f (going r₀ (reverse r₀)) ≡ kept r → Roster n o qs r
roster_of_lem n o f qs r₀ r i v h =
    record {
      starts = (grown.0, grown.1 ∙ ap (λ (t : List ℕ). t ++ grown.0) v.in_order);
      once = end (λ r st. Once r) (λ r g st cs p k q. once-numbered r g p) v.once;
      within = least (λ x. x < n) (v.within 0 zeroth) (λ q m. v.within q (v.asked q m)) (λ g c l m. i g l c m);
      size = end (λ r st. length r ≤ most) (λ r g st cs p k q. room r g k p) (v.fits (omega arith));
      first = ap (λ (l : List ℕ). get_or l 0 0) (grown.1 ∙ ap (λ (t : List ℕ). t ++ grown.0) v.in_order) ∙ first-zero [] qs grown.0;
      zeroth = held 0 zeroth;
      asked = λ x m. held x (v.asked x m);
      readable = λ g m. (closing_end o r shut g m).0;
      closed = λ g m. (closing_end o r shut g m).1;
      least = least;
    }
  where
    end : (P : List ℕ → List ℕ → Type 0) → Keeps o P → P r₀ (reverse r₀) → P r []
    end P turn p = to_end o P turn f r₀ (reverse r₀) r p h

    zeroth : In 0 r₀
    zeroth = subst (In 0) (sym v.in_order) (firsts_in (0 ∷ []) qs 0 (in_here 0 []))

    least : (S : ℕ → Type 0) → S 0 → ((q : ℕ) → In q qs → S q) → ((g c : ℕ) → S g → In c (ids (o g)) → S c) → (x : ℕ) → In x r → S x
    least S z a c = (end (AllIn o S c) (all-turn o S c) (all_start o S c n qs r₀ v z a)).0

    shut : Closing o r []
    shut = end (Closing o) (closing_turn o) (λ g m. inl (reverse_aux_in g r₀ [] m))

    grown : (t : List ℕ) × (r ≡ r₀ ++ t)
    grown = end (λ r st. (t : List ℕ) × (r ≡ r₀ ++ t)) turn ([], sym (append-nil r₀))
      where
        turn : Keeps o (λ r st. (t : List ℕ) × (r ≡ r₀ ++ t))
        turn r g st cs p k q =
            let new = keeps-numbered r g in
            (p.0 ++ new.0, new.1 ∙ ap (λ (t : List ℕ). t ++ new.0) p.1 ∙ append_assoc r₀ p.0 new.0)

    held : (x : ℕ) → In x r₀ → In x r
    held x m = subst (In x) (sym grown.1) (in_left x r₀ grown.0 m)

pub ended-kept : (w : Walk) (r : List ℕ) → ended w ≡ ok r → w ≡ kept r
ended-kept (going s st) r e = ok-refuse (sym e)
ended-kept (kept s) r e = ap kept (ok_inj e)
ended-kept (refused k) r e = ok-refuse (sym e)

-- THEOREM. A walk that succeeds gives such a roster
pub roster : (turns n : ℕ) (o : ℕ → Res (List ℕ)) (qs r : List ℕ) → Inside o n → walk turns n o qs ≡ ok r → Roster n o qs r
unfolding walk
roster turns n o qs r i h = go (begin-cases n qs) (ended-kept (run o turns (begin n qs)) r h)
  where
    go : Started n qs → run o turns (begin n qs) ≡ kept r → Roster n o qs r
    go (inl d) e =
        let z : refused d.0 ≡ kept r = sym (run-done o turns (refused d.0) tt) ∙ (rw d.1 at e) in
        absurd (let z : ◌≡◌ {A = ℕ} 0 1 = cc in omega arith)
    go (inr d) e = roster_of_lem n o turns qs d.0 r i d.2 (rw d.1 at e)
