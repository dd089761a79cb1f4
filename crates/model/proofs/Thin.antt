-- A glyph read before pushes nothing more, since its components are numbered or stand above it. So each component is pushed once, which bounds the
-- turns; and a component pushed again may move to the top, for only its topmost entry does anything.
use Prim.Native.Nat.{ℕ, zero, suc, ◌+◌, ◌≤◌, ◌<◌}
use mathlib.Core.Bool.{false}
use mathlib.Core.List.{List, [], ◌∷◌}
use mathlib.Core.Logic.{◌⊎◌, inl, inr, ⊎_elim}
use mathlib.Core.Path.{◌≡◌, refl, sym, ap, ◌∙◌, subst}
use native.Mathlib.Omega.{arith}
use native.Mathlib.Nat.{zero-add, suc-add, add_comm}
use native.Mathlib.Numerals.{add-one}
use lib.ListN.{length}
use lib.Dec.{eqb}
use borrow.Author.Tests.{eqb-true, eqb-false, ne_eqb}
use Rattle.model.specs.Res.{Res, refuse, ok, pick}
use Rattle.model.specs.Bytes.{member}
pub use Rattle.model.specs.Walk.{without, to_top, opened_t, step_t, run_t, Done}
use Rattle.model.specs.Walk.{Walk, going, kept, refused, numbered, full, push, step, run}
use Rattle.model.proofs.Members.{In, by, clash, in_here, in_there, in_cons, in_one, in_eq, in_numbered, in_numbered_self, numbered_in, full_in, push-none, in_push, length_push, eqb_self}

-- what is still to be done of a stack, when the ids rd have been read
abbrev pub clean : List ℕ → List ℕ → List ℕ
clean rd [] = []
clean rd (g ∷ st) = pick (member g rd) (clean rd st) (g ∷ without g (clean rd st))

pub without_idem : (c : ℕ) (l : List ℕ) → without c (without c l) ≡ without c l
without_idem c [] = refl
without_idem c (x ∷ l) =
    by (eqb x c) (λ e. simp e (without_idem c l)) (λ e. simp e (ap {B = List ℕ} (λ t. x ∷ t) (without_idem c l)))

pub without_comm : (c d : ℕ) (l : List ℕ) → without c (without d l) ≡ without d (without c l)
without_comm c d [] = refl
without_comm c d (x ∷ l) =
    by (eqb x c)
    (λ e. by (eqb x d) (λ k. simp (e, k) (without_comm c d l)) (λ k. simp (e, k) (without_comm c d l)))
    (λ e. by (eqb x d) (λ k. simp (e, k) (without_comm c d l)) (λ k. simp (e, k) (ap {B = List ℕ} (λ t. x ∷ t) (without_comm c d l))))

clean_cons : (c : ℕ) (rd st : List ℕ) → clean (c ∷ rd) st ≡ without c (clean rd st)
clean_cons c rd [] = refl
clean_cons c rd (g ∷ st) =
    by (eqb g c)
    (λ e. by (member g rd)
    (λ k. simp (e, k) (clean_cons c rd st))
    (λ k. simp (e, k)
    (clean_cons c rd st ∙ sym (without_idem c (clean rd st)) ∙ ap (λ (t : ℕ). without c (without t (clean rd st))) (sym (eqb-true g c e)))))
    (λ e. by (member g rd)
    (λ k. simp (e, k) (clean_cons c rd st))
    (λ k. simp (e, k) (ap {B = List ℕ} (λ t. g ∷ t) (ap (without g) (clean_cons c rd st) ∙ without_comm g c (clean rd st)))))

pub clean-push : (r rd cs st : List ℕ) → ((x : ℕ) → In x rd → In x r) → clean rd (push r cs st) ≡ to_top r cs (clean rd st)
clean-push r rd [] st h = refl
clean-push r rd (c ∷ cs) st h =
    by (member c r)
    (λ k. rw k (clean-push r rd cs st h))
    (λ k. rw k (clean-push r rd cs (c ∷ st) h ∙ ap (to_top r cs) (by (member c rd) (λ e. clash (h c e) k) (λ e. rw e))))

-- the components an outline names; how many an outline has, and all outlines below n have
abbrev pub ids : Res (List ℕ) → List ℕ
ids (refuse k) = []
ids (ok cs) = cs

abbrev pub width : Res (List ℕ) → ℕ
width w = length (ids w)

abbrev pub widths : ℕ → (ℕ → Res (List ℕ)) → ℕ
widths zero o = 0
widths (suc n) o = widths n o + width (o n)

-- every entry that was read before has its components numbered or above it: it will push nothing
abbrev pub Bar : (ℕ → Res (List ℕ)) → List ℕ → List ℕ → List ℕ → List ℕ → Type 0
Bar o r rd seen [] = Unit {0}
Bar o r rd seen (g ∷ st) = (In g rd → (c : ℕ) → In c (ids (o g)) → In c r ⊎ In c seen) × Bar o r rd (g ∷ seen) st

bar_move : (o : ℕ → Res (List ℕ)) (r rd r' rd' seen seen' st : List ℕ)
    → ((x : ℕ) → In x r → In x r')
    → ((x : ℕ) → In x seen → In x r' ⊎ In x seen')
    → ((x : ℕ) → In x rd' → In x rd ⊎ ((c : ℕ) → In c (ids (o x)) → In c r' ⊎ In c seen'))
    → Bar o r rd seen st → Bar o r' rd' seen' st
bar_move o r rd r' rd' seen seen' [] hr hs hd b = tt
bar_move o r rd r' rd' seen seen' (g ∷ st) hr hs hd b =
    (λ m c k. old c k (hd g m), bar_move o r rd r' rd' (g ∷ seen) (g ∷ seen') st hr more wide b.1)
  where
    lift : (c : ℕ) → In c r ⊎ In c seen → In c r' ⊎ In c seen'
    lift c (inl k) = inl (hr c k)
    lift c (inr k) = hs c k

    old : (c : ℕ) → In c (ids (o g)) → In g rd ⊎ ((c : ℕ) → In c (ids (o g)) → In c r' ⊎ In c seen') → In c r' ⊎ In c seen'
    old c k (inl m) = lift c (b.0 m c k)
    old c k (inr f) = f c k

    above : (x : ℕ) → In x r' ⊎ In x seen' → In x r' ⊎ In x (g ∷ seen')
    above x (inl k) = inl k
    above x (inr k) = inr (in_there x g seen' k)

    more : (x : ℕ) → In x (g ∷ seen) → In x r' ⊎ In x (g ∷ seen')
    more x k = ⊎_elim (λ e. inr (let P : ℕ → Type 0 = λ y. In y (g ∷ seen') in subst P (sym e) (in_here g seen'))) (λ m. above x (hs x m)) (in_cons x g seen k)

    wide : (x : ℕ) → In x rd' → In x rd ⊎ ((c : ℕ) → In c (ids (o x)) → In c r' ⊎ In c (g ∷ seen'))
    wide x m = ⊎_elim inl (λ f. inr (λ c k. above c (f c k))) (hd x m)

bar_push : (o : ℕ → Res (List ℕ)) (r rd cs st : List ℕ) → ((x : ℕ) → In x rd → In x r) → Bar o r rd cs st → Bar o r rd [] (push r cs st)
bar_push o r rd [] st h b = b
bar_push o r rd (c ∷ cs) st h b =
    by (member c r)
    (λ k. rw k (bar_push o r rd cs st h
    (bar_move o r rd r rd (c ∷ cs) cs st (λ x m. m) (λ x m. ⊎_elim (λ e. inl (in_eq r e k)) inr (in_cons x c cs m)) (λ x m. inl m) b)))
    (λ k. rw k (bar_push o r rd cs (c ∷ st) h (λ m. clash (h c m) k, b)))

-- the components not yet read
abbrev pub weight : ℕ → (ℕ → Res (List ℕ)) → List ℕ → ℕ
weight zero o rd = 0
weight (suc n) o rd = weight n o rd + pick (member n rd) 0 (width (o n))

weight-out : (n : ℕ) (o : ℕ → Res (List ℕ)) (g : ℕ) (rd : List ℕ) → n ≤ g → weight n o (g ∷ rd) ≡ weight n o rd
weight-out zero o g rd h = refl
weight-out (suc n) o g rd h = rw (weight-out n o g rd (omega arith), ne_eqb n g (omega arith))

weight_cons : (n : ℕ) (o : ℕ → Res (List ℕ)) (g : ℕ) (rd : List ℕ) → g < n → member g rd ≡ false → weight n o (g ∷ rd) + width (o g) ≡ weight n o rd
weight_cons zero o g rd h k = omega arith
weight_cons (suc n) o g rd h k =
    by (eqb n g)
    (λ e. rw (eqb-true n g e, weight-out g o g rd (omega arith), eqb_self g, k) (omega arith))
    (λ e. let ih = weight_cons n o g rd (omega (arith, eqb-false n g e)) k in
    rw e (by (member n rd) (λ m. rw m (omega (arith, ih))) (λ m. rw m (omega (arith, ih)))))

pub weight-none : (n : ℕ) (o : ℕ → Res (List ℕ)) → weight n o [] ≡ widths n o
weight-none zero o = refl
weight-none (suc n) o = ap (λ (t : ℕ). t + width (o n)) (weight-none n o)

module _ (o : ℕ → Res (List ℕ)) where
  pub run-done : (f : ℕ) (w : Walk) → Done w → run o f w ≡ w
  run-done zero w d = refl
  run-done (suc f) (going r st) d = absurd d
  run-done (suc f) (kept r) d = refl
  run-done (suc f) (refused k) d = refl

  pub run_t_done : (f : ℕ) (w : Walk) → Done w → run_t o f w ≡ w
  run_t_done zero w d = refl
  run_t_done (suc f) (going r st) d = absurd d
  run_t_done (suc f) (kept r) d = run_t_done f (kept r) tt
  run_t_done (suc f) (refused k) d = run_t_done f (refused k) tt

  pub run-add : (f k : ℕ) (w : Walk) → run o (f + k) w ≡ run o k (run o f w)
  run-add zero k w = rw (zero-add k)
  run-add (suc f) k (going r st) = rw (suc-add f k) (run-add f k (step o r st))
  run-add (suc f) k (kept r) = rw (suc-add f k) (sym (run-done k (kept r) tt))
  run-add (suc f) k (refused j) = rw (suc-add f k) (sym (run-done k (refused j) tt))

  -- two runs that end, end alike
  pub one_end : (f k : ℕ) (w : Walk) → Done (run o f w) → Done (run o k w) → run o f w ≡ run o k w
  one_end f k w a b =
      sym (run-add f k w ∙ run-done k (run o f w) a) ∙ ap (λ (t : ℕ). run o t w) (add_comm f k) ∙ run-add k f w ∙ run-done f (run o k w) b

  pub run_t_add : (f k : ℕ) (w : Walk) → run_t o (f + k) w ≡ run_t o k (run_t o f w)
  run_t_add zero k w = rw (zero-add k)
  run_t_add (suc f) k w = rw (suc-add f k) (run_t_add f k (step_t o w))

  -- one more turn changes nothing once the walk has ended
  pub run_t_more : (f : ℕ) (w : Walk) → Done (run_t o f w) → run_t o (suc f) w ≡ run_t o f w
  run_t_more f w d = ap (λ (t : ℕ). run_t o t w) (sym (add-one f)) ∙ run_t_add f 1 w ∙ run_t_done 1 (run_t o f w) d

  pub record Inv (n : ℕ) (r rd st : List ℕ) : Type 0 where
    pub within : (x : ℕ) → In x st → x < n
    pub numb : (x : ℕ) → In x rd → In x r
    pub good : (x : ℕ) → In x rd → o x ≡ ok (ids (o x))
    pub bar : Bar o r rd [] st

  -- the outlines of a font of n glyphs name glyphs below n only
  abbrev pub Inside : ℕ → Type 0
  Inside n = (g : ℕ) → g < n → (c : ℕ) → In c (ids (o g)) → c < n

  -- both walks end, and alike
  abbrev pub Same : ℕ → List ℕ → List ℕ → List ℕ → Type 0
  Same f r rd st = (run o f (going r st) ≡ run_t o f (going r (clean rd st))) × Done (run o f (going r st))

  -- an entry that was read before is taken, and nothing comes of it
  old_inv : (n : ℕ) (r rd : List ℕ) (g : ℕ) (st : List ℕ) → Inv n r rd (g ∷ st) → In g rd → Inv n r rd st
  old_inv n r rd g st v m =
      record {
        within = λ x k. v.within x (in_there x g st k);
        numb = v.numb;
        good = v.good;
        bar = bar_move o r rd r rd (g ∷ []) [] st (λ x k. k) (λ x k. inl (in_eq r (in_one x g k) (v.numb g m))) (λ x k. inl k) v.bar.1;
      }

  old : (f n : ℕ) (r rd : List ℕ) (g : ℕ) (st : List ℕ) → Inv n r rd (g ∷ st) → In g rd → Same f r rd st → Same (suc f) r rd (g ∷ st)
  old f n r rd g st v m ih =
      rw (full_in r g (v.numb g m), numbered_in r g (v.numb g m), v.good g m, push-none r (ids (o g)) st none, m)
      (ih.0 ∙ sym (run_t_more f (going r (clean rd st)) (subst Done ih.0 ih.1)), ih.1)
    where
      none : (c : ℕ) → In c (ids (o g)) → In c r
      none c k = ⊎_elim (λ e. e) (λ e. clash e refl) (v.bar.0 m c k)

  -- what was read is numbered, also once g is read
  held : (r rd : List ℕ) (g : ℕ) → ((x : ℕ) → In x rd → In x r) → (x : ℕ) → In x (g ∷ rd) → In x (numbered r g)
  held r rd g h x k = ⊎_elim (λ e. in_eq (numbered r g) e (in_numbered_self r g)) (λ e. in_numbered r g x (h x e)) (in_cons x g rd k)

  new_inv : (n : ℕ) (r rd : List ℕ) (g : ℕ) (st cs : List ℕ) → Inside n → Inv n r rd (g ∷ st) → o g ≡ ok cs
      → Inv n (numbered r g) (g ∷ rd) (push (numbered r g) cs st)
  new_inv n r rd g st cs i v q =
      record {
        within = λ x k.
            ⊎_elim (λ e. i g (v.within g (in_here g st)) x (rw q e)) (λ e. v.within x (in_there x g st e)) (in_push (numbered r g) cs st x k);
        numb = held r rd g v.numb;
        good = λ x k. ⊎_elim (mine x) (v.good x) (in_cons x g rd k);
        bar =
            bar_push o (numbered r g) (g ∷ rd) cs st (held r rd g v.numb)
            (bar_move o r rd (numbered r g) (g ∷ rd) (g ∷ []) cs st (in_numbered r g)
            (λ x k. inl (in_eq (numbered r g) (in_one x g k) (in_numbered_self r g)))
            (λ x k. ⊎_elim (λ e. inr (λ c m. inr (now c (rw e at m)))) inl (in_cons x g rd k))
            v.bar.1);
      }
    where
      mine : (x : ℕ) → x ≡ g → o x ≡ ok (ids (o x))
      mine x e = rw e (rw q refl)

      now : (c : ℕ) → In c (ids (o g)) → In c cs
      now c m = rw q at m

  -- both machines end from here, and alike
  abbrev pub Alike : ℕ → Walk → Type 0
  Alike f w = (run o f w ≡ run_t o f w) × Done (run o f w)

  pub both_end : (f : ℕ) (w : Walk) → Done w → Alike f w
  both_end f w d = (run-done f w d ∙ sym (run_t_done f w d), subst Done (sym (run-done f w d)) d)

  -- an entry that was not read before: both machines read it
  new : (f : ℕ) (r rd : List ℕ) (g : ℕ) (st : List ℕ) → member g rd ≡ false → full r g ≡ false
      → ((cs : List ℕ) → o g ≡ ok cs → Same f (numbered r g) (g ∷ rd) (push (numbered r g) cs st))
      → ((x : ℕ) → In x rd → In x r) → Same (suc f) r rd (g ∷ st)
  new f r rd g st k e ih h = go (o g) refl
    where
      cleaned : (cs : List ℕ) → clean (g ∷ rd) (push (numbered r g) cs st) ≡ to_top (numbered r g) cs (without g (clean rd st))
      cleaned cs = clean-push (numbered r g) (g ∷ rd) cs st (held r rd g h) ∙ ap (to_top (numbered r g) cs) (clean_cons g rd st)

      go : (w : Res (List ℕ)) → o g ≡ w → Same (suc f) r rd (g ∷ st)
      go (refuse j) q = rw (e, k, e, q) (both_end f (refused j) tt)
      go (ok cs) q =
          rw (e, k, e, q) ((ih cs q).0 ∙ ap (λ (t : List ℕ). run_t o f (going (numbered r g) t)) (cleaned cs), (ih cs q).1)

  pub sim : (f n : ℕ) (r rd st : List ℕ) → Inside n → Inv n r rd st → length st + weight n o rd < f → Same f r rd st
  sim zero n r rd st i v h = absurd (omega arith)
  sim (suc f) n r rd [] i v h = both_end f (kept r) tt
  sim (suc f) n r rd (g ∷ st) i v h =
      by (member g rd)
      (λ m. old f n r rd g st v m (sim f n r rd st i (old_inv n r rd g st v m) (omega arith)))
      (λ m. by (full r g)
      (λ e. rw (e, m, e) (both_end f (refused 7) tt))
      (λ e. new f r rd g st m e
      (λ cs q. sim f n (numbered r g) (g ∷ rd) (push (numbered r g) cs st) i (new_inv n r rd g st cs i v q)
      (omega (arith, length_push (numbered r g) cs st, weight_cons n o g rd (v.within g (in_here g st)) m, ap width q)))
      v.numb))

-- from the start: nothing is read yet
pub bar_none : (o : ℕ → Res (List ℕ)) (r seen st : List ℕ) → Bar o r [] seen st
bar_none o r seen [] = tt
bar_none o r seen (g ∷ st) = (λ m. clash m refl, bar_none o r (g ∷ seen) st)
