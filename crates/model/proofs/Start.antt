-- How the walk starts, and that it ends: the turns are enough, and the walk by moving to the top gives the same.
use Prim.Native.Nat.{ℕ, ◌+◌, ◌≤◌, ◌<◌}
use mathlib.Core.Bool.{false}
use mathlib.Core.List.{List, [], ◌∷◌, ◌++◌, reverse, reverse_aux, append_assoc, append-nil}
use mathlib.Core.Logic.{◌⊎◌, inl, inr, ⊎_elim}
use mathlib.Core.Path.{◌≡◌, refl, sym, ap, ◌∙◌, subst}
use native.Mathlib.Omega.{arith}
use lib.ListN.{length, length-append, length-reverse}
use lib.Dec.{leb, eqb}
use borrow.Author.Tests.{eqb-true, eqb-false, leb-false}
use Rattle.model.specs.Res.{Res}
use Rattle.model.specs.Bytes.{member}
pub use Rattle.model.specs.Bytes.{Once}
pub use Rattle.model.specs.Walk.{firsts, walk_t}
use Rattle.model.specs.Walk.{going, refused, numbered, full, run, seed, begin, most}
use Rattle.model.proofs.Members.{In, by, clash, in_here, in_there, in_cons, in_one, in_eq, in_left, in_append, in_numbered_self, numbered-cases, numbered_in, numbered-new}
use Rattle.model.proofs.Thin.{run_t, Done, clean, without, Inside, Inv, Same, Alike, both_end, sim, bar_none, weight-none, widths}

pub out_of : (x : ℕ) (l : List ℕ) → (In x l → ⊥) → member x l ≡ false
out_of x l h = by (member x l) (λ e. absurd (h e)) (λ e. e)

pub not_in : (x : ℕ) (l : List ℕ) → member x l ≡ false → In x l → ⊥
not_in x l h k = clash k h

pub once_snoc : (r : List ℕ) (g : ℕ) → Once r → member g r ≡ false → Once (r ++ (g ∷ []))
once_snoc [] g h k = (refl, tt)
once_snoc (x ∷ r) g h k = (out_of x (r ++ (g ∷ [])) first, once_snoc r g h.1 (out_of g r (λ m. clash (in_there g x r m) k)))
  where
    first : In x (r ++ (g ∷ [])) → ⊥
    first m = ⊎_elim (not_in x r h.0) (λ e. clash (in_eq (x ∷ r) (sym (in_one x g e)) (in_here x r)) k) (in_append x r (g ∷ []) m)

pub once-numbered : (r : List ℕ) (g : ℕ) → Once r → Once (numbered r g)
once-numbered r g h = by (member g r) (λ k. rw (numbered_in r g k) h) (λ k. rw (numbered-new r g k) (once_snoc r g h k))

pub in_reverse_aux : (x : ℕ) (l acc : List ℕ) → In x (reverse_aux l acc) → In x l ⊎ In x acc
in_reverse_aux x [] acc h = inr h
in_reverse_aux x (y ∷ l) acc h =
    ⊎_elim (λ k. inl (in_there x y l k)) (λ k. ⊎_elim (λ e. inl (in_eq (y ∷ l) e (in_here y l))) inr (in_cons x y acc k))
    (in_reverse_aux x l (y ∷ acc) h)

pub reverse_aux_acc : (x : ℕ) (l acc : List ℕ) → In x acc → In x (reverse_aux l acc)
reverse_aux_acc x [] acc h = h
reverse_aux_acc x (y ∷ l) acc h = reverse_aux_acc x l (y ∷ acc) (in_there x y acc h)

pub reverse_aux_in : (x : ℕ) (l acc : List ℕ) → In x l → In x (reverse_aux l acc)
reverse_aux_in x [] acc h = clash h refl
reverse_aux_in x (y ∷ l) acc h =
    ⊎_elim (λ e. reverse_aux_acc x l (y ∷ acc) (in_eq (y ∷ acc) e (in_here y acc))) (reverse_aux_in x l (y ∷ acc)) (in_cons x y l h)

once_reverse_aux : (l acc : List ℕ) → Once l → Once acc → ((x : ℕ) → In x l → member x acc ≡ false) → Once (reverse_aux l acc)
once_reverse_aux [] acc h k d = k
once_reverse_aux (y ∷ l) acc h k d =
    once_reverse_aux l (y ∷ acc) h.1 (d y (in_here y l), k)
    (λ x m. out_of x (y ∷ acc) (λ q. ⊎_elim (λ e. clash (in_eq l (sym e) m) h.0) (not_in x acc (d x (in_there x y l m))) (in_cons x y acc q)))

pub once-reverse : (l : List ℕ) → Once l → Once (reverse l)
once-reverse l h = once_reverse_aux l [] h tt (λ x m. refl)

pub without-out : (c : ℕ) (l : List ℕ) → member c l ≡ false → without c l ≡ l
without-out c [] h = refl
without-out c (x ∷ l) h =
    by (eqb x c)
    (λ e. clash (in_eq (x ∷ l) (sym (eqb-true x c e)) (in_here x l)) h)
    (λ e. rw e (ap {B = List ℕ} (λ t. x ∷ t) (without-out c l (out_of c l (λ m. clash (in_there c x l m) h)))))

pub clean-once : (st : List ℕ) → Once st → clean [] st ≡ st
clean-once [] h = refl
clean-once (g ∷ st) h = ap {B = List ℕ} (λ t. g ∷ t) (ap (without g) (clean-once st h.1) ∙ without-out g st h.0)

pub room : (r : List ℕ) (g : ℕ) → full r g ≡ false → length r ≤ most → length (numbered r g) ≤ most
unfolding full
room r g e h =
    by (member g r)
    (λ k. rw (numbered_in r g k) h)
    (λ k. rw (numbered-new r g k) (omega (arith, length-append r (g ∷ []), leb-false most (length r) (rw k at e))))

-- what the requests make of a roster
pub record Seeded (n : ℕ) (r qs r' : List ℕ) : Type 0 where
  pub once : Once r'
  pub within : (x : ℕ) → In x r' → x < n
  pub keeps : (t : List ℕ) × (r' ≡ r ++ t)
  pub asked : (x : ℕ) → In x qs → In x r'
  pub only : (x : ℕ) → In x r' → In x r ⊎ In x qs
  pub size : length r' ≤ length r + length qs
  pub in_order : r' ≡ firsts r qs
  pub fits : length r ≤ most → length r' ≤ most

length-numbered : (r : List ℕ) (g : ℕ) → length (numbered r g) ≤ length r + 1
length-numbered r g =
    by (member g r) (λ k. rw (numbered_in r g k) (omega arith)) (λ k. rw (numbered-new r g k) (omega (arith, length-append r (g ∷ []))))

pub keeps-numbered : (r : List ℕ) (g : ℕ) → (t : List ℕ) × (numbered r g ≡ r ++ t)
keeps-numbered r g = by (member g r) (λ k. ([], numbered_in r g k ∙ sym (append-nil r))) (λ k. (g ∷ [], numbered-new r g k))

abbrev pub Begun : ℕ → List ℕ → List ℕ → Type 0
Begun n r qs = ((k : ℕ) × (seed n r qs ≡ refused k)) ⊎ ((r' : List ℕ) × (seed n r qs ≡ going r' (reverse r')) × Seeded n r qs r')

-- how the walk starts
abbrev pub Started : ℕ → List ℕ → Type 0
Started n qs = ((k : ℕ) × (begin n qs ≡ refused k)) ⊎ ((r : List ℕ) × (begin n qs ≡ going r (reverse r)) × Seeded n (0 ∷ []) qs r)

pub seed-cases : (n : ℕ) (r qs : List ℕ) → Once r → ((x : ℕ) → In x r → x < n) → Begun n r qs
seed-cases n r [] h w =
    inr (
      r,
      refl,
      record {
        once = h;
        within = w;
        keeps = ([], sym (append-nil r));
        asked = λ x m. clash m refl;
        only = λ x m. inl m;
        size = omega arith;
        in_order = refl;
        fits = λ f. f;
      },
    )
seed-cases n r (q ∷ qs) h w =
    by (leb n q)
    (λ e. inl (3, rw e))
    (λ e. by (full r q)
    (λ k. inl (7, rw (e, k)))
    (λ k. ⊎_elim (λ d. inl (d.0, rw (e, k) d.1)) (λ d. inr (d.0, rw (e, k) d.1, more d.0 k d.2))
    (seed-cases n (numbered r q) qs (once-numbered r q h) (low (leb-false n q e)))))
  where
    low : q < n → (x : ℕ) → In x (numbered r q) → x < n
    low b x m = ⊎_elim (w x) (λ e. omega (arith, e)) (numbered-cases r q x m)

    more : (r' : List ℕ) → full r q ≡ false → Seeded n (numbered r q) qs r' → Seeded n r (q ∷ qs) r'
    more r' k v =
        record {
          once = v.once;
          within = v.within;
          keeps = (
            (keeps-numbered r q).0 ++ v.keeps.0,
            v.keeps.1 ∙ ap (λ (t : List ℕ). t ++ v.keeps.0) (keeps-numbered r q).1 ∙ append_assoc r (keeps-numbered r q).0 v.keeps.0,
          );
          asked = λ x m. ⊎_elim (λ e. in_eq r' e here) (v.asked x) (in_cons x q qs m);
          only = λ x m.
              ⊎_elim (λ e. ⊎_elim inl (λ d. inr (in_eq (q ∷ qs) d (in_here q qs))) (numbered-cases r q x e))
              (λ e. inr (in_there x q qs e)) (v.only x m);
          size = omega (arith, v.size, length-numbered r q);
          in_order = v.in_order;
          fits = λ f. v.fits (room r q k f);
        }
      where
        here : In q r'
        here = subst (In q) (sym v.keeps.1) (in_left q (numbered r q) v.keeps.0 (in_numbered_self r q))

pub begin-cases : (n : ℕ) (qs : List ℕ) → Started n qs
unfolding begin
begin-cases n qs =
    by (eqb n 0)
    (λ e. inl (3, rw e))
    (λ e. rw e (seed-cases n (0 ∷ []) qs (refl, tt) (λ x m. omega (arith, in_one x 0 m, eqb-false n 0 e))))

-- THEOREM. Turns for every request and every component are enough, and moving to the top numbers alike
pub thin : (turns n : ℕ) (o : ℕ → Res (List ℕ)) (qs : List ℕ) → Inside o n → 2 + length qs + widths n o ≤ turns → Alike o turns (begin n qs)
thin turns n o qs i h = go (begin-cases n qs)
  where
    go : Started n qs → Alike o turns (begin n qs)
    go (inl d) = rw d.1 (both_end o turns (refused d.0) tt)
    go (inr d) = rw d.1 (subst P (clean-once (reverse d.0) (once-reverse d.0 d.2.once)) same)
      where
        st : List ℕ
        st = reverse d.0

        P : List ℕ → Type 0
        P t = (run o turns (going d.0 st) ≡ run_t o turns (going d.0 t)) × Done (run o turns (going d.0 st))

        inv : Inv o n d.0 [] st
        inv =
            record {
              within = λ x m. ⊎_elim (d.2.within x) (λ e. clash e refl) (in_reverse_aux x d.0 [] m);
              numb = λ x m. clash m refl;
              good = λ x m. clash m refl;
              bar = bar_none o d.0 [] st;
            }

        same : Same o turns d.0 [] st
        same = sim o turns n d.0 [] st i inv (omega (arith, length-reverse d.0, d.2.size, weight-none n o))
