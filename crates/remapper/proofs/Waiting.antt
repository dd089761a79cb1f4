-- What waits. Unlinking takes an id out of the ring, inserting puts one on its top; between the two the id's own links don't matter, as those
-- of a numbered id don't: so the middle is a state too, with the id among those of the roster.
use Rattle.std.proofs.Common.{ℕ, ◌+◌, ◌*◌, ◌%◌, ◌<◌, false, List, [], ◌∷◌, ◌++◌, ◌⊎◌, inl, inr, ⊎_elim, ◌≡◌, refl, sym, ap, ◌∙◌, subst, arith, length, get_or, drop, get_or-drop, eqb, eqb-true, ne_eqb}
use borrow.Author.Tests.{eqb-false}
use Rattle.model.specs.Bytes.{member}
use Rattle.model.proofs.Members.{In, by, clash, in_here, in_there, in_cons, in_one, in_eq, in_left, in_right, in_append}
use Rattle.model.proofs.Thin.{without}
use Rattle.model.proofs.Start.{Once, out_of, without-out}
use Rattle.remapper.specs.Scratch.{num, link, relinked, prev, next, unlinked, inserted, moved, offered, Linked}
use Rattle.remapper.specs.State.{Links, Waits}
use Rattle.remapper.proofs.Ring.{frame, between, neighbours, take_out, put_in}
use Rattle.remapper.proofs.Rows.{Keeps, keeps_self, keeps-link, keeps_trans, link-low, link-below, Unlinks, unlinks, keeps-inserted, Inserts, inserts}

-- lists without an id
pub in_without : (c x : ℕ) (l : List ℕ) → In x (without c l) → In x l
in_without c x [] m = m
in_without c x (y ∷ l) m =
    by (eqb y c)
    (λ e. in_there x y l (in_without c x l (rw e at m)))
    (λ e. ⊎_elim (λ q. in_eq (y ∷ l) q (in_here y l)) (λ q. in_there x y l (in_without c x l q)) (in_cons x y (without c l) (rw e at m)))

pub without_in : (c x : ℕ) (l : List ℕ) → (x ≡ c → ⊥) → In x l → In x (without c l)
without_in c x [] h m = m
without_in c x (y ∷ l) h m =
    by (eqb y c)
    (λ e. rw e (⊎_elim (λ q. absurd (h (q ∙ eqb-true y c e))) (without_in c x l h) (in_cons x y l m)))
    (λ e. rw e (⊎_elim (λ q. in_eq (y ∷ without c l) q (in_here y (without c l))) (λ q. in_there x y (without c l) (without_in c x l h q)) (in_cons x y l m)))

pub without_gone : (c : ℕ) (l : List ℕ) → member c (without c l) ≡ false
without_gone c [] = refl
without_gone c (y ∷ l) = by (eqb y c) (λ e. rw e (without_gone c l)) (λ e. rw (e, ne_eqb c y (λ q. eqb-false y c e (sym q))) (without_gone c l))

pub once-without : (c : ℕ) (l : List ℕ) → Once l → Once (without c l)
once-without c [] o = tt
once-without c (y ∷ l) o = by (eqb y c) (λ e. rw e (once-without c l o.1)) (λ e. rw e (out_of y (without c l) (λ m. clash (in_without c y l m) o.0), once-without c l o.1))

-- lists with one more
pub out_snoc : (x c : ℕ) (r : List ℕ) → member x r ≡ false → (x ≡ c → ⊥) → member x (r ++ (c ∷ [])) ≡ false
out_snoc x c r a b = out_of x (r ++ (c ∷ [])) (λ m. ⊎_elim (λ q. clash q a) (λ q. b (in_one x c q)) (in_append x r (c ∷ []) m))

pub snoc_out : (x c : ℕ) (r : List ℕ) → member x (r ++ (c ∷ [])) ≡ false → (member x r ≡ false) × (x ≡ c → ⊥)
snoc_out x c r h = (out_of x r (λ m. clash (in_left x r (c ∷ []) m) h), λ e. clash (in_right x r (c ∷ []) (in_eq (c ∷ []) e (in_here c []))) h)

module _ (n : ℕ) where
  -- links stay below n
  linked-back : (s : List ℕ) (g v : ℕ) → g < n → v < n → Linked n s → Linked n (relinked (2 * n) s g v)
  linked-back s g v a b h =
      record {
        size = omega (arith, (keeps-link n s (2 * n) g v (omega arith) (omega arith)).size, h.size);
        back = λ x m. link-below (2 * n) s g v n (2 * n) x (omega arith) (omega (arith, h.size)) a b (h.back x m);
        on = λ x m. link-below (2 * n) s g v n (3 * n) x (omega arith) (omega (arith, h.size)) a b (h.on x m);
      }

  linked_on : (s : List ℕ) (g v : ℕ) → g < n → v < n → Linked n s → Linked n (relinked (3 * n) s g v)
  linked_on s g v a b h =
      record {
        size = omega (arith, (keeps-link n s (3 * n) g v (omega arith) (omega arith)).size, h.size);
        back = λ x m. link-below (3 * n) s g v n (2 * n) x (omega arith) (omega (arith, h.size)) a b (h.back x m);
        on = λ x m. link-below (3 * n) s g v n (3 * n) x (omega arith) (omega (arith, h.size)) a b (h.on x m);
      }

  pub linked-unlinked : (s : List ℕ) (c : ℕ) → c < n → Linked n s → Linked n (unlinked n s c)
  unfolding unlinked
  linked-unlinked s c k h =
      let u = h.back c k in
      let w = h.on c k in
      linked-back (relinked (3 * n) s (prev n s c) (next n s c)) (next n s c) (prev n s c) w u (linked_on s (prev n s c) (next n s c) u w h)

  pub linked-inserted : (s : List ℕ) (c : ℕ) → c < n → Linked n s → Linked n (inserted n s c)
  unfolding inserted
  linked-inserted s c k h =
      let z : 0 < n = omega arith in
      let t = h.on 0 z in
      linked_on _ 0 c z k (linked-back _ (next n s 0) c t k (linked-back _ c 0 k z (linked_on s c (next n s 0) k t h)))

  pub keeps-unlinked : (s : List ℕ) (c : ℕ) → c < n → Linked n s → Keeps n s (unlinked n s c)
  keeps-unlinked s c k h = (unlinks n s c h.size (h.back c k) (h.on c k)).keeps

  pub linked-moved : (s : List ℕ) (c : ℕ) → c < n → Linked n s → Linked n (moved n s c)
  unfolding moved
  linked-moved s c k h = linked-inserted (unlinked n s c) c k (linked-unlinked s c k h)

  pub keeps-moved : (s : List ℕ) (c : ℕ) → c < n → Linked n s → Keeps n s (moved n s c)
  unfolding moved
  keeps-moved s c k h =
      let m = linked-unlinked s c k h in
      keeps_trans n s (unlinked n s c) (inserted n (unlinked n s c) c) (keeps-unlinked s c k h) (keeps-inserted n (unlinked n s c) c m.size k (m.on 0 (omega arith)))

  -- an offer moves the component or does nothing
  offered-either : (P : List ℕ → Type 0) (s : List ℕ) (c : ℕ) → P (moved n s c) → P s → P (offered n s c)
  unfolding offered
  offered-either P s c p q = by (eqb (num n s c) 0) (λ e. rw e p) (λ e. rw e q)

  pub linked-offered : (s : List ℕ) (c : ℕ) → c < n → Linked n s → Linked n (offered n s c)
  linked-offered s c k h = offered-either (Linked n) s c (linked-moved s c k h) h

  pub keeps-offered : (s : List ℕ) (c : ℕ) → c < n → Linked n s → Keeps n s (offered n s c)
  keeps-offered s c k h = offered-either (Keeps n s) s c (keeps-moved s c k h) (keeps_self n s)

-- 0 or a waiting one: what a waiting one's neighbours are, and the top
module _ (n : ℕ) (s r l : List ℕ) (v : Waits n s r l) where
  abbrev pub Seat : ℕ → Type 0
  Seat y = (y ≡ 0) ⊎ In y l

  pub zero-out : member 0 l ≡ false
  zero-out = out_of 0 l (λ m. clash v.zeroth (v.apart 0 m))

  pub seat_top : Seat (next n s 0)
  seat_top = go l v.ring
    where
      go : (l : List ℕ) → Links (prev n s) (next n s) 0 l 0 → (next n s 0 ≡ 0) ⊎ In (next n s 0) l
      go [] h = inl h.0
      go (g ∷ l) h = inr (in_eq (g ∷ l) h.0 (in_here g l))

  -- one that neither waits nor is numbered is no seat
  pub not_seat : (x y : ℕ) → member x r ≡ false → member x l ≡ false → Seat y → x ≡ y → ⊥
  not_seat x y a b (inl t) e = clash v.zeroth (subst (λ (z : ℕ). member z r ≡ false) (e ∙ t) a)
  not_seat x y a b (inr t) e = clash (in_eq l e t) b

module _ (n : ℕ) (s r l : List ℕ) (v : Waits n s r l) (c : ℕ) (k : c < n) (new : member c r ≡ false) where
  un : Unlinks n s c (unlinked n s c)
  un = unlinks n s c v.linked.size (v.linked.back c k) (v.linked.on c k)

  -- c's links go to seats, or to c itself
  near : ((prev n s c ≡ c) ⊎ Seat n s r l v (prev n s c)) × ((next n s c ≡ c) ⊎ Seat n s r l v (next n s c))
  near =
      by (member c l)
      (λ m. let t = neighbours (prev n s) (next n s) 0 l 0 c v.ring m in (inr t.0, inr t.1))
      (λ m. let t = v.lone c k new m in (inl t.0, inl t.1))

  -- some link is c
  pub named : c < 65536
  named =
      by (member c l)
      (λ m. omega (arith, (between (prev n s) (next n s) 0 l 0 c v.ring m).0, link-low (3 * n) s (prev n s c)))
      (λ m. omega (arith, (v.lone c k new m).1, link-low (3 * n) s c))

  ring-unlinked : Links (prev n (unlinked n s c)) (next n (unlinked n s c)) 0 (without c l) 0
  ring-unlinked =
      by (member c l)
      (λ m. take_out n (prev n s) (next n s) (prev n (unlinked n s c)) (next n (unlinked n s c)) 0 l 0 c v.ring v.once (zero-out n s r l v) (zero-out n s r l v) m (omega arith) (omega arith) v.low un.nx un.pv)
      (λ m. subst (λ (t : List ℕ). Links (prev n (unlinked n s c)) (next n (unlinked n s c)) 0 t 0) (sym (without-out c l m)) (same m (v.lone c k new m)))
    where
      same : member c l ≡ false → (prev n s c ≡ c) × (next n s c ≡ c) → Links (prev n (unlinked n s c)) (next n (unlinked n s c)) 0 l 0
      same m q = frame (prev n s) (next n s) (prev n (unlinked n s c)) (next n (unlinked n s c)) 0 l 0 v.ring (λ x t. (keep x t).1) (λ x t. (keep x t).0)
        where
          small : (x : ℕ) → (x ≡ 0) ⊎ In x l → x < n
          small x (inl t) = omega (arith, t, k)
          small x (inr t) = v.low x t

          other : (x : ℕ) → (x ≡ 0) ⊎ In x l → x ≡ c → ⊥
          other x t e = not_seat n s r l v c x new m t (sym e)

          keep : (x : ℕ) → (x ≡ 0) ⊎ In x l → (prev n (unlinked n s c) x ≡ prev n s x) × (next n (unlinked n s c) x ≡ next n s x)
          keep x t = (un.pv.1 x (small x t) (λ e. other x t (e ∙ q.1)), un.nx.1 x (small x t) (λ e. other x t (e ∙ q.0)))

  pub waits-unlinked : Waits n (unlinked n s c) (r ++ (c ∷ [])) (without c l)
  waits-unlinked =
      record {
        linked = linked-unlinked n s c k v.linked;
        ring = ring-unlinked;
        once = once-without c l v.once;
        low = λ x m. v.low x (in_without c x l m);
        apart = λ x m. out_snoc x c r (v.apart x (in_without c x l m)) (λ e. clash (in_eq (without c l) (sym e) m) (without_gone c l));
        lone = lone;
        zeroth = in_left 0 r (c ∷ []) v.zeroth;
      }
    where
      lone : (x : ℕ) → x < n → member x (r ++ (c ∷ [])) ≡ false → member x (without c l) ≡ false → (prev n (unlinked n s c) x ≡ x) × (next n (unlinked n s c) x ≡ x)
      lone x m q z = (un.pv.1 x m (away (next n s c) near.1) ∙ was.0, un.nx.1 x m (away (prev n s c) near.0) ∙ was.1)
        where
          a : (member x r ≡ false) × (x ≡ c → ⊥)
          a = snoc_out x c r q

          out : member x l ≡ false
          out = out_of x l (λ t. clash (without_in c x l a.1 t) z)

          was : (prev n s x ≡ x) × (next n s x ≡ x)
          was = v.lone x m a.0 out

          away : (y : ℕ) → (y ≡ c) ⊎ ((y ≡ 0) ⊎ In y l) → x ≡ y → ⊥
          away y (inl t) e = a.1 (e ∙ t)
          away y (inr t) e = not_seat n s r l v x y a.0 out t e

module _ (n : ℕ) (s r l : List ℕ) (c : ℕ) (v : Waits n s (r ++ (c ∷ [])) l) (k : c < n) (small : c < 65536) (new : member c r ≡ false) (zeroth : In 0 r) where
  ins : Inserts n s c (inserted n s c)
  ins = inserts n s c v.linked.size k (v.linked.on 0 (omega arith)) small

  c∉l : member c l ≡ false
  c∉l = out_of c l (λ m. clash (in_right c r (c ∷ []) (in_here c [])) (v.apart c m))

  c≠0 : c ≡ 0 → ⊥
  c≠0 e = clash zeroth (subst (λ (y : ℕ). member y r ≡ false) e new)

  c≠top : c ≡ next n s 0 → ⊥
  c≠top e = ⊎_elim (λ q. c≠0 (e ∙ q)) (λ q. clash (in_eq l e q) c∉l) (seat_top n s (r ++ (c ∷ [])) l v)

  x≠c : (x : ℕ) → In x l → x ≡ c → ⊥
  x≠c x m e = clash (in_eq l (sym e) m) c∉l

  x≠0 : (x : ℕ) → In x l → x ≡ 0 → ⊥
  x≠0 x m e = clash (in_eq l (sym e) m) (zero-out n s (r ++ (c ∷ [])) l v)

  pub waits-inserted : Waits n (inserted n s c) r (c ∷ l)
  waits-inserted =
      record {
        linked = linked-inserted n s c k v.linked;
        ring =
            put_in (prev n s) (next n s) (prev n (inserted n s c)) (next n (inserted n s c)) 0 l 0 c v.ring v.once z z c∉l c≠0 ins.n0 (ins.nc c≠0) (ins.pc c≠top) ins.pt
            (λ x m. ins.nx x (v.low x m) (x≠0 x m) (x≠c x m))
            (λ x m q. ins.px x (⊎_elim (λ e. omega (arith, e, k)) (v.low x) m) q (⊎_elim (λ e t. c≠0 (sym t ∙ e)) (x≠c x) m));
        once = (c∉l, v.once);
        low = λ x m. ⊎_elim (λ e. omega (arith, e, k)) (v.low x) (in_cons x c l m);
        apart = λ x m. ⊎_elim (λ e. subst (λ (y : ℕ). member y r ≡ false) (sym e) new) (λ e. (snoc_out x c r (v.apart x e)).0) (in_cons x c l m);
        lone = lone;
        zeroth = zeroth;
      }
    where
      z : member 0 l ≡ false
      z = zero-out n s (r ++ (c ∷ [])) l v

      lone : (x : ℕ) → x < n → member x r ≡ false → member x (c ∷ l) ≡ false → (prev n (inserted n s c) x ≡ x) × (next n (inserted n s c) x ≡ x)
      lone x m q t = (ins.px x m (not_seat n s (r ++ (c ∷ [])) l v x (next n s 0) a b (seat_top n s (r ++ (c ∷ [])) l v)) not-c ∙ was.0, ins.nx x m not-0 not-c ∙ was.1)
        where
          not-c : x ≡ c → ⊥
          not-c e = clash (in_eq (c ∷ l) e (in_here c l)) t

          not-0 : x ≡ 0 → ⊥
          not-0 e = clash zeroth (subst (λ (y : ℕ). member y r ≡ false) e q)

          a : member x (r ++ (c ∷ [])) ≡ false
          a = out_snoc x c r q not-c

          b : member x l ≡ false
          b = out_of x l (λ e. clash (in_there x c l e) t)

          was : (prev n s x ≡ x) × (next n s x ≡ x)
          was = v.lone x m a b

-- an unnumbered component moves to the top
pub waits-moved : (n : ℕ) (s r l : List ℕ) (c : ℕ) → Waits n s r l → c < n → member c r ≡ false → Waits n (moved n s c) r (c ∷ without c l)
unfolding moved
waits-moved n s r l c v k new = waits-inserted n (unlinked n s c) r (without c l) c (waits-unlinked n s r l v c k new) k (named n s r l v c k new) new v.zeroth

-- one more id's links don't matter
pub waits-more : (n : ℕ) (s r l : List ℕ) (c : ℕ) → Waits n s r l → member c l ≡ false → Waits n s (r ++ (c ∷ [])) l
waits-more n s r l c v out =
    record {
      linked = v.linked;
      ring = v.ring;
      once = v.once;
      low = v.low;
      apart = λ x m. out_snoc x c r (v.apart x m) (λ e. clash (in_eq l (sym e) m) out);
      lone = λ x m a b. v.lone x m (snoc_out x c r a).0 b;
      zeroth = in_left 0 r (c ∷ []) v.zeroth;
    }

-- only the links matter
pub waits-same : (n : ℕ) (s s' r l : List ℕ) → length s' ≡ length s → drop (2 * n) s' ≡ drop (2 * n) s → Waits n s r l → Waits n s' r l
unfolding link
waits-same n s s' r l e d v =
    record {
      linked = record {
        size = omega (arith, e, v.linked.size);
        back = λ g m. subst (λ (t : ℕ). t < n) (sym (back g)) (v.linked.back g m);
        on = λ g m. subst (λ (t : ℕ). t < n) (sym (on g)) (v.linked.on g m);
      };
      ring = frame (prev n s) (next n s) (prev n s') (next n s') 0 l 0 v.ring (λ x m. on x) (λ x m. back x);
      once = v.once;
      low = v.low;
      apart = v.apart;
      lone = λ x m a b. (back x ∙ (v.lone x m a b).0, on x ∙ (v.lone x m a b).1);
      zeroth = v.zeroth;
    }
  where
    read : (x : ℕ) → get_or s' (2 * n + x) 0 ≡ get_or s (2 * n + x) 0
    read x = sym (get_or-drop (2 * n) s' x 0) ∙ ap (λ (t : List ℕ). get_or t x 0) d ∙ get_or-drop (2 * n) s x 0

    back : (x : ℕ) → prev n s' x ≡ prev n s x
    back x = ap (λ (t : ℕ). (t + x) % 65536) (read x)

    far : (x : ℕ) → 2 * n + (n + x) ≡ 3 * n + x
    far x = omega arith

    on : (x : ℕ) → next n s' x ≡ next n s x
    on x = ap (λ (t : ℕ). (t + x) % 65536) (subst (λ (i : ℕ). get_or s' i 0 ≡ get_or s i 0) (far x) (read (n + x)))
