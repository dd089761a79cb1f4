-- A turn in the scratch is a turn of the walk: where nothing waits the stack's top is a request, which has its number; else it is the ring's top.
use Rattle.std.proofs.Common.{◌≡◌, refl, sym, ap, ap₂, ◌∙◌, subst, false, List, [], ◌∷◌, ◌++◌, reverse, ◌⊎◌, ⊎_elim, inl, inr, ℕ, zero, suc, ◌+◌, ◌*◌, ◌-◌, ◌≤◌, ◌<◌, arith, length, get_or, take, drop, length-append, take-suc, drop-cons, eqb, le-leb, Option, None, Some, Result, Ok, Err, ok_or}
use mathlib.Core.List.{reverse_aux}
use lib.Seq.{take-append-le, drop-append-le}
use borrow.Author.Tests.{lt-leb}
use Rattle.model.specs.Res.{Res}
use Rattle.model.specs.Bytes.{member}
use Rattle.model.specs.Walk.{going, full, most}
use Rattle.model.proofs.Members.{In, by, clash, in_here, in_there, in_cons, in_eq, numbered_in, numbered-new, full_in, eqb_self}
use Rattle.model.proofs.Thin.{without, to_top, step_t, opened_t}
use Rattle.model.proofs.Start.{out_of, without-out, in_reverse_aux}
use Rattle.model.proofs.Places.{get_in}
use Rattle.remapper.specs.Scratch.{next, taken, Linked}
use Rattle.remapper.specs.State.{Walking}
use Rattle.remapper.proofs.Numbering.{rostered-at, more_room, walking-taken, past-taken}
use Rattle.closure.specs.Turns.{read_of, kept_of, Opened, stack, Underway, At, Falls, Turned}
use Rattle.answer.specs.declared.Refusal.{Refusal}
use Rattle.answer.specs.declared.Refusal.TheVariants.{MalformedFont, TooManyGlyphs}
use Rattle.closure.specs.declared.Turn.{Turn}
use Rattle.closure.proofs.Reading.{walking_offered_all, past-opened}

without-append : (c : ℕ) (a b : List ℕ) → without c (a ++ b) ≡ without c a ++ without c b
without-append c [] b = refl
without-append c (x ∷ a) b = by (eqb x c) (λ e. rw e (without-append c a b)) (λ e. rw e (ap {B = List ℕ} (λ t. x ∷ t) (without-append c a b)))

-- numbered ids below the components stay where they are
to_top_append : (r cs l q : List ℕ) → ((x : ℕ) → In x q → In x r) → to_top r cs (l ++ q) ≡ to_top r cs l ++ q
to_top_append r [] l q h = refl
to_top_append r (c ∷ cs) l q h =
    by (member c r)
    (λ m. rw m (to_top_append r cs l q h))
    (λ m. rw m (ap (λ (t : List ℕ). to_top r cs (c ∷ t)) (without-append c l q ∙ ap (λ (t : List ℕ). without c l ++ t) (without-out c q (out_of c q (λ e. clash (h c e) m)))) ∙ to_top_append r cs (c ∷ without c l) q h))

in_take : (k : ℕ) (l : List ℕ) (x : ℕ) → In x (take k l) → In x l
in_take zero l x m = clash m refl
in_take (suc k) [] x m = m
in_take (suc k) (y ∷ l) x m = ⊎_elim (λ e. in_eq (y ∷ l) e (in_here y l)) (λ e. in_there x y l (in_take k l x e)) (in_cons x y (take k l) m)

in_requests : (r : List ℕ) (k x : ℕ) → In x (reverse (take k r)) → In x r
in_requests r k x m = ⊎_elim (in_take k r x) (λ e. clash e refl) (in_reverse_aux x (take k r) [] m)

snoc_reverse : (l acc : List ℕ) (x : ℕ) → reverse_aux (l ++ (x ∷ [])) acc ≡ x ∷ reverse_aux l acc
snoc_reverse [] acc x = refl
snoc_reverse (y ∷ l) acc x = snoc_reverse l (y ∷ acc) x

next_request : (r : List ℕ) (j : ℕ) → j < length r → reverse (take (suc j) r) ≡ get_or r j 0 ∷ reverse (take j r)
next_request r j h = ap reverse (take-suc r j 0 h) ∙ snoc_reverse (take j r) [] (get_or r j 0)

-- the ring's top says what waits
top_nil : (n : ℕ) (s r l : List ℕ) → Walking n s r l → next n s 0 ≡ 0 → l ≡ []
top_nil n s r [] v e = refl
top_nil n s r (c ∷ l) v e = clash v.waits.zeroth (v.waits.apart 0 (in_eq (c ∷ l) (sym e ∙ v.waits.ring.0) (in_here c l)))

top_cons : (n : ℕ) (s r l : List ℕ) (c : ℕ) → Walking n s r l → c ≡ next n s 0 → 0 < c → (t : List ℕ) × (l ≡ c ∷ t)
top_cons n s r [] c v e h = absurd (omega (arith, e, v.waits.ring.0))
top_cons n s r (g ∷ l) c v e h = (l, ap {B = List ℕ} (λ (y : ℕ). y ∷ l) (sym (e ∙ v.waits.ring.0)))

-- the exit where an outline can't be read
pub unread : (r : Option ℕ) (e : Refusal) → Err e ≡ ok_or r MalformedFont → (r ≡ None) × (e ≡ MalformedFont)
unread (Some k) e q = absurd cc
unread None e q = (refl, cc)

-- what an outline's answer makes of a turn's
abbrev pub after_read : Option ℕ → ℕ → ℕ → Result (Option Turn) Refusal
after_read (Some size) k left = Ok (Some (record { count = k; left = left; length = size }))
after_read None k left = Err MalformedFont

-- a glyph with its number was read, of the stack l and then the requests left
module _ (lengths : ℕ → ℕ) (n : ℕ) (s s' r l : List ℕ) (count k left : ℕ) (m : Res (List ℕ)) (before : List ℕ) (g : ℕ) (grown : (drop left r ≡ g ∷ before) ⊎ (drop left r ≡ before ++ (g ∷ []))) where
  after_read_lem : (a : Option ℕ) → Walking n s r l → k ≡ length r → left ≤ length r → Opened n s s' m (lengths g) a
      → At lengths n s' count before (after_read a k left) (opened_t m r (stack r l left))
  after_read_lem a v e h w = subst (λ m. At lengths n s' count before (after_read a k left) (opened_t m r (stack r l left))) (sym w.all) (go a w.size)
    where
      go : (a : Option ℕ) → lengths g ≡ kept_of a → At lengths n s' count before (after_read a k left) (opened_t (read_of a w.cs) r (stack r l left))
      go (Some size) q = (
        (
          to_top r w.cs l,
          subst (λ (t : List ℕ). Walking n t r (to_top r w.cs l)) (sym w.gone) (walking_offered_all n s r l w.cs v w.low),
          e,
          h,
          to_top_append r w.cs l (reverse (take left r)) (in_requests r left),
        ),
        record { g = g; size = sym q; at = grown },
      )
      go None q = refl

module _ (n : ℕ) (s : List ℕ) (count left : ℕ) (v : Underway n s count left) where
  pub underway_linked : Linked n s
  underway_linked = v.2.waits.linked

  underway_some : 0 < n
  underway_some = v.2.low 0 v.2.waits.zeroth

  -- nothing waits
  module _ (bare : next n s 0 ≡ 0) where
    module _ (some : 0 < left) (q : ℕ) (is-q : q ≡ get_or s (left - 1) 0) where
      at-q : (r l : List ℕ) → Walking n s r l → left ≤ length r → q ≡ get_or r (left - 1) 0
      at-q r l w h = is-q ∙ rostered-at n s r (left - 1) w.rostered (omega arith)

      in-q : (r l : List ℕ) → Walking n s r l → left ≤ length r → In q r
      in-q r l w h = in_eq r (at-q r l w h) (get_in r (left - 1) (omega arith))

      pub request-low : q < n
      request-low = v.2.low q (in-q v.0 v.1 v.2 v.4)

      pub turned-request : (parts : ℕ → Res (List ℕ)) (lengths : ℕ → ℕ) (s' : List ℕ) (a : Option ℕ) → Opened n s s' (parts q) (lengths q) a
          → Turned parts lengths n s s' count left (after_read a count (left - 1))
      turned-request parts lengths s' a w =
          record {
            past = past-opened n s s' (parts q) (lengths q) a underway_linked w;
            falls = falls a;
            at = λ r l u c h.
                let none = top_nil n s r l u bare in
                let has = in-q r l u h in
                subst (λ (t : List ℕ). At lengths n s' count (drop left r) (after_read a count (left - 1)) (step_t parts (going r (stack r t left)))) (sym none)
                (subst (λ (t : ℕ). At lengths n s' count (drop left r) (after_read a count (left - 1)) (step_t parts (going r (reverse (take t r))))) more
                (rw (next_request r (left - 1) (omega arith), ← at-q r l u h, full_in r q has, numbered_in r q has)
                (after_read_lem lengths n s s' r [] count count (left - 1) (parts q) (drop left r) q (inl (first r l u h)) a (subst (Walking n s r) none u) c (omega arith) w)));
          }
        where
          more : suc (left - 1) ≡ left
          more = omega arith

          first : (r l : List ℕ) → Walking n s r l → left ≤ length r → drop (left - 1) r ≡ q ∷ drop left r
          first r l u h = drop-cons r (left - 1) 0 (omega arith) ∙ ap₂ {C = List ℕ} (λ (x t : ℕ). x ∷ drop t r) (sym (at-q r l u h)) more

          falls : (a : Option ℕ) → Falls count left (after_read a count (left - 1))
          falls (Some size) = omega arith
          falls None = tt

  -- a component waits on top
  module _ (c : ℕ) (is_c : c ≡ next n s 0) (some : 0 < c) where
    pub component-low : c < n
    component-low = subst (λ (t : ℕ). t < n) (sym is_c) (underway_linked.on 0 underway_some)

    new : (r l : List ℕ) → Walking n s r l → member c r ≡ false
    new r l u = let d = top_cons n s r l c u is_c some in u.waits.apart c (subst (In c) (sym d.1) (in_here c d.0))

    pub component-room : count < n
    component-room = omega (arith, v.3, more_room n s v.0 v.1 v.2 c component-low (new v.0 v.1 v.2))

    pub turned-full : (parts : ℕ → Res (List ℕ)) (lengths : ℕ → ℕ) → most ≤ count → Turned parts lengths n s s count left (Err TooManyGlyphs)
    unfolding full
    turned-full parts lengths h =
        record {
          past = refl;
          falls = tt;
          at = λ r l u e k.
              subst (λ (t : List ℕ). At lengths n s count (drop left r) (Err TooManyGlyphs) (step_t parts (going r (stack r t left)))) (sym (top_cons n s r l c u is_c some).1)
              (rw (new r l u, le-leb most (length r) (omega arith)) refl);
        }

    module _ (fits : count < most) (s₁ : List ℕ) (is-s₁ : s₁ ≡ taken n s c count) where
      -- it is numbered, and waits no more
      walking-next : (r l : List ℕ) → Walking n s r l → count ≡ length r → Walking n s₁ (r ++ (c ∷ [])) (without c l)
      walking-next r l u e =
          subst (λ (t : List ℕ). Walking n t (r ++ (c ∷ [])) (without c l)) (sym (is-s₁ ∙ ap (taken n s c) e)) (walking-taken n s r l u c component-low (new r l u))

      pub taken-linked : Linked n s₁
      taken-linked = (walking-next v.0 v.1 v.2 v.3).waits.linked

      pub turned-component : (parts : ℕ → Res (List ℕ)) (lengths : ℕ → ℕ) (s' : List ℕ) (a : Option ℕ) → Opened n s₁ s' (parts c) (lengths c) a
          → Turned parts lengths n s s' count left (after_read a (count + 1) left)
      unfolding full
      turned-component parts lengths s' a w =
          record {
            past =
                past-opened n s₁ s' (parts c) (lengths c) a taken-linked w
                ∙ ap (drop (4 * n)) (is-s₁ ∙ ap (taken n s c) v.3) ∙ past-taken n s v.0 v.1 v.2 c component-low (new v.0 v.1 v.2);
            falls = falls a;
            at = λ r l u e k. let d = top_cons n s r l c u is_c some in go r l u e k d.0 d.1;
          }
        where
          falls : (a : Option ℕ) → Falls count left (after_read a (count + 1) left)
          falls (Some size) = omega arith
          falls None = tt

          go : (r l : List ℕ) → Walking n s r l → count ≡ length r → left ≤ length r → (t : List ℕ) → l ≡ c ∷ t
              → At lengths n s' count (drop left r) (after_read a (count + 1) left) (step_t parts (going r (stack r l left)))
          go r l u e k t d =
              subst (λ (x : List ℕ). At lengths n s' count (drop left r) (after_read a (count + 1) left) (step_t parts (going r (stack r x left)))) (sym d)
              (rw (new r l u, lt-leb most (length r) (omega arith), numbered-new r c (new r l u))
              (subst (λ (x : List ℕ). At lengths n s' count (drop left r) (after_read a (count + 1) left) (opened_t (parts c) (r ++ (c ∷ [])) (t ++ x))) (ap reverse (take-append-le left r (c ∷ []) k))
              (after_read_lem lengths n s₁ s' (r ++ (c ∷ [])) t count (count + 1) left (parts c) (drop left r) c (inr (drop-append-le left r (c ∷ []) k)) a
              (subst (Walking n s₁ (r ++ (c ∷ []))) gone (walking-next r l u e)) (omega (arith, size)) (omega (arith, size)) w)))
            where
              size : length (r ++ (c ∷ [])) ≡ length r + 1
              size = length-append r (c ∷ [])

              gone : without c l ≡ t
              gone = ap (without c) d ∙ rw (eqb_self c) (without-out c t (subst (Walking n s r) d u).waits.once.0)
