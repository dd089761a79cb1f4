-- What is numbered. An id that gets the next number stands last in the roster, and its links don't matter any more; so a component is taken by
-- unlinking and numbering it, a request by numbering it.
use Rattle.std.proofs.Common.{ℕ, suc, ◌+◌, ◌*◌, ◌≤◌, ◌<◌, true, false, List, [], ◌∷◌, ◌++◌, ⊎_elim, ◌≡◌, refl, sym, ap, ◌∙◌, subst, arith, zero-add, add-one, length, get_or, take, drop, set, length-set, length-append, get_or-set_same, get_or-set_other, take-suc-set, drop-set-lt, get_or-take, take-take, drop-drop, eqb, eqb-true, eq-eqb, ne_eqb}
use lib.Seq.{take-set-le}
use borrow.Author.Tests.{eqb-false}
use Rattle.model.specs.Res.{pick}
use Rattle.model.specs.Bytes.{member, place}
use Rattle.model.proofs.Members.{In, by, clash, in_here, in_there, in_one, in_right, in_append, member-append, eqb_self}
use Rattle.model.proofs.Res.{Under}
use Rattle.model.proofs.Chosen.{pigeons}
use Rattle.model.proofs.Thin.{without}
use Rattle.model.proofs.Start.{once_snoc}
use Rattle.remapper.specs.Scratch.{num, unlinked, offered, given, taken}
use Rattle.remapper.specs.State.{number_in, Rostered, Waits, Walking}
use Rattle.remapper.proofs.Rows.{Keeps}
use Rattle.remapper.proofs.Waiting.{keeps-unlinked, keeps-moved, waits-unlinked, waits-moved, waits-more, waits-same}

-- ids that are all below n
pub under_all : (n : ℕ) (l : List ℕ) → ((x : ℕ) → In x l → x < n) → Under n l
under_all n [] h = tt
under_all n (x ∷ l) h = (h x (in_here x l), under_all n l (λ y m. h y (in_there y x l m)))

pub low_snoc : (n : ℕ) (r : List ℕ) (q : ℕ) → ((x : ℕ) → In x r → x < n) → q < n → (x : ℕ) → In x (r ++ (q ∷ [])) → x < n
low_snoc n r q h low x m = ⊎_elim (h x) (λ e. omega (arith, in_one x q e)) (in_append x r (q ∷ []) m)

place-append : (r t : List ℕ) (x : ℕ) → In x r → place (r ++ t) x ≡ place r x
place-append [] t x m = clash m refl
place-append (y ∷ r) t x m = by (eqb x y) (λ e. rw e) (λ e. rw e (ap suc (place-append r t x (rw e at m))))

place-last : (r : List ℕ) (x : ℕ) → member x r ≡ false → place (r ++ (x ∷ [])) x ≡ length r
place-last [] x m = rw (eqb_self x)
place-last (y ∷ r) x m = by (eqb x y) (λ e. clash (rw e) m) (λ e. rw e (ap suc (place-last r x (rw e at m))))

-- the new numbers of a roster with one more
number-last : (r : List ℕ) (q : ℕ) → member q r ≡ false → number_in (r ++ (q ∷ [])) q ≡ suc (length r)
number-last r q new = rw (in_right q r (q ∷ []) (in_here q []), place-last r q new)

number-others : (r : List ℕ) (q g : ℕ) → eqb g q ≡ false → number_in (r ++ (q ∷ [])) g ≡ number_in r g
number-others r q g e =
    by (member g r) (λ t. rw (member-append g r (q ∷ []), t, place-append r (q ∷ []) g t)) (λ t. rw (member-append g r (q ∷ []), t, e))

pub number-none : (r : List ℕ) (g : ℕ) → number_in r g ≡ 0 → member g r ≡ false
number-none r g e = by (member g r) (λ m. absurd (omega (arith, rw m at e))) (λ m. m)

pub number-some : (r : List ℕ) (g : ℕ) → (number_in r g ≡ 0 → ⊥) → In g r
number-some r g e = by (member g r) (λ m. m) (λ m. absurd (e (rw m)))

-- stores to links change neither roster nor numbers
pub rostered-keeps : (n : ℕ) (s s' r : List ℕ) → Keeps n s s' → length r ≤ n → Rostered n s r → Rostered n s' r
rostered-keeps n s s' r k h v =
    record {
      ids = sym (take-take (length r) (2 * n) s' (omega arith)) ∙ ap (take (length r)) k.lower ∙ take-take (length r) (2 * n) s (omega arith) ∙ v.ids;
      numbers = λ g m. sym (get_or-take (2 * n) s' (n + g) 0 (omega arith)) ∙ ap (λ (t : List ℕ). get_or t (n + g) 0) k.lower ∙ get_or-take (2 * n) s (n + g) 0 (omega arith) ∙ v.numbers g m;
    }

-- the id at a place of the roster
pub rostered-at : (n : ℕ) (s r : List ℕ) (i : ℕ) → Rostered n s r → i < length r → get_or s i 0 ≡ get_or r i 0
rostered-at n s r i v h = sym (get_or-take (length r) s i 0 h) ∙ ap (λ (t : List ℕ). get_or t i 0) v.ids

module _ (n : ℕ) (s r : List ℕ) (q : ℕ) (size : 4 * n ≤ length s) (room : length r < n) (low : q < n) where
  s₁ : List ℕ
  s₁ = set s (0 + length r) q

  pub size-given : length (given n s q (length r)) ≡ length s
  unfolding given
  size-given = length-set (set s (0 + length r) q) (n + q) (length r + 1) ∙ length-set s (0 + length r) q

  pub upper_given : drop (2 * n) (given n s q (length r)) ≡ drop (2 * n) s
  unfolding given
  upper_given = drop-set-lt (2 * n) (set s (0 + length r) q) (n + q) (length r + 1) (omega arith) ∙ drop-set-lt (2 * n) s (0 + length r) q (omega arith)

  pub past-given : drop (4 * n) (given n s q (length r)) ≡ drop (4 * n) s
  past-given = sym (twice (given n s q (length r))) ∙ ap (drop (2 * n)) upper_given ∙ twice s
    where
      twice : (t : List ℕ) → drop (2 * n) (drop (2 * n) t) ≡ drop (4 * n) t
      twice t = drop-drop (2 * n) (2 * n) t ∙ ap (λ (i : ℕ). drop i t) (four n)
        where
          four : (n : ℕ) → 2 * n + 2 * n ≡ 4 * n
          four n = omega arith

  -- q stands last in the roster, and has its number
  pub rostered-given : member q r ≡ false → Rostered n s r → Rostered n (given n s q (length r)) (r ++ (q ∷ []))
  unfolding given s₁
  rostered-given new v =
      record {
        ids = ap (λ (i : ℕ). take i (given n s q (length r))) (length-append r (q ∷ []) ∙ add-one (length r))
            ∙ take-set-le (suc (length r)) s₁ (n + q) (length r + 1) (omega arith)
            ∙ ap (λ (i : ℕ). take (suc (length r)) (set s i q)) (zero-add (length r))
            ∙ take-suc-set s (length r) q (omega arith)
            ∙ ap (λ (t : List ℕ). t ++ (q ∷ [])) v.ids;
        numbers = λ g m. by (eqb g q) (λ e. mine g (eqb-true g q e)) (λ e. others g m e);
      }
    where
      mine : (g : ℕ) → g ≡ q → num n (given n s q (length r)) g ≡ number_in (r ++ (q ∷ [])) g
      mine g e =
          subst (λ (t : ℕ). num n (given n s q (length r)) t ≡ number_in (r ++ (q ∷ [])) t) (sym e)
          (get_or-set_same s₁ (n + q) (length r + 1) 0 (omega (arith, length-set s (0 + length r) q)) ∙ add-one (length r) ∙ sym (number-last r q new))

      others : (g : ℕ) → g < n → eqb g q ≡ false → num n (given n s q (length r)) g ≡ number_in (r ++ (q ∷ [])) g
      others g m e =
          get_or-set_other s₁ (n + q) (n + g) (length r + 1) 0 (λ t. eqb-false g q e (omega arith)) ∙ get_or-set_other s (0 + length r) (n + g) q 0 (omega arith)
          ∙ v.numbers g m ∙ sym (number-others r q g e)

module _ (n : ℕ) (s r l : List ℕ) (v : Walking n s r l) where
  -- the roster is no longer than n, and shorter if an id is missing
  pub walking_room : length r ≤ n
  walking_room = pigeons n r v.once (under_all n r v.low)

  module _ (q : ℕ) (low : q < n) (new : member q r ≡ false) where
    pub more_room : length r < n
    more_room = omega (arith, length-append r (q ∷ []), pigeons n (r ++ (q ∷ [])) (once_snoc r q v.once new) (under_all n (r ++ (q ∷ [])) (low_snoc n r q v.low low)))

    -- numbered, whatever became of its links
    numbering : (s₁ l₁ : List ℕ) → Keeps n s s₁ → Waits n s₁ (r ++ (q ∷ [])) l₁ → Walking n (given n s₁ q (length r)) (r ++ (q ∷ [])) l₁
    numbering s₁ l₁ k w =
        record {
          rostered = rostered-given n s₁ r q w.linked.size more_room low new (rostered-keeps n s s₁ r k walking_room v.rostered);
          once = once_snoc r q v.once new;
          low = low_snoc n r q v.low low;
          waits = waits-same n s₁ (given n s₁ q (length r)) (r ++ (q ∷ [])) l₁ (size-given n s₁ r q w.linked.size more_room low) (upper_given n s₁ r q w.linked.size more_room low) w;
        }

    -- a request is numbered
    pub walking-given : member q l ≡ false → Walking n (given n s q (length r)) (r ++ (q ∷ [])) l
    walking-given out = numbering s l (record { size = refl; lower = refl; past = refl }) (waits-more n s r l q v.waits out)

    -- a component is numbered, and waits no more
    pub walking-taken : Walking n (taken n s q (length r)) (r ++ (q ∷ [])) (without q l)
    unfolding taken
    walking-taken = numbering (unlinked n s q) (without q l) (keeps-unlinked n s q low v.waits.linked) (waits-unlinked n s r l v.waits q low new)

    pub past-taken : drop (4 * n) (taken n s q (length r)) ≡ drop (4 * n) s
    unfolding taken
    past-taken =
        let k = keeps-unlinked n s q low v.waits.linked in
        past-given n (unlinked n s q) r q (omega (arith, k.size, v.waits.linked.size)) more_room low ∙ k.past

    -- an unnumbered component is offered
    pub walking-moved : Walking n (offered n s q) r (q ∷ without q l)
    unfolding offered
    walking-moved =
        rw (eq-eqb (num n s q) 0 (v.rostered.numbers q low ∙ none))
        (record {
          rostered = rostered-keeps n s _ r (keeps-moved n s q low v.waits.linked) walking_room v.rostered;
          once = v.once;
          low = v.low;
          waits = waits-moved n s r l q v.waits low new;
        })
      where
        none : number_in r q ≡ 0
        none = rw new

  -- a component is offered
  pub walking_offered : (c : ℕ) → c < n → Walking n (offered n s c) r (pick (member c r) l (c ∷ without c l))
  unfolding offered
  walking_offered c low = by (member c r) (λ m. rw (m, ne_eqb (num n s c) 0 (λ e. busy m (sym (v.rostered.numbers c low) ∙ e))) v) (λ m. rw m (walking-moved c low m))
    where
      busy : member c r ≡ true → number_in r c ≡ 0 → ⊥
      busy m e = omega (arith, rw m at e)
