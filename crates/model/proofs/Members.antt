-- Membership is a test: cases on it, and what numbering and pushing do to it.
use Prim.Native.Nat.{ℕ, ◌+◌, ◌≤◌, ◌<◌}
use mathlib.Core.Bool.{Bool, true, false}
use mathlib.Core.List.{List, [], ◌∷◌, ◌++◌}
use mathlib.Core.Logic.{◌⊎◌, inl, inr, ⊎_elim}
use mathlib.Core.Path.{◌≡◌, refl, sym, ◌∙◌, subst}
use native.Mathlib.Omega.{arith}
use lib.ListN.{length}
use lib.Dec.{eqb}
use borrow.Author.Tests.{eqb-true, eq-eqb}
use Rattle.model.specs.Res.{pick, either}
use Rattle.model.specs.Bytes.{member}
pub use Rattle.model.specs.Bytes.{In}
use Rattle.model.specs.Walk.{numbered, full, push}
use Rattle.model.proofs.Res.{Under}

-- by cases on a test, with what the test said
pub by {ℓ} : {C : Type ℓ} (b : Bool) → (b ≡ true → C) → (b ≡ false → C) → C
by true f g = f refl
by false f g = g refl

pub clash {ℓ} : {C : Type ℓ} {b : Bool} → b ≡ true → b ≡ false → C
clash {b} p q = absurd (subst fam (sym p ∙ q) tt)
  where
    fam : Bool → Type 0
    fam true = Unit {0}
    fam false = ⊥

pub eqb_self : (x : ℕ) → eqb x x ≡ true
eqb_self x = eq-eqb x x refl

pub either-cases : (p q : Bool) → either p q ≡ true → (p ≡ true) ⊎ (q ≡ true)
either-cases true q h = inl refl
either-cases false q h = inr h

pub either_right : (p : Bool) {q : Bool} → q ≡ true → either p q ≡ true
either_right true h = refl
either_right false h = h

either_assoc : (p q r : Bool) → either p (either q r) ≡ either (either p q) r
either_assoc true q r = refl
either_assoc false q r = refl

pub in_here : (x : ℕ) (l : List ℕ) → In x (x ∷ l)
in_here x l = rw (eqb_self x)

pub in_there : (x y : ℕ) (l : List ℕ) → In x l → In x (y ∷ l)
in_there x y l h = either_right (eqb x y) h

pub in_cons : (x y : ℕ) (l : List ℕ) → In x (y ∷ l) → (x ≡ y) ⊎ In x l
in_cons x y l h = ⊎_elim (λ e. inl (eqb-true x y e)) inr (either-cases (eqb x y) (member x l) h)

pub in_one : (x y : ℕ) → In x (y ∷ []) → x ≡ y
in_one x y h = ⊎_elim (λ e. e) (λ e. clash e refl) (in_cons x y [] h)

-- an id that is another's equal stands where that stands
pub in_eq : {x y : ℕ} (l : List ℕ) → x ≡ y → In y l → In x l
in_eq l e h = subst (λ (t : ℕ). In t l) (sym e) h

pub member-append : (x : ℕ) (a b : List ℕ) → member x (a ++ b) ≡ either (member x a) (member x b)
member-append x [] b = refl
member-append x (y ∷ a) b = rw (member-append x a b) (either_assoc (eqb x y) (member x a) (member x b))

pub in_left : (x : ℕ) (a b : List ℕ) → In x a → In x (a ++ b)
in_left x a b h = rw (member-append x a b, h)

pub in_right : (x : ℕ) (a b : List ℕ) → In x b → In x (a ++ b)
in_right x a b h = rw (member-append x a b) (either_right (member x a) h)

pub in_append : (x : ℕ) (a b : List ℕ) → In x (a ++ b) → In x a ⊎ In x b
in_append x a b h = either-cases (member x a) (member x b) (sym (member-append x a b) ∙ h)

-- all below n: by place in the list, and by membership
pub under_in : (n : ℕ) (l : List ℕ) → Under n l → (x : ℕ) → In x l → x < n
under_in n [] u x m = clash m refl
under_in n (y ∷ l) u x m = ⊎_elim (λ e. omega (arith, e, u.0)) (under_in n l u.1 x) (in_cons x y l m)

pub in_under : (n : ℕ) (l : List ℕ) → ((x : ℕ) → In x l → x < n) → Under n l
in_under n [] h = tt
in_under n (y ∷ l) h = (h y (in_here y l), in_under n l (λ x m. h x (in_there x y l m)))

-- numbering
pub numbered_in : (r : List ℕ) (g : ℕ) → In g r → numbered r g ≡ r
unfolding numbered
numbered_in r g h = rw h

pub numbered-new : (r : List ℕ) (g : ℕ) → member g r ≡ false → numbered r g ≡ r ++ (g ∷ [])
unfolding numbered
numbered-new r g h = rw h

pub in_numbered_self : (r : List ℕ) (g : ℕ) → In g (numbered r g)
in_numbered_self r g =
    by (member g r) (λ h. rw (numbered_in r g h) h) (λ h. rw (numbered-new r g h) (in_right g r (g ∷ []) (in_here g [])))

pub in_numbered : (r : List ℕ) (g x : ℕ) → In x r → In x (numbered r g)
in_numbered r g x k =
    by (member g r) (λ h. rw (numbered_in r g h) k) (λ h. rw (numbered-new r g h) (in_left x r (g ∷ []) k))

pub numbered-cases : (r : List ℕ) (g x : ℕ) → In x (numbered r g) → In x r ⊎ (x ≡ g)
numbered-cases r g x k =
    by (member g r)
    (λ h. inl (rw (numbered_in r g h) at k))
    (λ h. ⊎_elim inl (λ e. inr (in_one x g e)) (in_append x r (g ∷ []) (rw (numbered-new r g h) at k)))

pub full_in : (r : List ℕ) (g : ℕ) → In g r → full r g ≡ false
unfolding full
full_in r g h = rw h

-- pushing
pub push-none : (r cs st : List ℕ) → ((c : ℕ) → In c cs → In c r) → push r cs st ≡ st
push-none r [] st h = refl
push-none r (c ∷ cs) st h = rw (h c (in_here c cs)) (push-none r cs st (λ x k. h x (in_there x c cs k)))

pub in_push-old : (r cs st : List ℕ) (x : ℕ) → In x st → In x (push r cs st)
in_push-old r [] st x h = h
in_push-old r (c ∷ cs) st x h =
    in_push-old r cs (pick (member c r) st (c ∷ st)) x (by (member c r) (λ e. rw e h) (λ e. rw e (in_there x c st h)))

pub in_push-new : (r cs st : List ℕ) (x : ℕ) → In x cs → In x r ⊎ In x (push r cs st)
in_push-new r [] st x h = clash h refl
in_push-new r (c ∷ cs) st x h = ⊎_elim first (in_push-new r cs (pick (member c r) st (c ∷ st)) x) (in_cons x c cs h)
  where
    first : x ≡ c → In x r ⊎ In x (push r (c ∷ cs) st)
    first e =
        by (member c r)
        (λ k. inl (in_eq r e k))
        (λ k. inr (rw k (in_push-old r cs (c ∷ st) x (in_eq (c ∷ st) e (in_here c st)))))

pub in_push : (r cs st : List ℕ) (x : ℕ) → In x (push r cs st) → In x cs ⊎ In x st
in_push r [] st x h = inr h
in_push r (c ∷ cs) st x h = go (member c r) (in_push r cs (pick (member c r) st (c ∷ st)) x h)
  where
    go : (b : Bool) → In x cs ⊎ In x (pick b st (c ∷ st)) → In x (c ∷ cs) ⊎ In x st
    go b (inl k) = inl (in_there x c cs k)
    go true (inr k) = inr k
    go false (inr k) = ⊎_elim (λ e. inl (in_eq (c ∷ cs) e (in_here c cs))) inr (in_cons x c st k)

pub length_push : (r cs st : List ℕ) → length (push r cs st) ≤ length cs + length st
length_push r [] st = omega arith
length_push r (c ∷ cs) st =
    by (member c r) (λ e. rw e (omega (arith, length_push r cs st))) (λ e. rw e (omega (arith, length_push r cs (c ∷ st))))
