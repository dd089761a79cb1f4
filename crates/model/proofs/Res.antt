-- How the steps of a `do` are taken in a proof: forwards, each test known; backwards, from a success; `each`, place by place.
use mathlib.Core.Path.{◌≡◌, refl, sym, ap, ◌∙◌, subst}
use mathlib.Core.Bool.{Bool, true, false}
use mathlib.Core.List.{List, [], ◌∷◌, map}
use Prim.Native.Nat.{ℕ, zero, suc, ◌<◌}
use native.Mathlib.Omega.{arith}
use lib.ListN.{length, get_or}
use Rattle.model.specs.Res.{Res, refuse, ok, pick, both, need, map_res, each, ◌>>=◌, ◌>>◌}

-- forwards
pub need-ok : {A : Type 0} (k : ℕ) (t : Bool) (r : Res A) {s : Res A} → t ≡ true → r ≡ s → (need k t >> r) ≡ s
need-ok k t r e f = ap (λ (t : Bool). need k t >> r) e ∙ f

pub need_no : {A : Type 0} (k : ℕ) (t : Bool) (r : Res A) → t ≡ false → (need k t >> r) ≡ refuse k
need_no k t r e = ap (λ (t : Bool). need k t >> r) e

pub bind_ok : {A B : Type 0} (m : Res A) (f : A → Res B) {a : A} {s : Res B} → m ≡ ok a → f a ≡ s → (m >>= f) ≡ s
bind_ok m f e g = ap (λ m. m >>= f) e ∙ g

pub pick_true : {A : Type 0} (t : Bool) (a b : A) {s : A} → t ≡ true → a ≡ s → pick t a b ≡ s
pick_true t a b e f = ap (λ (t : Bool). pick t a b) e ∙ f

pub pick_false : {A : Type 0} (t : Bool) (a b : A) {s : A} → t ≡ false → b ≡ s → pick t a b ≡ s
pick_false t a b e f = ap (λ (t : Bool). pick t a b) e ∙ f

-- backwards
pub record Bound {A B : Type 0} (m : Res A) (f : A → Res B) (b : B) : Type 0 where
  pub value : A
  pub first : m ≡ ok value
  pub then : f value ≡ ok b

pub bind_inv : {A B : Type 0} (m : Res A) (f : A → Res B) (b : B) → (m >>= f) ≡ ok b → Bound m f b
bind_inv (refuse k) f b e = let z : ◌≡◌ {A = ℕ} 0 1 = cc in absurd (omega arith)
bind_inv (ok a) f b e = record { value = a; first = refl; then = e }

pub need_inv : {A : Type 0} (k : ℕ) (t : Bool) (r : Res A) (b : A) → (need k t >> r) ≡ ok b → (t ≡ true) × (r ≡ ok b)
need_inv k true r b e = (refl, e)
need_inv k false r b e = let z : ◌≡◌ {A = ℕ} 0 1 = cc in absurd (omega arith)

pub ok_inj : {A : Type 0} {a b : A} → ok a ≡ ok b → a ≡ b
ok_inj e = cc

pub both_true : (a b : Bool) → both a b ≡ true → (a ≡ true) × (b ≡ true)
both_true true b e = (refl, e)
both_true false b e = let z : ◌≡◌ {A = ℕ} 0 1 = cc in absurd (omega arith)

pub both_intro : {a b : Bool} → a ≡ true → b ≡ true → both a b ≡ true
both_intro {b = b} e f = ap (λ (a : Bool). both a b) e ∙ f

pub true_false : {A : Type 0} → true ≡ false → A
true_false e = let z : ◌≡◌ {A = ℕ} 0 1 = cc in absurd (omega arith)

pub ok-refuse : {A B : Type 0} {a : A} {k : ℕ} → ok a ≡ refuse k → B
ok-refuse e = let z : ◌≡◌ {A = ℕ} 0 1 = cc in absurd (omega arith)

-- every number of the list is below n
abbrev pub Under : ℕ → List ℕ → Type 0
Under n [] = Unit {0}
Under n (x ∷ xs) = (x < n) × Under n xs

pub record EachOk {A B : Type 0} (f : A → Res B) (xs : List A) (ys : List B) (a : A) (b : B) : Type 0 where
  pub same_length : length ys ≡ length xs
  pub at : (j : ℕ) → j < length xs → f (get_or xs j a) ≡ ok (get_or ys j b)

pub each_inv : {A B : Type 0} (f : A → Res B) (xs : List A) (ys : List B) (a : A) (b : B) → each f xs ≡ ok ys → EachOk f xs ys a b
each_inv {B = B} f [] ys a b e =
    subst {A = List B} (λ ys. EachOk f [] ys a b) (ok_inj e) (record { same_length = refl; at = λ j h. absurd (omega arith) })
each_inv {A = A} {B = B} f (x ∷ xs) ys a b e =
    let s = bind_inv (f x) _ ys e in
    let r = bind_inv (each f xs) _ ys s.then in
    let ih = each_inv f xs r.value a b r.first in
    subst {A = List B} (λ ys. EachOk f (x ∷ xs) ys a b) (ok_inj r.then)
    (record { same_length = ap suc ih.same_length; at = go s.value r.value s.first ih.at })
  where
    go : (y : B) (ys : List B) → f x ≡ ok y → ((j : ℕ) → j < length xs → f (get_or xs j a) ≡ ok (get_or ys j b))
        → (j : ℕ) → j < length (x ∷ xs) → f (get_or (x ∷ xs) j a) ≡ ok (get_or (y ∷ ys) j b)
    go y ys e ih zero h = e
    go y ys e ih (suc j) h = ih j (omega arith)

-- over numbers below n, where every answer is known
pub each-known : {B : Type 0} (n : ℕ) (f : ℕ → Res B) (g : ℕ → B) (xs : List ℕ) → Under n xs → ((j : ℕ) → j < n → f j ≡ ok (g j))
    → each f xs ≡ ok (map g xs)
each-known n f g [] u h = refl
each-known n f g (x ∷ xs) u h = bind_ok _ _ (h x u.0) (bind_ok _ _ (each-known n f g xs u.1 h) refl)

pub each_map : {A B : Type 0} (f : A → Res B) (g : ℕ → A) (xs : List ℕ) → each f (map g xs) ≡ each (λ j. f (g j)) xs
each_map f g [] = refl
each_map f g (x ∷ xs) = ap (λ m. f (g x) >>= λ y. m >>= λ ys. ok (y ∷ ys)) (each_map f g xs)

-- from a success of `map_res`
pub map_inv : {A B : Type 0} (f : A → B) (m : Res A) (b : B) → map_res f m ≡ ok b → (a : A) × (m ≡ ok a) × (f a ≡ b)
map_inv f (refuse k) b e = ok-refuse (sym e)
map_inv f (ok a) b e = (a, refl, ok_inj e)
