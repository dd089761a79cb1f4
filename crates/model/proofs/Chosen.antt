-- Numbers chosen from a list without repeats: each is chosen once, so their sum is at most the whole, and places carry over one to one.
use mathlib.Core.Path.{◌≡◌, refl, sym, ap, ap₂, ◌∙◌, subst₂}
use mathlib.Core.Bool.{true, false}
use mathlib.Core.List.{List, [], ◌∷◌, map}
use Prim.Native.Nat.{ℕ, zero, suc, ◌+◌, ◌≤◌, ◌<◌}
use native.Mathlib.Omega.{arith}
use lib.Dec.{ltb, eqb}
use lib.ListN.{length, get_or, set, replicate, get_or-replicate}
use lib.Seq.{get_or-set_other}
use borrow.Author.Tests.{ltb-true, eq-eqb, ne_eqb, eqb-true, eqb-false}
use Rattle.model.specs.Bytes.{sum, place, member, all}
use Rattle.model.proofs.Res.{Under, both_true}
use Rattle.model.proofs.Members.{In, by, clash, in_here, in_there, in_eq}
use Rattle.model.proofs.Start.{Once, out_of}
use Rattle.model.proofs.Places.{place-get}

pub under-map : (n : ℕ) (f : ℕ → ℕ) (xs : List ℕ) → ((x : ℕ) → In x xs → f x < n) → Under n (map f xs)
under-map n f [] h = tt
under-map n f (x ∷ xs) h = (h x (in_here x xs), under-map n f xs (λ y m. h y (in_there y x xs m)))

pub all_under : (n : ℕ) (xs : List ℕ) → all (λ x. ltb x n) xs ≡ true → Under n xs
all_under n [] e = tt
all_under n (x ∷ xs) e = let q = both_true (ltb x n) _ e in (ltb-true x n q.0, all_under n xs q.1)

-- different places of a list without repeats hold different numbers
pub get_inj : (r : List ℕ) → Once r → (i j : ℕ) → i < length r → j < length r → get_or r i 0 ≡ get_or r j 0 → i ≡ j
get_inj r o i j h k e = sym (place-get r i o h) ∙ ap (place r) e ∙ place-get r j o k

-- places among renamed numbers
pub place_map : (old : ℕ → ℕ) (n : ℕ) → ((i j : ℕ) → i < n → j < n → old i ≡ old j → i ≡ j) → (r : List ℕ) → Under n r → (i : ℕ) → i < n
    → place (map old r) (old i) ≡ place r i
place_map old n inj [] u i h = refl
place_map old n inj (x ∷ r) u i h =
    by (eqb i x)
    (λ e. rw (e, eq-eqb (old i) (old x) (ap old (eqb-true i x e))))
    (λ e. rw (e, ne_eqb (old i) (old x) (λ q. eqb-false i x e (inj i x h u.0 q)), place_map old n inj r u.1 i h))

sum-set : (ls : List ℕ) (r : ℕ) → sum (set ls r 0) + get_or ls r 0 ≡ sum ls
sum-set [] r = refl
sum-set (x ∷ ls) zero = omega arith
sum-set (x ∷ ls) (suc r) = omega (arith, sum-set ls r)

sums_other : (ls : List ℕ) (r : ℕ) (rs : List ℕ) → member r rs ≡ false → sum (map (λ j. get_or (set ls r 0) j 0) rs) ≡ sum (map (λ j. get_or ls j 0) rs)
sums_other ls r [] n = refl
sums_other ls r (x ∷ rs) n =
    ap₂ (λ (a b : ℕ). a + b)
    (get_or-set_other ls r x 0 0 (λ e. clash (in_eq (x ∷ rs) (sym e) (in_here x rs)) n))
    (sums_other ls r rs (out_of r rs (λ m. clash (in_there r x rs m) n)))

pub sum_chosen : (ls rs : List ℕ) → Once rs → sum (map (λ j. get_or ls j 0) rs) ≤ sum ls
sum_chosen ls [] d = omega arith
sum_chosen ls (r ∷ rs) d = omega (arith, sum-set ls r, sums_other ls r rs d.0, sum_chosen (set ls r 0) rs d.1)

-- so there are at most n of them below n
pub pigeons : (n : ℕ) (r : List ℕ) → Once r → Under n r → length r ≤ n
pigeons n r o u =
    subst₂ (λ (a b : ℕ). a ≤ b) (ones r u) (total n) (sum_chosen (replicate n 1) r o)
  where
    total : (n : ℕ) → sum (replicate n 1) ≡ n
    total zero = refl
    total (suc n) = omega (arith, total n)

    ones : (r : List ℕ) → Under n r → sum (map (λ j. get_or (replicate n 1) j 0) r) ≡ length r
    ones [] u = refl
    ones (x ∷ r) u = omega (arith, get_or-replicate {A = ℕ} n x 1 0 u.0, ones r u.1)
