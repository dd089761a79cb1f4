-- An id's place in a roster is its new number: places and ids of a list without repeats are one to one.
use Prim.Native.Nat.{ℕ, zero, suc, ◌<◌}
use mathlib.Core.List.{List, [], ◌∷◌, map}
use mathlib.Core.Bool.{Bool}
use mathlib.Core.Path.{◌≡◌, refl, sym, ap, subst}
use native.Mathlib.Omega.{arith}
use lib.ListN.{length, get_or}
use lib.Dec.{eqb}
use borrow.Author.Tests.{eqb-true}
use Rattle.model.specs.Res.{pick}
use Rattle.model.specs.Bytes.{place}
use Rattle.model.proofs.Members.{In, by, clash, in_here, in_there, in_eq, eqb_self}
use Rattle.model.proofs.Start.{Once}

pub place-low : (l : List ℕ) (x : ℕ) → In x l → place l x < length l
place-low [] x h = clash h refl
place-low (y ∷ l) x h = by (eqb x y) (λ e. rw e (omega arith)) (λ e. rw e (omega (arith, place-low l x (rw e at h))))

pub get-place : (l : List ℕ) (x : ℕ) → In x l → get_or l (place l x) 0 ≡ x
get-place [] x h = clash h refl
get-place (y ∷ l) x h = by (eqb x y) (λ e. rw e (sym (eqb-true x y e))) (λ e. rw e (get-place l x (rw e at h)))

pub get_in : (l : List ℕ) (k : ℕ) → k < length l → In (get_or l k 0) l
get_in [] k h = absurd (omega arith)
get_in (y ∷ l) zero h = in_here y l
get_in (y ∷ l) (suc k) h = in_there (get_or l k 0) y l (get_in l k (omega arith))

pub place-get : (l : List ℕ) (k : ℕ) → Once l → k < length l → place l (get_or l k 0) ≡ k
place-get [] k o h = absurd (omega arith)
place-get (y ∷ l) zero o h = rw (eqb_self y)
place-get (y ∷ l) (suc k) o h =
    by (eqb (get_or l k 0) y)
    (λ e. clash (in_eq l (sym (eqb-true (get_or l k 0) y e)) (get_in l k (omega arith))) o.0)
    (λ e. rw e (ap suc (place-get l k o.1 (omega arith))))

-- new numbers, and the old ids again
pub map_back : (r cs : List ℕ) → ((c : ℕ) → In c cs → In c r) → map (λ (k : ℕ). get_or r k 0) (map (place r) cs) ≡ cs
map_back r [] h = refl
map_back r (c ∷ cs) h = rw (get-place r c (h c (in_here c cs)), map_back r cs (λ x k. h x (in_there x c cs k)))

-- a place that is in the list is that of the id
pub get-found : (l : List ℕ) (x : ℕ) → place l x < length l → get_or l (place l x) 0 ≡ x
get-found [] x h = absurd (omega arith)
get-found (y ∷ l) x h =
    by (eqb x y) (λ e. rw e (sym (eqb-true x y e))) (λ e. rw e (get-found l x (omega (arith, subst (λ (t : Bool). pick t 0 (suc (place l x)) < suc (length l)) e h))))
