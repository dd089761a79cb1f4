-- post's names and indexes: as many turns as there are bytes are enough for the names; both new lists grow at their end by one glyph's part.
use mathlib.Core.Path.{◌≡◌, refl, ap, ◌∙◌}
use mathlib.Core.Bool.{Bool, true, false}
use mathlib.Core.List.{List, [], ◌∷◌, ◌++◌, map, flat_map}
use Prim.Native.Nat.{ℕ, zero, suc, ◌+◌, ◌-◌, ◌≤◌, ◌<◌}
use native.Mathlib.Omega.{arith}
use native.Mathlib.Nat.{add-zero}
use lib.Dec.{ltb, leb}
use lib.ListN.{length, take, drop, get_or, length-drop}
use borrow.Author.Tests.{lt-ltb, le-leb, lt-leb}
use Rattle.model.specs.Res.{Res, refuse, ok, pick, both, each, ◌>>=◌}
use Rattle.model.specs.Bytes.{Bytes, concat}
use Rattle.model.specs.Post.{names, new_indexes, new_names, pascal}
use Rattle.model.proofs.Res.{bind_ok, Under}

-- a name takes a byte or more, so any turns from the number of bytes on give the same names
pub names-enough : (t u : ℕ) (b : Bytes) → length b ≤ t → length b ≤ u → names t b ≡ names u b
names-enough zero zero b h k = refl
names-enough zero (suc u) [] h k = refl
names-enough zero (suc u) (x ∷ b) h k = absurd (omega arith)
names-enough (suc t) zero [] h k = refl
names-enough (suc t) zero (x ∷ b) h k = absurd (omega arith)
names-enough (suc t) (suc u) [] h k = refl
names-enough (suc t) (suc u) (x ∷ b) h k =
    ap (λ (ns : List Bytes). pick (both (ltb 0 x) (leb x (length b))) (take x b ∷ ns) [])
    (names-enough t u (drop x b) (simp length-drop (omega arith)) (simp length-drop (omega arith)))

-- a whole name; a cut one (an empty one computes)
pub names-whole : (t x : ℕ) (b : Bytes) → 0 < x → x ≤ length b → names (suc t) (x ∷ b) ≡ take x b ∷ names t (drop x b)
names-whole t x b h k = rw (lt-ltb 0 x h, le-leb x (length b) k)

pub names-cut : (t x : ℕ) (b : Bytes) → length b < x → names (suc t) (x ∷ b) ≡ []
names-cut t x b h = rw (lt-ltb 0 x (omega arith), lt-leb x (length b) h)

push : (t : Bool) (n : Bytes) (xs ys : List Bytes) → pick t (xs ++ ys) (n ∷ (xs ++ ys)) ≡ pick t xs (n ∷ xs) ++ ys
push true n xs ys = refl
push false n xs ys = refl

pub new_names-append : (ns : List Bytes) (is js : List ℕ) → new_names ns (is ++ js) ≡ new_names ns is ++ new_names ns js
new_names-append ns [] js = refl
new_names-append ns (i ∷ is) js =
    ap (λ (r : List Bytes). pick (leb i 257) r (get_or ns (i - 258) [] ∷ r)) (new_names-append ns is js)
    ∙ push (leb i 257) (get_or ns (i - 258) []) (new_names ns is) (new_names ns js)

pub length-new_indexes : (next : ℕ) (is : List ℕ) → length (new_indexes next is) ≡ length is
length-new_indexes next [] = refl
length-new_indexes next (i ∷ is) = go (leb i 257) (length-new_indexes next is) (length-new_indexes (suc next) is)
  where
    go : (t : Bool) → length (new_indexes next is) ≡ length is → length (new_indexes (suc next) is) ≡ length is
        → length (pick t (i ∷ new_indexes next is) (next ∷ new_indexes (suc next) is)) ≡ suc (length is)
    go true e e' = ap suc e
    go false e e' = ap suc e'

-- one index more: it is kept, or is the next number, which is as many further as names were stored
pub new_indexes_snoc : (next : ℕ) (ns : List Bytes) (is : List ℕ) (i : ℕ)
    → new_indexes next (is ++ (i ∷ [])) ≡ new_indexes next is ++ (pick (leb i 257) i (next + length (new_names ns is)) ∷ [])
new_indexes_snoc next ns [] i = go (leb i 257)
  where
    go : (t : Bool) → pick {A = List ℕ} t (i ∷ []) (next ∷ []) ≡ pick t i (next + 0) ∷ []
    go true = refl
    go false = rw add-zero
new_indexes_snoc next ns (x ∷ is) i = go (leb x 257) (new_indexes_snoc next ns is i) (new_indexes_snoc (suc next) ns is i)
  where
    go : (t : Bool)
        → new_indexes next (is ++ (i ∷ [])) ≡ new_indexes next is ++ (pick (leb i 257) i (next + length (new_names ns is)) ∷ [])
        → new_indexes (suc next) (is ++ (i ∷ [])) ≡ new_indexes (suc next) is ++ (pick (leb i 257) i (suc next + length (new_names ns is)) ∷ [])
        → pick {A = List ℕ} t (x ∷ new_indexes next (is ++ i ∷ [])) (next ∷ new_indexes (suc next) (is ++ i ∷ []))
        ≡ pick {A = List ℕ} t (x ∷ new_indexes next is) (next ∷ new_indexes (suc next) is)
        ++ pick (leb i 257) i (next + length (pick t (new_names ns is) (get_or ns (x - 258) [] ∷ new_names ns is))) ∷ []
    go true e e' = ap (λ (r : List ℕ). x ∷ r) e
    go false e e' =
        let n : suc next + length (new_names ns is) ≡ next + suc (length (new_names ns is)) = omega arith in
        ap (λ (r : List ℕ). next ∷ r)
        (e' ∙ ap (λ (m : ℕ). new_indexes (suc next) is ++ (pick (leb i 257) i m ∷ [])) n)

pub concat-map : (f : ℕ → Bytes) (xs : List ℕ) → concat (map f xs) ≡ flat_map f xs
unfolding flat_map
concat-map f [] = refl
concat-map f (x ∷ xs) = ap (λ (r : Bytes). f x ++ r) (concat-map f xs)

-- the stored names' bytes, glyph by glyph
push-bytes : (t : Bool) (n : Bytes) (xs : List Bytes) → concat (map pascal (pick t xs (n ∷ xs))) ≡ pick t [] (pascal n) ++ concat (map pascal xs)
push-bytes true n xs = refl
push-bytes false n xs = refl

pub new_names-bytes : (ns : List Bytes) (f : ℕ → ℕ) (ids : List ℕ)
    → concat (map pascal (new_names ns (map f ids))) ≡ flat_map (λ g. pick (leb (f g) 257) [] (pascal (get_or ns (f g - 258) []))) ids
unfolding flat_map
new_names-bytes ns f [] = refl
new_names-bytes ns f (g ∷ ids) =
    push-bytes (leb (f g) 257) (get_or ns (f g - 258) []) (new_names ns (map f ids))
    ∙ ap (λ (r : Bytes). pick (leb (f g) 257) [] (pascal (get_or ns (f g - 258) [])) ++ r) (new_names-bytes ns f ids)

-- `each` over a list of numbers: each of them below n; and the first refusal
pub under_all : (n : ℕ) (xs : List ℕ) → ((j : ℕ) → j < length xs → get_or xs j 0 < n) → Under n xs
under_all n [] h = tt
under_all n (x ∷ xs) h = (h 0 (omega arith), under_all n xs (λ j k. h (suc j) (omega arith)))

pub each-refuses : {B : Type 0} (f : ℕ → Res B) (v : ℕ → B) (k : ℕ) (xs : List ℕ) (j : ℕ)
    → ((i : ℕ) → i < j → f (get_or xs i 0) ≡ ok (v (get_or xs i 0))) → j < length xs → f (get_or xs j 0) ≡ refuse k → each f xs ≡ refuse k
each-refuses f v k [] j h l e = absurd (omega arith)
each-refuses f v k (x ∷ xs) zero h l e = ap (λ m. m >>= λ y. each f xs >>= λ ys. ok (y ∷ ys)) e
each-refuses f v k (x ∷ xs) (suc j) h l e =
    bind_ok _ _ (h 0 (omega arith))
    (ap (λ m. m >>= λ ys. ok (v x ∷ ys)) (each-refuses f v k xs j (λ i q. h (suc i) (omega arith)) (omega arith) e))
