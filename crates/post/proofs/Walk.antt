-- Where names stand: a name at a place that is one's, the list's end, and a walk of so many names.
use mathlib.Core.Path.{◌≡◌, refl, sym, ap, ◌∙◌}
use mathlib.Core.List.{List, [], ◌∷◌}
use Prim.Native.Nat.{ℕ, zero, suc, min, ◌+◌, ◌*◌, ◌-◌, ◌≤◌, ◌<◌}
use native.Mathlib.Omega.{arith}
use native.Mathlib.Nat.{add-zero}
use native.Mathlib.Numerals.{add-one}
use lib.Dec.{ltb, leb, eqb}
use lib.ListN.{length, take, drop, get_or, length-drop, drop_of_length-le}
use lib.Seq.{drop-drop, get_or-drop, length-take-le}
use borrow.Author.Tests.{lt-ltb, le-ltb, le-leb, lt-leb, eq-eqb, ne_eqb, leb-true, leb-false, ltb-true, ltb-false, eqb-true, eqb-false}
use Rattle.model.specs.Bytes.{Bytes, word16, part}
use Rattle.model.specs.Post.{names, names_of, pascal}
use Rattle.model.proofs.Members.{by}
use Rattle.model.proofs.Sums.{at_next}
use Rattle.model.proofs.Post.{names-enough, names-whole, names-cut}
use Rattle.post.specs.Post.{size_at, walked, Stands}

-- the three cases of a size
pub size-past : (b : Bytes) (p : ℕ) → length b ≤ p → size_at b p ≡ 0
unfolding size_at
size-past b p h = rw (le-leb (length b) p h)

pub size-cut : (b : Bytes) (p : ℕ) → p < length b → length b - (p + 1) < get_or b p 0 → size_at b p ≡ 0
unfolding size_at
size-cut b p h k = rw (lt-leb (length b) p h, lt-ltb (length b - (p + 1)) (get_or b p 0) k)

pub size-whole : (b : Bytes) (p : ℕ) → p < length b → get_or b p 0 ≤ length b - (p + 1) → size_at b p ≡ get_or b p 0
unfolding size_at
size-whole b p h k = rw (lt-leb (length b) p h, le-ltb (length b - (p + 1)) (get_or b p 0) k)

-- a name at p, and none
record Whole (b : Bytes) (p : ℕ) : Type 0 where
  start : p < length b
  size : size_at b p ≡ get_or b p 0
  room : get_or b p 0 ≤ length b - (p + 1)

whole-at : (b : Bytes) (p : ℕ) → 0 < size_at b p → Whole b p
whole-at b p h =
    by (leb (length b) p)
    (λ e. let z = size-past b p (leb-true (length b) p e) in absurd (omega arith))
    (λ e. let s = leb-false (length b) p e in
    by (ltb (length b - (p + 1)) (get_or b p 0))
    (λ f. let z = size-cut b p s (ltb-true (length b - (p + 1)) (get_or b p 0) f) in absurd (omega arith))
    (λ f. let r = ltb-false (length b - (p + 1)) (get_or b p 0) f in
    record { start = s; size = size-whole b p s r; room = r }))

pub size-inside : (b : Bytes) (p : ℕ) → 0 < size_at b p → p + 1 + size_at b p ≤ length b
size-inside b p h = let w = whole-at b p h in omega (arith, w.start, w.size, w.room)

-- one turn more does no harm
more-turns : (b : Bytes) (p : ℕ) → names (length b) (drop p b) ≡ names (suc (length b)) (drop p b)
more-turns b p = names-enough (length b) (suc (length b)) (drop p b) (simp length-drop (omega arith)) (simp length-drop (omega arith))

pub names-there : (b : Bytes) (p : ℕ) → 0 < size_at b p
    → names (length b) (drop p b) ≡ part b (p + 1) (size_at b p) ∷ names (length b) (drop (p + 1 + size_at b p) b)
names-there b p h =
    let w = whole-at b p h in
    rw w.size
    (more-turns b p
    ∙ ap (λ (r : Bytes). names (suc (length b)) r) (at_next b p w.start)
    ∙ names-whole (length b) (get_or b p 0) (drop (p + 1) b) (omega (arith, w.size)) (simp length-drop w.room)
    ∙ ap (λ (r : Bytes). part b (p + 1) (get_or b p 0) ∷ names (length b) r) (drop-drop (get_or b p 0) (p + 1) b))

pub names-gone : (b : Bytes) (p : ℕ) → size_at b p ≡ 0 → names (length b) (drop p b) ≡ []
names-gone b p h =
    by (leb (length b) p)
    (λ e. more-turns b p ∙ ap (λ (r : Bytes). names (suc (length b)) r) (drop_of_length-le b (leb-true (length b) p e)))
    (λ e. let s = leb-false (length b) p e in
    more-turns b p
    ∙ ap (λ (r : Bytes). names (suc (length b)) r) (at_next b p s)
    ∙ by (ltb (length b - (p + 1)) (get_or b p 0))
    (λ f. names-cut (length b) (get_or b p 0) (drop (p + 1) b) (simp length-drop (ltb-true (length b - (p + 1)) (get_or b p 0) f)))
    (λ f. let z : get_or b p 0 ≡ 0 = sym (size-whole b p s (ltb-false (length b - (p + 1)) (get_or b p 0) f)) ∙ h in
    ap (λ (x : ℕ). names (suc (length b)) (x ∷ drop (p + 1) b)) z))

-- the first name stands behind the index array
pub stands-first : (b : Bytes) → Stands b (34 + 2 * word16 b 32) 0
stands-first b = record { rest = refl }

rest-next : (ns : List Bytes) (k : ℕ) (l : List Bytes) → drop k ns ≡ l → drop (suc k) ns ≡ drop 1 l
rest-next ns k l e = rw (← add-one k, ← e) (sym (drop-drop 1 k ns))

pub stands-next : (b : Bytes) (p k : ℕ) → Stands b p k → 0 < size_at b p → Stands b (p + 1 + size_at b p) (suc k)
stands-next b p k s h = record { rest = rest-next (names_of b) k _ (s.rest ∙ names-there b p h) }

pub stands_stays : (b : Bytes) (p k : ℕ) → Stands b p k → size_at b p ≡ 0 → Stands b p (suc k)
stands_stays b p k s h = record { rest = rest-next (names_of b) k _ (s.rest ∙ names-gone b p h) ∙ sym (names-gone b p h) }

-- past the table there are as few bytes as at its end
pub stands_end : (b : Bytes) (p k : ℕ) → length b ≤ p → Stands b p k → Stands b (length b) k
stands_end b p k h s =
    let e : length b ≤ length b = omega arith in
    record { rest = s.rest ∙ ap (names (length b)) (drop_of_length-le b h ∙ sym (drop_of_length-le b e)) }

pub stands_within : (b : Bytes) (p k : ℕ) → Stands b p k → Stands b (min p (length b)) k
stands_within b p k s =
    by (leb p (length b))
    (λ t. let e : min p (length b) ≡ p = omega (arith, leb-true p (length b) t) in rw e s)
    (λ t. let e : min p (length b) ≡ length b = omega (arith, leb-false p (length b) t) in rw e (stands_end b p k (omega (arith, leb-false p (length b) t)) s))

-- what is stored for name k: the bytes from its place on, or an empty name
pub stands-name : (b : Bytes) (p k : ℕ) → Stands b p k → pascal (get_or (names_of b) k []) ≡ size_at b p ∷ part b (p + 1) (size_at b p)
stands-name b p k s =
    ap (λ (n : Bytes). pascal n) (sym (ap (λ (j : ℕ). get_or (names_of b) j []) (add-zero k)) ∙ sym (get_or-drop k (names_of b) 0 []) ∙ ap (λ (l : List Bytes). get_or l 0 []) s.rest)
    ∙ by (leb (size_at b p) 0)
    (λ e. let z : size_at b p ≡ 0 = omega (arith, leb-true (size_at b p) 0 e) in
    rw z (ap (λ (l : List Bytes). pascal (get_or l 0 [])) (names-gone b p z)))
    (λ e. let h : 0 < size_at b p = leb-false (size_at b p) 0 e in
    ap (λ (l : List Bytes). pascal (get_or l 0 [])) (names-there b p h)
    ∙ ap (λ (n : ℕ). n ∷ part b (p + 1) (size_at b p))
    (length-take-le (size_at b p) (drop (p + 1) b) (simp length-drop (omega (arith, size-inside b p h)))))

-- the walk: a turn, its end
pub walked-turn : (b : Bytes) (p k : ℕ) → 0 < size_at b p → walked b p (suc k) ≡ walked b (p + 1 + size_at b p) k
unfolding walked
walked-turn b p k h = rw (ne_eqb (size_at b p) 0 (λ e. omega arith))

pub walked_stop : (b : Bytes) (p k : ℕ) → size_at b p ≡ 0 → walked b p k ≡ p
unfolding walked
walked_stop b p zero e = refl
walked_stop b p (suc k) e = rw (eq-eqb (size_at b p) 0 e)

pub walked-inside : (b : Bytes) (p k : ℕ) → p ≤ length b → walked b p k ≤ length b
unfolding walked
walked-inside b p zero h = h
walked-inside b p (suc k) h =
    by (eqb (size_at b p) 0)
    (λ e. rw e h)
    (λ e. rw e (walked-inside b (p + 1 + size_at b p) k (size-inside b p (omega (arith, eqb-false (size_at b p) 0 e)))))

pub stands-walked : (b : Bytes) (p k m : ℕ) → Stands b p k → Stands b (walked b p m) (k + m)
unfolding walked
stands-walked b p k zero s = rw add-zero s
stands-walked b p k (suc m) s =
    let n : k + suc m ≡ suc k + m = omega arith in
    by (eqb (size_at b p) 0)
    (λ e. let z = eqb-true (size_at b p) 0 e in
    rw (e, n, ← walked_stop b p m z) (stands-walked b p (suc k) m (stands_stays b p k s z)))
    (λ e. rw (e, n) (stands-walked b (p + 1 + size_at b p) (suc k) m (stands-next b p k s (omega (arith, eqb-false (size_at b p) 0 e)))))

-- a name with its length byte is a part of the table
pub whole_part : (b : Bytes) (p : ℕ) → 0 < size_at b p → take (p + 1 + size_at b p - p) (drop p b) ≡ size_at b p ∷ part b (p + 1) (size_at b p)
whole_part b p h =
    let w = whole-at b p h in
    let n : p + 1 + get_or b p 0 - p ≡ suc (get_or b p 0) = omega arith in
    rw (w.size, n, at_next b p w.start)
