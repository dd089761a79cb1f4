-- Bytes put over a part of what was put before.
use Rattle.std.proofs.Common.{◌≡◌, refl, sym, ap, ap₂, ◌∙◌, [], ◌++◌, append_assoc, append-nil, ℕ, ◌+◌, ◌-◌, ◌≤◌, arith, add_assoc, add-zero, add-sub_of_le, length, take, drop, length-append, length-take, length-drop, take-append-drop, length-take-le, drop-drop, take-add}
use lib.Seq.{take-append-add, take-append-le, drop-append-add, drop-append-le}
use borrow.Rule.Slice.PartMut.{put_mid}
use Rattle.model.specs.Bytes.{Bytes, put, part}
use Rattle.model.proofs.Bytes.{length-put}
use Rattle.glyf.specs.Pieces.{Placed}

-- behind x, a put reaches only k; inside r, only r
put-behind : (x k y : Bytes) (q : ℕ) → put (x ++ k) (length x + q) y ≡ x ++ put k q y
unfolding put
put-behind x k y q =
    ap₂ (λ (a b : Bytes). a ++ y ++ b) (take-append-add x k q)
    (ap (λ (m : ℕ). drop m (x ++ k)) (add_assoc (length x) q (length y)) ∙ drop-append-add x k (q + length y))
    ∙ simp append_assoc

put-inside : (r k y : Bytes) (q : ℕ) → q + length y ≤ length r → put (r ++ k) q y ≡ put r q y ++ k
unfolding put
put-inside r k y q h =
    ap₂ (λ (a b : Bytes). a ++ y ++ b) (take-append-le q r k (omega arith)) (drop-append-le (q + length y) r k h)
    ∙ simp append_assoc

put_is : (d x : Bytes) (at : ℕ) → take at d ++ x ++ drop (at + length x) d ≡ put d at x
unfolding put
put_is d x at = refl

put-parts : (d x : Bytes) (at : ℕ) → put d at x ≡ take at d ++ (x ++ drop (at + length x) d)
put-parts d x at = sym (put_is d x at) ∙ append_assoc (take at d) x (drop (at + length x) d)

-- a put inside what was put
put_in : (d x y : Bytes) (at q : ℕ) → at + length x ≤ length d → q + length y ≤ length x → put (put d at x) (at + q) y ≡ put d at (put x q y)
put_in d x y at q h k =
    ap₂ (λ (m : ℕ) (z : Bytes). put z (m + q) y) (sym e) (put-parts d x at)
    ∙ put-behind (take at d) (x ++ drop (at + length x) d) y q
    ∙ ap (λ (z : Bytes). take at d ++ z) (put-inside x (drop (at + length x) d) y q k)
    ∙ sym (append_assoc (take at d) (put x q y) (drop (at + length x) d))
    ∙ ap (λ (m : ℕ). take at d ++ put x q y ++ drop (at + m) d) (sym (length-put x q y k))
    ∙ put_is d (put x q y) at
  where
    e : length (take at d) ≡ at
    e = length-take-le at d (omega arith)

-- a put in the part from place a on, which is lent and comes back
pub put-lent : (a k q : ℕ) (xs z y : Bytes) → a ≤ length xs → q + length y ≤ length z → put_mid a k xs (put z q y) ≡ put (put_mid a k xs z) (a + q) y
put-lent a k q xs z y h l =
    ap (λ (r : Bytes). take a xs ++ r) (sym (put-inside z (drop k (drop a xs)) y q l))
    ∙ sym (put-behind (take a xs) (z ++ drop k (drop a xs)) y q)
    ∙ ap (λ (m : ℕ). put (put_mid a k xs z) (m + q) y) (length-take-le a xs h)

pub put-part : (a q : ℕ) (xs y : Bytes) → a + q + length y ≤ length xs
    → put_mid a (length xs - a) xs (put (take (length xs - a) (drop a xs)) q y) ≡ put xs (a + q) y
put-part a q xs y h =
    put-lent a k q xs (take k (drop a xs)) y (omega arith) (simp (length-take, length-drop) (omega arith))
    ∙ ap (λ (z : Bytes). put z (a + q) y) (ap (λ (r : Bytes). take a xs ++ r) (take-append-drop k (drop a xs)) ∙ take-append-drop a xs)
  where
    k : ℕ
    k = length xs - a

-- the record r behind `done` gets y at its place q
pub put_record : (d done r k y : Bytes) (at p q : ℕ) → length done ≡ p → at + length (done ++ (r ++ k)) ≤ length d → q + length y ≤ length r
    → put (put d at (done ++ (r ++ k))) (at + p + q) y ≡ put d at ((done ++ put r q y) ++ k)
put_record d done r k y at p q e h l =
    ap (λ (m : ℕ). put (put d at (done ++ (r ++ k))) m y) (add_assoc at p q)
    ∙ put_in d (done ++ (r ++ k)) y at (p + q) h (simp length-append (omega arith))
    ∙ ap (λ (m : ℕ). put d at (put (done ++ (r ++ k)) (m + q) y)) (sym e)
    ∙ ap (put d at) (put-behind done (r ++ k) y q ∙ ap (λ (z : Bytes). done ++ z) (put-inside r k y q l) ∙ sym (append_assoc done (put r q y) k))

-- what is left of the first `kept` bytes at a place: the record there, and what is left behind it
pub part-split : (b : Bytes) (at next kept : ℕ) → at ≤ next → next ≤ kept → part b at (kept - at) ≡ part b at (next - at) ++ part b next (kept - next)
part-split b at next kept h k =
    ap (λ (m : ℕ). take m (drop at b)) e
    ∙ take-add (next - at) (kept - next) (drop at b)
    ∙ ap (λ (l : Bytes). take (next - at) (drop at b) ++ take (kept - next) l) (drop-drop (next - at) at b ∙ ap (λ (m : ℕ). drop m b) (add-sub_of_le h))
  where
    e : kept - at ≡ next - at + (kept - next)
    e = omega arith

-- nothing put
pub put-nothing : (d : Bytes) (at : ℕ) → put d at [] ≡ d
unfolding put
put-nothing d at = ap₂ (λ (a b : Bytes). a ++ b) (append-nil (take at d)) (ap (λ (m : ℕ). drop m d) (add-zero at)) ∙ take-append-drop at d

pub placed-nothing : (d bytes : Bytes) (at : ℕ) → bytes ≡ [] → Placed d d at at bytes
placed-nothing d bytes at e =
    record {
      is-put = sym (ap (put d at) e ∙ put-nothing d at);
      behind = sym (ap (λ (l : Bytes). at + length l) e ∙ add-zero at);
    }
