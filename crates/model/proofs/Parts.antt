-- Parts of a slice as the borrow checker has them: `&s[a..e]` is `take (e - a) (drop a s)`, and a `&mut` part comes back by `put_mid`. Assumes nothing.
use Prim.Native.Nat.{ℕ, ◌+◌, ◌-◌, ◌≤◌}
use mathlib.Core.Path.{◌≡◌, ap, sym, ◌∙◌}
use mathlib.Core.List.{List, ◌++◌, append_assoc}
use native.Mathlib.Omega.{arith}
use lib.ListN.{length, take, drop, length-take, length-drop, take-append-drop}
use lib.Seq.{take_all, drop-append-le}
use borrow.Rule.Slice.PartMut.{put_mid}
use Rattle.model.specs.Bytes.{put, over}
use Rattle.model.proofs.Bytes.{over-part, put-over, length_over}

-- `&s[a..]` is `drop a s`
pub tail : (a : ℕ) (xs : List ℕ) → take (length xs - a) (drop a xs) ≡ drop a xs
tail a xs = take_all (length xs - a) (drop a xs) (simp length-drop (omega arith))

-- `w(&mut s[a..a + k])`, where w writes bs over the start of its part, is `put s a bs`
pub put_back : (a k : ℕ) (xs bs : List ℕ) → length bs ≤ k → a + k ≤ length xs → put_mid a k xs (over bs (take k (drop a xs))) ≡ put xs a bs
unfolding over
put_back a k xs bs h h' =
    let m : List ℕ = take k (drop a xs) in
    let r : List ℕ = drop k (drop a xs) in
    let le : length bs ≤ length m = simp (length-take, length-drop) (omega arith) in
    ap (λ (z : List ℕ). take a xs ++ z)
    (append_assoc bs (drop (length bs) m) r
    ∙ ap (λ (z : List ℕ). bs ++ z) (sym (drop-append-le (length bs) m r le) ∙ ap (λ (z : List ℕ). drop (length bs) z) (take-append-drop k (drop a xs))))
    ∙ over-part xs bs a

-- p written at the start, then q by a writer that is lent the part from place a on
pub two-parts : (d o y p q : List ℕ) (a k : ℕ) → o ≡ over p d → length p ≡ a → k ≡ length o - a → y ≡ over q (take k (drop a o)) → a + length q ≤ length d → put_mid a k o y ≡ over (p ++ q) d
two-parts d o y p q a k eo ep ek ey h =
    let l : length o ≡ length d = rw eo (length_over p d (omega arith)) in
    let b : put_mid a k o y ≡ put o a q = rw ey (put_back a k o q (omega arith) (omega arith)) in
    b ∙ rw eo (put-over p d q a ep)
