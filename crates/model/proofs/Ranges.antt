-- What a range of the slice is given is what is put there.
use Rattle.std.proofs.Common.{◌≡◌, ℕ, ◌+◌, ◌-◌, ◌≤◌, List, length, replicate, take, drop, ◌++◌, ap, sym, ◌∙◌, append_assoc, arith, length-drop}
use Rattle.std.proofs.lemmas.List.{length-replicate}
use lib.Seq.{drop-drop, length-take-le}
use native.Mathlib.Nat.{add-sub_cancel_left}
use borrow.Rule.Slice.PartMut.{put_mid}
use Rattle.model.specs.Bytes.{put}

pub placed : (a n : ℕ) (xs ys new : List ℕ) → ys ≡ new → n ≡ length new → put_mid a (a + n - a) xs ys ≡ put xs a new
unfolding put
placed a n xs ys new e l = rw (add-sub_cancel_left a n, l, e) (ap (λ (r : List ℕ). take a xs ++ (new ++ r)) (drop-drop (length new) a xs) ∙ sym (append_assoc (take a xs) new _))

-- a range filled with v: so many of it are put there
pub filled : (a n v : ℕ) (xs ys : List ℕ) → a + n ≤ length xs → ys ≡ replicate (length (take (a + n - a) (drop a xs))) v → put_mid a (a + n - a) xs ys ≡ put xs a (replicate n v)
filled a n v xs ys h e = placed a n xs ys (replicate n v) (e ∙ ap (λ (k : ℕ). replicate k v) many) (sym (length-replicate {A = ℕ} n v))
  where
    many : length (take (a + n - a) (drop a xs)) ≡ n
    many = length-take-le (a + n - a) (drop a xs) (omega (arith, length-drop a xs)) ∙ omega arith
