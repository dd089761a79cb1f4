-- What stands at any place after a `put`; so a second one at the same place covers the first, and two that do not meet may change their order.
use mathlib.Core.Path.{◌≡◌, refl, sym, ap, ◌∙◌}
use mathlib.Core.Bool.{Bool, true, false}
use Prim.Native.Nat.{ℕ, ◌+◌, ◌-◌, ◌≤◌}
use native.Mathlib.Omega.{arith}
use lib.Dec.{ltb, leb}
use lib.ListN.{length, get_or}
use lib.Seq.{ext_get_or}
use borrow.Author.Tests.{leb-true, leb-false, ltb-true, ltb-false}
use Rattle.model.specs.Res.{pick, both}
use Rattle.model.specs.Bytes.{Bytes, put}
use Rattle.model.proofs.Res.{both_true}
use Rattle.model.proofs.Bytes.{length-put, get_or-put, get_or-put-before, get_or-put-after}

-- is j one of the n places from i on
abbrev pub within : ℕ → ℕ → ℕ → Bool
within i n j = both (leb i j) (ltb j (i + n))

pub get_or-put-any : (d : Bytes) (i : ℕ) (bs : Bytes) (j : ℕ) → i + length bs ≤ length d
    → get_or (put d i bs) j 0 ≡ pick (within i (length bs) j) (get_or bs (j - i) 0) (get_or d j 0)
get_or-put-any d i bs j h = go (leb i j) refl (ltb j (i + length bs)) refl
  where
    go : (s : Bool) → leb i j ≡ s → (t : Bool) → ltb j (i + length bs) ≡ t → get_or (put d i bs) j 0 ≡ pick (both s t) (get_or bs (j - i) 0) (get_or d j 0)
    go false e t f = get_or-put-before d i bs j (omega arith) (leb-false i j e)
    go true e false f = get_or-put-after d i bs j (omega arith) (ltb-false j (i + length bs) f)
    go true e true f =
        let l = leb-true i j e in
        let k = ltb-true j (i + length bs) f in
        let at : i + (j - i) ≡ j = omega arith in
        ap (λ (x : ℕ). get_or (put d i bs) x 0) (sym at) ∙ get_or-put d i bs (j - i) (omega arith) (omega arith)

pub put_same : (d : Bytes) (i : ℕ) (a b : Bytes) → length a ≡ length b → i + length b ≤ length d → put (put d i a) i b ≡ put d i b
put_same d i a b l h =
    let m = length-put d i a (omega arith) in
    ext_get_or 0 (put (put d i a) i b) (put d i b) (length-put (put d i a) i b (omega arith) ∙ m ∙ sym (length-put d i b h))
    (λ j k.
    get_or-put-any (put d i a) i b j (omega arith)
    ∙ ap (pick (within i (length b) j) (get_or b (j - i) 0)) (get_or-put-any d i a j (omega arith) ∙ ap (λ (n : ℕ). pick (within i n j) (get_or a (j - i) 0) (get_or d j 0)) l)
    ∙ covered (within i (length b) j) (get_or b (j - i) 0) (get_or a (j - i) 0) (get_or d j 0)
    ∙ sym (get_or-put-any d i b j h))
  where
    covered : (t : Bool) (x y z : ℕ) → pick t x (pick t y z) ≡ pick t x z
    covered true x y z = refl
    covered false x y z = refl

pub put-swap : (d : Bytes) (i : ℕ) (a : Bytes) (j : ℕ) (b : Bytes) → i + length a ≤ j → j + length b ≤ length d → put (put d i a) j b ≡ put (put d j b) i a
put-swap d i a j b apart h =
    let m = length-put d i a (omega arith) in
    let n = length-put d j b h in
    ext_get_or 0 (put (put d i a) j b) (put (put d j b) i a)
    (length-put (put d i a) j b (omega arith) ∙ m ∙ sym (length-put (put d j b) i a (omega arith) ∙ n))
    (λ x k.
    get_or-put-any (put d i a) j b x (omega arith)
    ∙ ap (pick (within j (length b) x) (get_or b (x - j) 0)) (get_or-put-any d i a x (omega arith))
    ∙ either_way x (within j (length b) x) refl (within i (length a) x) refl (get_or b (x - j) 0) (get_or a (x - i) 0) (get_or d x 0)
    ∙ sym (get_or-put-any (put d j b) i a x (omega arith) ∙ ap (pick (within i (length a) x) (get_or a (x - i) 0)) (get_or-put-any d j b x h)))
  where
    either_way : (x : ℕ) (s : Bool) → within j (length b) x ≡ s → (t : Bool) → within i (length a) x ≡ t → (u v z : ℕ) → pick s u (pick t v z) ≡ pick t v (pick s u z)
    either_way x false e t f u v z = refl
    either_way x true e false f u v z = refl
    either_way x true e true f u v z =
        let p = both_true (leb j x) (ltb x (j + length b)) e in
        let q = both_true (leb i x) (ltb x (i + length a)) f in
        absurd (omega (arith, leb-true j x p.0, ltb-true x (i + length a) q.1))
