-- Bytes put one behind the other are put together; a roster's rows grow by one at each turn.
use mathlib.Core.Path.{◌≡◌, refl, sym, ap, ◌∙◌}
use mathlib.Core.List.{List, [], ◌∷◌, ◌++◌, append-nil, append_assoc}
use Prim.Native.Nat.{ℕ, zero, suc, ◌+◌, ◌≤◌, ◌<◌}
use native.Mathlib.Omega.{arith}
use native.Mathlib.Nat.{add-zero, zero-add, not-suc-le-zero}
use native.Mathlib.Numerals.{add-one}
use lib.ListN.{length, take, drop, get_or, set, length-append}
use lib.Seq.{set_split}
use lib.ListN.{take-append-drop}
use Rattle.model.specs.Bytes.{Bytes, put}
use Rattle.model.proofs.Bytes.{put-put}
use Rattle.lines.specs.Print.{decimal, row, rows, Puts}
use Rattle.lines.proofs.Width.{decimal-short}

pub put_byte : (d : Bytes) (i b : ℕ) → i < length d → set d i b ≡ put d i (b ∷ [])
unfolding put
put_byte d i b h = set_split d i b h ∙ rw add-one (sym (append_assoc (take i d) (b ∷ []) (drop (suc i) d)))

-- two writers, one behind the other
pub puts_both : (d o o' x y : Bytes) (at m r : ℕ) → at ≤ length d → Puts d at x m o → Puts o m y r o' → Puts d at (x ++ y) r o'
puts_both d o o' x y at m r h p q =
    (q.0 ∙ rw (p.0, p.1) (put-put d x y at h), omega (arith, p.1, q.1, length-append x y))

-- a number and its end byte
pub number_short : (n e : ℕ) → n ≤ 65535 → length (decimal n ++ (e ∷ [])) ≤ 6
number_short n e h = rw (length-append (decimal n) (e ∷ [])) (omega (arith, decimal-short n h))

pub rows-turn : (new : ℕ) (ids : List ℕ) (j : ℕ) → j < length ids → rows new (take (suc j) ids) ≡ rows new (take j ids) ++ row (new + j) (get_or ids j 0)
unfolding rows
rows-turn new [] j h = absurd (not-suc-le-zero h)
rows-turn new (g ∷ gs) zero h = rw add-zero (append-nil (row new g))
rows-turn new (g ∷ gs) (suc j) h =
    let e : suc new + j ≡ new + suc j = omega arith in
    ap (λ x. row new g ++ x) (rows-turn (suc new) gs j (omega (arith, h)) ∙ rw e refl) ∙ sym (append_assoc (row new g) _ _)

-- the rows' writer: a turn
pub rows-put : (d o o' : Bytes) (ids : List ℕ) (at m r j : ℕ) → at ≤ length d → j < length ids → Puts d at (rows 0 (take j ids)) m o
    → Puts o m (row j (get_or ids j 0)) r o' → Puts d at (rows 0 (take (j + 1) ids)) r o'
rows-put d o o' ids at m r j h l p q =
    rw (add-one, rows-turn 0 ids j l, zero-add) (puts_both d o o' (rows 0 (take j ids)) (row j (get_or ids j 0)) at m r h p q)

pub rows_none : (d : Bytes) (at : ℕ) (ids : List ℕ) → Puts d at (rows 0 (take 0 ids)) at d
unfolding put rows
rows_none d at ids = (rw (append-nil, add-zero) (sym (take-append-drop at d)), sym (add-zero at))
