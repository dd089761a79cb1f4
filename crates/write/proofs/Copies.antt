-- Copying by blocks: blocks one behind the other are one block, and a last block may cover what was copied before.
use mathlib.Core.Path.{◌≡◌, sym, ap, ap₂, ◌∙◌}
use mathlib.Core.List.{List, [], ◌∷◌}
use Prim.Native.Nat.{ℕ, suc, ◌+◌, ◌-◌, ◌≤◌}
use native.Mathlib.Omega.{arith}
use native.Mathlib.Nat.{add-sub_of_le}
use lib.ListN.{length, get_or, set, take, drop, length-take, length-drop, take-append-drop}
use lib.Seq.{length-take-le, take_all, take-add, drop-drop, drop-cons, sets-eq}
use Rattle.model.specs.Bytes.{Bytes, part, put}
use Rattle.model.proofs.Bytes.{length-put, put-put}
use Rattle.model.proofs.Puts.{put_same}

-- four bytes, one by one
pub part-four : (s : Bytes) (i : ℕ) → i + 4 ≤ length s
    → get_or s i 0 ∷ get_or s (i + 1) 0 ∷ get_or s (i + 2) 0 ∷ get_or s (i + 3) 0 ∷ [] ≡ part s i 4
part-four s i h =
    sym
    (ap (take 4)
    (one i (i + 1) (omega arith) (omega arith)
    ∙ ap {B = List ℕ} (λ r. get_or s i 0 ∷ r) (one (i + 1) (i + 2) (omega arith) (omega arith))
    ∙ ap {B = List ℕ} (λ r. get_or s i 0 ∷ get_or s (i + 1) 0 ∷ r) (one (i + 2) (i + 3) (omega arith) (omega arith))
    ∙ ap {B = List ℕ} (λ r. get_or s i 0 ∷ get_or s (i + 1) 0 ∷ get_or s (i + 2) 0 ∷ r) (one (i + 3) (i + 4) (omega arith) (omega arith))))
  where
    one : (j m : ℕ) → suc j ≡ m → m ≤ length s → ◌≡◌ {A = List ℕ} (drop j s) (get_or s j 0 ∷ drop m s)
    one j m e l = drop-cons s j 0 (omega arith) ∙ ap {B = List ℕ} (λ k. get_or s j 0 ∷ drop k s) e

pub four_puts : (d b : Bytes) (at : ℕ) → length b ≡ 4 → at + 4 ≤ length d
    → set (set (set (set d at (get_or b 0 0)) (at + 1) (get_or b 1 0)) (at + 2) (get_or b 2 0)) (at + 3) (get_or b 3 0) ≡ put d at b
unfolding put
four_puts d b at e h =
    let bs = get_or b 0 0 ∷ get_or b 1 0 ∷ get_or b 2 0 ∷ get_or b 3 0 ∷ [] in
    let same : bs ≡ b = part-four b 0 (omega arith) ∙ take_all 4 b (omega arith) in
    let one : at + 1 ≡ suc at = omega arith in
    let two : at + 2 ≡ suc (suc at) = omega arith in
    let three : at + 3 ≡ suc (suc (suc at)) = omega arith in
    rw (one, two, three) (sets-eq bs d at h ∙ ap (λ (x : Bytes). put d at x) same)

-- a block behind the first i bytes, and behind another block
pub put-more : (d s : Bytes) (at i b : ℕ) → at ≤ length d → i ≤ length s → put (put d at (take i s)) (at + i) (part s i b) ≡ put d at (take (i + b) s)
put-more d s at i b h k =
    ap (λ (m : ℕ). put (put d at (take i s)) (at + m) (part s i b)) (sym (length-take-le i s k))
    ∙ put-put d (take i s) (part s i b) at h
    ∙ ap (put d at) (sym (take-add i b s))

pub put-parts : (d s : Bytes) (at i a b : ℕ) → at ≤ length d → i + a ≤ length s → put (put d at (part s i a)) (at + a) (part s (i + a) b) ≡ put d at (part s i (a + b))
put-parts d s at i a b h k =
    ap (λ (x : Bytes). put (put d at (part s i a)) (at + a) (take b x)) (sym (drop-drop a i s))
    ∙ put-more d (drop i s) at a b h (omega (arith, length-drop i s))

-- bytes put over fewer of them
put_cover : (d a b : Bytes) (i : ℕ) → length a ≤ length b → i + length b ≤ length d → put (put d i a) i b ≡ put d i b
put_cover d a b i h k =
    let front = take (length a) b in
    let back = drop (length a) b in
    let size : length front ≡ length a = length-take-le (length a) b h in
    let same = length-put d i a (omega arith) in
    ap (put (put d i a) i) (sym (take-append-drop (length a) b))
    ∙ sym (put-put (put d i a) front back i (omega arith))
    ∙ ap (λ (x : Bytes). put x (i + length front) back) (put_same d i a front (sym size) (omega arith))
    ∙ put-put d front back i (omega arith)
    ∙ ap (put d i) (take-append-drop (length a) b)

-- the last block, after the first i bytes
pub put_last : (d s : Bytes) (at i j k p : ℕ) → j + k ≡ length s → j ≤ i → i ≤ length s → at + length s ≤ length d → p ≡ at + j
    → put (put d at (take i s)) p (part s j k) ≡ put d at s
put_last d s at i j k p all under most room is =
    let front = take j s in
    let size : length front ≡ j = length-take-le j s (omega arith) in
    let middle = take (i - j) (drop j s) in
    let short : length middle ≤ length (drop j s) = omega (arith, length-take (i - j) (drop j s)) in
    let same = length-put d at front (omega arith) in
    let rest = length-drop j s in
    ap₂ (λ (x y : Bytes). put (put d at x) p y)
    (ap (λ (m : ℕ). take m s) (sym (add-sub_of_le under)) ∙ take-add j (i - j) s)
    (take_all k (drop j s) (omega arith))
    ∙ ap₂ (λ (x : Bytes) (m : ℕ). put x m (drop j s)) (sym (put-put d front middle at (omega arith))) (is ∙ ap (λ (m : ℕ). at + m) (sym size))
    ∙ put_cover (put d at front) middle (drop j s) (at + length front) short (omega arith)
    ∙ put-put d front (drop j s) at (omega arith)
    ∙ ap (put d at) (take-append-drop j s)
