-- Bytes that stand at a place: their parts stand there too, `put` makes them stand, and putting them there again changes nothing.
use Rattle.std.proofs.Common.{◌≡◌, ℕ, ◌+◌, ◌-◌, ◌≤◌, [], ◌++◌, length, take, drop, sym, refl, ap, ◌∙◌, ap₂, append_assoc, append-nil, add-zero, arith, length-append, length-drop, take-append-drop, length-take-le, take-take, drop-drop, take_at, take-add, drop_at}
use Rattle.model.specs.Bytes.{Bytes, part, be16, be32, put, over}
use Rattle.model.proofs.Bytes.{put-put, put-zero, put-over}
use Rattle.construct.specs.Construct.{Stands}

pub stands-left : (out : Bytes) (at : ℕ) (a b : Bytes) → Stands out at (a ++ b) → Stands out at a
stands-left out at a b h =
    let l : length a ≤ length (a ++ b) = simp length-append (omega arith) in
    sym (take-take (length a) (length (a ++ b)) (drop at out) l)
    ∙ ap (λ (z : Bytes). take (length a) z) h ∙ take_at a b (length a) refl

pub stands_right : (out : Bytes) (at : ℕ) (a b : Bytes) → Stands out at (a ++ b) → Stands out (at + length a) b
stands_right out at a b h =
    let x : Bytes = drop at out in
    let l : take (length a) x ≡ a = stands-left out at a b h in
    let s : take (length a) x ++ take (length b) (drop (length a) x) ≡ a ++ b =
    sym (take-add (length a) (length b) x) ∙ ap (λ (n : ℕ). take n x) (sym (length-append a b)) ∙ h in
    ap (λ (z : Bytes). take (length b) z) (sym (drop-drop (length a) at out))
    ∙ sym (drop_at (take (length a) x) (take (length b) (drop (length a) x)) (length a) (ap length l))
    ∙ ap (λ (z : Bytes). drop (length a) z) s ∙ drop_at a b (length a) refl

pub stands-put : (out : Bytes) (at : ℕ) (bs : Bytes) → at ≤ length out → Stands (put out at bs) at bs
unfolding put
stands-put out at bs h =
    ap (λ (z : Bytes). take (length bs) z)
    (ap (λ (z : Bytes). drop at z) (append_assoc (take at out) bs (drop (at + length bs) out))
    ∙ drop_at (take at out) (bs ++ drop (at + length bs) out) at (length-take-le at out h))
    ∙ take_at bs (drop (at + length bs) out) (length bs) refl

-- what stands there already
pub put-stands : (out : Bytes) (at : ℕ) (bs : Bytes) → Stands out at bs → put out at bs ≡ out
unfolding put
put-stands out at bs h =
    append_assoc (take at out) bs (drop (at + length bs) out)
    ∙ ap (λ (z : Bytes). take at out ++ z)
    (ap₂ (λ (y z : Bytes). y ++ z) (sym h) (sym (drop-drop (length bs) at out)) ∙ take-append-drop (length bs) (drop at out))
    ∙ take-append-drop at out

-- nothing put
pub put_nil : (d : Bytes) (i : ℕ) → d ≡ put d i []
unfolding put
put_nil d i = sym (ap₂ (λ (x : Bytes) (n : ℕ). x ++ drop n d) (append-nil (take i d)) (add-zero i) ∙ take-append-drop i d)

-- the next run, at the place where the last one ends
pub put_next : (d a b : Bytes) (i j : ℕ) → i ≤ length d → j ≡ i + length a → put (put d i a) j b ≡ put d i (a ++ b)
put_next d a b i j h e = rw e (put-put d a b i h)

-- a run, and then the one before it
pub put_front : (d a b : Bytes) (i : ℕ) → length a ≡ i → i ≤ length d → over a (put d i b) ≡ over (a ++ b) d
unfolding put over
put_front d a b i e h =
    ap (λ (z : Bytes). a ++ z)
    (ap₂ (λ (n : ℕ) (z : Bytes). drop n z) e (append_assoc (take i d) b (drop (i + length b) d))
    ∙ drop_at (take i d) (b ++ drop (i + length b) d) i (length-take-le i d h))
    ∙ sym (append_assoc a b (drop (i + length b) d))
    ∙ ap (λ (n : ℕ). (a ++ b) ++ drop n d) (ap (λ (n : ℕ). n + length b) (sym e) ∙ sym (length-append a b))

pub length_part : (b : Bytes) (at size : ℕ) → at + size ≤ length b → length (part b at size) ≡ size
length_part b at size h = length-take-le size (drop at b) (simp length-drop (omega arith))

-- a part behind what was put
pub part-put : (d bs : Bytes) (i at size : ℕ) → i ≤ length d → i + length bs ≤ at → part (put d i bs) at size ≡ part d at size
unfolding put
part-put d bs i at size h h' =
    let p : Bytes = take i d ++ bs in
    let n : ℕ = i + length bs in
    let l : length p ≡ n = simp (length-append, length-take-le i d h) in
    let e : at ≡ n + (at - n) = omega arith in
    ap (λ (z : Bytes). take size z)
    (ap (λ (m : ℕ). drop m (p ++ drop n d)) e ∙ sym (drop-drop (at - n) n (p ++ drop n d))
    ∙ ap (λ (z : Bytes). drop (at - n) z) (drop_at p (drop n d) n l) ∙ drop-drop (at - n) n d ∙ ap (λ (m : ℕ). drop m d) (sym e))

-- the header's five numbers, and a record's four
pub puts_5 : (d o₁ o₂ o₃ o₄ o₅ : Bytes) (a b c e f : ℕ) → o₁ ≡ put d 0 (be32 a) → o₂ ≡ put o₁ 4 (be16 b) → o₃ ≡ put o₂ 6 (be16 c)
    → o₄ ≡ put o₃ 8 (be16 e) → o₅ ≡ put o₄ 10 (be16 f) → o₅ ≡ over (be32 a ++ (be16 b ++ (be16 c ++ (be16 e ++ be16 f)))) d
puts_5 d o₁ o₂ o₃ o₄ o₅ a b c e f h₁ h₂ h₃ h₄ h₅ =
    let i₁ = h₁ ∙ put-zero d (be32 a) in
    let i₂ = h₂ ∙ ap (λ (z : Bytes). put z 4 (be16 b)) i₁ ∙ put-over (be32 a) d (be16 b) 4 refl in
    let i₃ = h₃ ∙ ap (λ (z : Bytes). put z 6 (be16 c)) i₂ ∙ put-over (be32 a ++ be16 b) d (be16 c) 6 refl in
    let i₄ = h₄ ∙ ap (λ (z : Bytes). put z 8 (be16 e)) i₃ ∙ put-over (be32 a ++ (be16 b ++ be16 c)) d (be16 e) 8 refl in
    h₅ ∙ ap (λ (z : Bytes). put z 10 (be16 f)) i₄ ∙ put-over (be32 a ++ (be16 b ++ (be16 c ++ be16 e))) d (be16 f) 10 refl

pub puts_4 : (d o₁ o₂ o₃ o₄ : Bytes) (at a b c e : ℕ) → at ≤ length d → o₁ ≡ put d at (be32 a) → o₂ ≡ put o₁ (at + 4) (be32 b)
    → o₃ ≡ put o₂ (at + 8) (be32 c) → o₄ ≡ put o₃ (at + 12) (be32 e) → o₄ ≡ put d at (be32 a ++ (be32 b ++ (be32 c ++ be32 e)))
puts_4 d o₁ o₂ o₃ o₄ at a b c e h h₁ h₂ h₃ h₄ =
    let i₂ = h₂ ∙ ap (λ (z : Bytes). put z (at + 4) (be32 b)) h₁ ∙ put-put d (be32 a) (be32 b) at h in
    let i₃ = h₃ ∙ ap (λ (z : Bytes). put z (at + 8) (be32 c)) i₂ ∙ put-put d (be32 a ++ be32 b) (be32 c) at h in
    h₄ ∙ ap (λ (z : Bytes). put z (at + 12) (be32 e)) i₃ ∙ put-put d (be32 a ++ (be32 b ++ be32 c)) (be32 e) at h
