-- head: its bytes 8 to 11 and 50 to 51 do not meet, so the last width written is the one read, and a second cut covers the first.
use mathlib.Core.Path.{◌≡◌, refl, ap, ◌∙◌}
use mathlib.Core.List.{[], ◌∷◌}
use Prim.Native.Nat.{ℕ, ◌≤◌}
use native.Mathlib.Omega.{arith}
use lib.Dec.{eqb, lit<}
use lib.ListN.{length}
use Rattle.model.specs.Res.{pick}
use Rattle.model.specs.Bytes.{Bytes, be32, put}
use Rattle.model.proofs.Bytes.{length-put, word16-put, word16-put-after}
use Rattle.model.proofs.Puts.{put_same, put-swap}
use Rattle.model.specs.Glyf.{Width, short, long, width_of, width_bytes, new_head}

length-width : (w : Width) → length (width_bytes w) ≡ 2
length-width short = refl
length-width long = refl

module _ (b : Bytes) (h : 52 ≤ length b) where
  length_50 : (w : Width) → length (put b 50 (width_bytes w)) ≡ length b
  length_50 w = length-put b 50 (width_bytes w) (omega (arith, length-width w))

  pub length-new_head : (w : Width) → length (new_head w b) ≡ length b
  length-new_head w = length-put (put b 50 (width_bytes w)) 8 (0 ∷ 0 ∷ 0 ∷ 0 ∷ []) (omega (arith, length_50 w)) ∙ length_50 w

  width-put : (w : Width) → width_of (put b 50 (width_bytes w)) ≡ w
  width-put short = ap (λ (n : ℕ). pick (eqb n 0) short long) (word16-put b 50 0 (lit< tt) (omega arith))
  width-put long = ap (λ (n : ℕ). pick (eqb n 0) short long) (word16-put b 50 1 (lit< tt) (omega arith))

  -- the width that was written is read, before the adjustment and after it
  pub width-new : (w : Width) → width_of (new_head w b) ≡ w
  width-new w =
      ap (λ (n : ℕ). pick (eqb n 0) short long)
      (word16-put-after (put b 50 (width_bytes w)) 8 (0 ∷ 0 ∷ 0 ∷ 0 ∷ []) 50 (omega (arith, length_50 w)) (omega arith))
      ∙ width-put w

  pub width-back : (w : Width) (x : ℕ) → width_of (put (new_head w b) 8 (be32 x)) ≡ w
  width-back w x =
      ap (λ (n : ℕ). pick (eqb n 0) short long) (word16-put-after (new_head w b) 8 (be32 x) 50 (omega (arith, length-new_head w)) (omega arith)) ∙ width-new w

  pub head-twice : (w v : Width) (x : ℕ) → new_head v (put (new_head w b) 8 (be32 x)) ≡ new_head v b
  head-twice w v x =
      let z : Bytes = 0 ∷ 0 ∷ 0 ∷ 0 ∷ [] in
      let c = put b 50 (width_bytes w) in
      let l = length_50 w in
      let k = length-width v in
      let n : length (put c 50 (width_bytes v)) ≡ length c = length-put c 50 (width_bytes v) (omega arith) in
      ap (λ (y : Bytes). new_head v y) (put_same c 8 z (be32 x) refl (omega arith))
      ∙ ap (λ (y : Bytes). put y 8 z) (put-swap c 8 (be32 x) 50 (width_bytes v) (omega arith) (omega arith))
      ∙ put_same (put c 50 (width_bytes v)) 8 (be32 x) z refl (omega arith)
      ∙ ap (λ (y : Bytes). put y 8 z) (put_same b 50 (width_bytes w) (width_bytes v) (omega (arith, length-width w)) (omega arith))
