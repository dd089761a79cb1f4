-- The new tables' lengths: head, hhea and maxp stay as long as they were, and the new offsets fit in the new loca.
use mathlib.Core.Path.{◌≡◌, refl, ◌∙◌}
use mathlib.Core.Bool.{Bool, true, false}
use mathlib.Core.List.{List}
use Prim.Native.Nat.{ℕ, ◌≤◌}
use native.Mathlib.Omega.{arith}
use lib.Dec.{leb}
use lib.ListN.{length, length-append, length-take, length-drop}
use borrow.Author.Tests.{leb-true}
use Rattle.model.specs.Res.{pick}
use Rattle.model.specs.Bytes.{Bytes, put, be32}
use Rattle.model.specs.Glyf.{Width, short, long, size, new_width, new_glyf, new_head, width_bytes}
use Rattle.model.specs.Metrics.{new_hhea}
use Rattle.model.specs.Cut.{new_maxp}
use Rattle.model.proofs.Bytes.{length-put}
use Rattle.glyf.specs.Pieces.{most_offset}
use Rattle.glyf.proofs.Tables.{length-new_glyf-short}

-- the new offsets fit in the new loca
pub offsets_fit : (w : Width) (bs : List Bytes) → w ≡ new_width (size bs) → length (new_glyf w bs) ≤ 4294967295 → length (new_glyf w bs) ≤ most_offset w
offsets_fit long bs e h = h
offsets_fit short bs e h = go (leb (size bs) 131070) refl e
  where
    go : (b : Bool) → leb (size bs) 131070 ≡ b → short ≡ pick b short long → length (new_glyf short bs) ≤ 131070
    go true q f = let l = length-new_glyf-short bs in let m = leb-true (size bs) 131070 q in omega arith
    go false q f = absurd (let z : ◌≡◌ {A = ℕ} 0 1 = cc in omega arith)

pub length-new_head : (w : Width) (head : Bytes) → 52 ≤ length head → length (new_head w head) ≡ length head
length-new_head short head h = let l = length-put head 50 (width_bytes short) h in length-put (put head 50 (width_bytes short)) 8 (be32 0) (omega arith) ∙ l
length-new_head long head h = let l = length-put head 50 (width_bytes long) h in length-put (put head 50 (width_bytes long)) 8 (be32 0) (omega arith) ∙ l

pub length-new_hhea : (hhea : Bytes) (k : ℕ) → 2 ≤ length hhea → length (new_hhea hhea k) ≡ length hhea
length-new_hhea hhea k h = simp (length-append, length-take) (omega arith)

pub length-new_maxp : (maxp : Bytes) (n : ℕ) → 6 ≤ length maxp → length (new_maxp maxp n) ≡ length maxp
length-new_maxp maxp n h = simp length-drop (omega arith)
