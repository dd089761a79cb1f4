-- A directory that was written is read back: its rows follow from the tables' tags and lengths alone, and each row leads to its table.
use mathlib.Core.Path.{◌≡◌, refl, sym, ap, ap₂, ◌∙◌}
use mathlib.Core.Bool.{Bool, true}
use mathlib.Core.List.{List, [], ◌∷◌, ◌++◌, append_assoc}
use Prim.Native.Nat.{ℕ, ◌+◌, ◌*◌, ◌-◌, ◌%◌, ◌<◌}
use native.Mathlib.Omega.{arith}
use lib.Dec.{ltb}
use lib.ListN.{length, take, drop, replicate, length-append, length-replicate}
use lib.Seq.{take_at, drop_at}
use borrow.Author.Tests.{le-leb, ltb-true}
use Rattle.model.specs.Res.{ok}
use Rattle.model.specs.Bytes.{Bytes, word16, part, pad4, all}
use Rattle.model.proofs.Res.{need-ok, pick_true, both_true}
use Rattle.model.proofs.Bytes.{word16-be16, word32-be32}
use Rattle.model.specs.Font.{Entry, Row, rows, ascending, usable, face_start, directory}
use Rattle.model.specs.File.{rows_from, bodies, directory_of}

-- tag and length of each table
abbrev Sizes : Type 0
Sizes = List (ℕ × ℕ)

abbrev pub sizes : List Entry → Sizes
sizes [] = []
sizes (e ∷ es) = (e.0, length e.1) ∷ sizes es

abbrev pub up4 : ℕ → ℕ
up4 n = n + (4 - n % 4) % 4

abbrev pub rows_of : ℕ → Sizes → List Row
rows_of at [] = []
rows_of at (s ∷ ss) = record { tag = s.0; offset = at; size = s.1 } ∷ rows_of (at + up4 s.1) ss

abbrev pub total : Sizes → ℕ
total [] = 0
total (s ∷ ss) = up4 s.1 + total ss

-- tags of 32 bits
abbrev pub tags : Sizes → Bool
tags ss = all (λ s. ltb s.0 4294967296) ss

length-pad4 : (b : Bytes) → length (pad4 b) ≡ up4 (length b)
length-pad4 b = length-append b _ ∙ ap (λ (n : ℕ). length b + n) (length-replicate ((4 - length b % 4) % 4) 0)

pub length-bodies : (es : List Entry) → length (bodies es) ≡ total (sizes es)
length-bodies [] = refl
length-bodies (e ∷ es) = length-append (pad4 e.1) (bodies es) ∙ ap₂ (λ (a b : ℕ). a + b) (length-pad4 e.1) (length-bodies es)

rows_back : (at : ℕ) (es : List Entry) (r : Bytes) → tags (sizes es) ≡ true → at + total (sizes es) < 4294967296
    → rows (length es) (rows_from at es ++ r) ≡ rows_of at (sizes es)
rows_back at [] r t h = refl
rows_back at (e ∷ es) r t h =
    let q = both_true (ltb e.0 4294967296) (tags (sizes es)) t in
    ap₂ (λ (x : Row) (xs : List Row). x ∷ xs)
    (λ i.
    record {
      tag = word32-be32 e.0 [] (ltb-true e.0 4294967296 q.0) i;
      offset = word32-be32 at [] (omega arith) i;
      size = word32-be32 (length e.1) [] (omega arith) i;
    })
    (ap (λ (n : ℕ). rows (length es) (rows_from (at + n) es ++ r)) (length-pad4 e.1) ∙ rows_back (at + up4 (length e.1)) es r q.1 (omega arith))

usable-back : (p : Bytes) (es : List Entry) (font : Bytes) → font ≡ p ++ bodies es → usable font (rows_of (length p) (sizes es)) ≡ es
usable-back p [] font e = refl
usable-back p (x ∷ es) font e =
    let b = x.1 in
    let zeros : Bytes = replicate ((4 - length b % 4) % 4) 0 in
    let l = ap length e ∙ length-append p (pad4 b ++ bodies es) in
    let m = length-append (pad4 b) (bodies es) in
    let content : part font (length p) (length b) ≡ b =
    ap (λ (f : Bytes). part f (length p) (length b)) e
    ∙ ap (take (length b)) (drop_at p (pad4 b ++ bodies es) (length p) refl ∙ append_assoc b zeros (bodies es))
    ∙ take_at b (zeros ++ bodies es) (length b) refl in
    pick_true _ _ _ (le-leb (length p + length b) (length font) (omega (arith, length-pad4 b)))
    (ap₂ (λ (c : Bytes) (cs : List Entry). (x.0, c) ∷ cs) content
    (ap (λ (n : ℕ). usable font (rows_of n (sizes es))) (ap (λ (n : ℕ). length p + n) (sym (length-pad4 b)) ∙ sym (length-append p (pad4 b)))
    ∙ usable-back (p ++ pad4 b) es font (e ∙ sym (append_assoc p (pad4 b) (bodies es)))))

length_rows_from : (at : ℕ) (es : List Entry) → length (rows_from at es) ≡ 16 * length es
length_rows_from at [] = refl
length_rows_from at (e ∷ es) = omega (arith, length_rows_from (at + length (pad4 e.1)) es)

length-directory : (es : List Entry) → length (directory_of es) ≡ 12 + 16 * length es
unfolding directory_of
length-directory es = omega (arith, length_rows_from (12 + 16 * length es) es)

-- a directory of es before tables of the same tags and lengths
module _ (es fs : List Entry) (alike : sizes fs ≡ sizes es) (tagged : tags (sizes es) ≡ true) (few : length es < 65536)
    (fits : length (directory_of es ++ bodies fs) < 4294967296) (up : ascending (rows_of (12 + 16 * length es) (sizes es)) ≡ true) where
  abbrev font : Bytes
  font = directory_of es ++ bodies fs

  abbrev base : ℕ
  base = 12 + 16 * length es

  length-font : length font ≡ base + total (sizes es)
  length-font =
      length-append (directory_of es) (bodies fs) ∙ ap₂ (λ (a b : ℕ). a + b) (length-directory es) (length-bodies fs ∙ ap total alike)

  pub face_read : (i : ℕ) → face_start font i ≡ ok 0
  unfolding face_start directory_of
  face_read i = need-ok _ _ _ (le-leb (0 + 4) (length font) (omega (arith, length-font))) refl

  count-read : word16 font (0 + 4) ≡ length es
  unfolding directory_of
  count-read = word16-be16 (length es) [] few

  rows-read : rows (length es) (drop (0 + 12) font) ≡ rows_of base (sizes es)
  unfolding directory_of
  rows-read = rows_back base es (bodies fs) tagged (omega (arith, length-font))

  pub directory-read : directory font 0 ≡ ok (rows_of base (sizes es))
  unfolding directory
  directory-read =
      rw count-read
      (rw rows-read
      (need-ok _ _ _ (le-leb (0 + 12) (length font) (omega (arith, length-font)))
      (need-ok _ _ _ (le-leb (0 + 12 + 16 * length es) (length font) (omega (arith, length-font)))
      (need-ok _ _ _ up refl))))

  pub usable-read : usable font (rows_of base (sizes es)) ≡ fs
  usable-read = rw (← length-directory es, ← alike) (usable-back (directory_of es) fs font refl)
