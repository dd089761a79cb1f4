-- Tables are parts of the font: those of a font of bytes are of bytes, and step 3 saw that they are long enough.
use mathlib.Core.Path.{◌≡◌, refl, sym, ◌∙◌, subst}
use mathlib.Core.Bool.{Bool, true, false}
use mathlib.Core.Option.{some}
use mathlib.Core.List.{List, [], ◌∷◌}
use Prim.Native.Nat.{ℕ, ◌+◌, ◌<◌}
use native.Mathlib.Omega.{arith}
use lib.Dec.{ltb, eqb, lit<}
use lib.ListN.{get_or, drop, length-take, get_or-eq_default}
use lib.Seq.{get_or-take, get_or-drop}
use borrow.Author.Tests.{ltb-true, ltb-false}
use Rattle.model.specs.Res.{ok, pick}
use Rattle.model.specs.Bytes.{Bytes, holds, part}
use Rattle.model.proofs.Res.{bind_inv, ok_inj}
use Rattle.model.proofs.Must.{must_inv}
use Rattle.model.specs.Font.{Row, Tables, usable, find, must, gather, read, face_start, directory, GLYF, HEAD, HHEA, HMTX, LOCA, MAXP}
use Rattle.theorems.specs.ReadBack.{LongEnough}
use Rattle.theorems.specs.Twice.{AreBytes}

bytes-part : (b : Bytes) (at n : ℕ) → AreBytes b → AreBytes (part b at n)
bytes-part b at n h j = go (ltb j n) refl
  where
    go : (t : Bool) → ltb j n ≡ t → get_or (part b at n) j 0 < 256
    go true e = subst (λ (x : ℕ). x < 256) (sym (get_or-take n (drop at b) j 0 (ltb-true j n e) ∙ get_or-drop at b j 0)) (h (at + j))
    go false e =
        subst (λ (x : ℕ). x < 256) (sym (get_or-eq_default (part b at n) 0 (omega (arith, length-take n (drop at b), ltb-false j n e)))) (lit< tt)

-- a table found in a font of bytes is of bytes
found-bytes : (font : Bytes) (rs : List Row) (t : ℕ) (b : Bytes) → AreBytes font → find t (usable font rs) ≡ some b → AreBytes b
found-bytes font [] t b h e = let z : ◌≡◌ {A = ℕ} 0 1 = cc in absurd (omega arith)
found-bytes font (r ∷ rs) t b h e = go (holds font r.offset r.size) e (found-bytes font rs t b h)
  where
    this : (v : Bool) → pick v (some (part font r.offset r.size)) (find t (usable font rs)) ≡ some b
        → (find t (usable font rs) ≡ some b → AreBytes b) → AreBytes b
    this true d ih = let is : part font r.offset r.size ≡ b = cc in subst AreBytes is (bytes-part font r.offset r.size h)
    this false d ih = ih d

    go : (u : Bool) → find t (pick u ((r.tag, part font r.offset r.size) ∷ usable font rs) (usable font rs)) ≡ some b
        → (find t (usable font rs) ≡ some b → AreBytes b) → AreBytes b
    go true d ih = this (eqb r.tag t) d ih
    go false d ih = ih d

pub record FromBytes (t : Tables) : Type 0 where
  pub long : LongEnough t
  pub hmtx : AreBytes t.hmtx

gather_inv : (font : Bytes) (rs : List Row) (t : Tables) → AreBytes font → gather (usable font rs) ≡ ok t → FromBytes t
unfolding gather
gather_inv font rs t h e =
    let es = usable font rs in
    let s₁ = bind_inv (must 2 0 (find GLYF es)) _ t e in
    let s₂ = bind_inv (must 3 0 (find LOCA es)) _ t s₁.then in
    let s₃ = bind_inv (must 3 52 (find HEAD es)) _ t s₂.then in
    let s₄ = bind_inv (must 3 36 (find HHEA es)) _ t s₃.then in
    let s₅ = bind_inv (must 3 0 (find HMTX es)) _ t s₄.then in
    let s₆ = bind_inv (must 3 6 (find MAXP es)) _ t s₅.then in
    subst FromBytes (ok_inj s₆.then)
    (record {
      long =
          record {
            head = (must_inv 3 52 (find HEAD es) s₃.value s₃.first).1;
            hhea = (must_inv 3 36 (find HHEA es) s₄.value s₄.first).1;
            maxp = (must_inv 3 6 (find MAXP es) s₆.value s₆.first).1;
          };
      hmtx = found-bytes font rs HMTX s₅.value h (must_inv 3 0 (find HMTX es) s₅.value s₅.first).0;
    })

pub read_inv : (font : Bytes) (i : ℕ) (t : Tables) → AreBytes font → read font i ≡ ok t → FromBytes t
unfolding read
read_inv font i t h e =
    let s₁ = bind_inv (face_start font i) _ t e in
    let s₂ = bind_inv (directory font s₁.value) _ t s₁.then in
    gather_inv font s₂.value t h s₂.then
