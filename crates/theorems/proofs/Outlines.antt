-- An outline that was read is read back from its own bytes, zeros behind it or not; so is the renumbered one,
-- and renumbering it once more is renumbering by the composition.
use mathlib.Core.Path.{◌≡◌, refl, sym, ap, ◌∙◌, subst}
use mathlib.Core.Bool.{Bool, true, false}
use mathlib.Core.List.{List, [], ◌∷◌, ◌++◌, map, append_assoc, append-nil}
use Prim.Native.Nat.{ℕ, ◌+◌, ◌%◌, ◌≤◌, ◌<◌}
use native.Mathlib.Omega.{arith}
use lib.Dec.{ltb}
use lib.ListN.{length, take, drop, replicate, length-append, length-replicate}
use lib.Seq.{take_at, drop_at, length-take-le}
use borrow.Author.Tests.{le-leb, lt-ltb, le-ltb, ltb-true, ltb-false, leb-true}
use Rattle.model.specs.Res.{ok, pick, need, ◌>>=◌, ◌>>◌}
use Rattle.model.specs.Bytes.{Bytes, word16, be16, holds, pad2, concat}
use Rattle.model.proofs.Res.{Under, need-ok, bind_ok, pick_true, pick_false, need_inv, bind_inv, ok_inj}
use Rattle.model.proofs.Words.{word16-take}
use Rattle.model.specs.Outline.{Outline, empty, simple, composite, id_of, records, outline, components, renumber_record, renumber, written}
use Rattle.model.specs.Glyf.{Width, short, long, padded}
use Rattle.theorems.specs.Outlines.{RenumberTwice}
use Rattle.model.proofs.Chosen.{all_under}
use Rattle.theorems.proofs.Records.{Chain, keeps, Chained, chain_back, chained, keeps-renumber, renumbers}

-- What the reader accepts in a font of n glyphs
abbrev Good : ℕ → Outline → Type 0
Good n empty = Unit {0}
Good n (simple b) = (2 ≤ length b) × (word16 b 0 < 0x8000)
Good n (composite h rs t) = (length h ≡ 10) × (0x8000 ≤ word16 h 0) × Chained n rs t

outline-good : (n : ℕ) (b : Bytes) (o : Outline) → outline n b ≡ ok o → Good n o
unfolding outline
outline-good n [] o e = subst (Good n) (ok_inj e) tt
outline-good n (x ∷ xs) o e =
    let b = x ∷ xs in
    let s = need_inv 3 (holds b 0 2) _ o e in
    go b (ltb (word16 b 0) 0x8000) refl (leb-true (0 + 2) (length b) s.0) s.1
  where
    go : (b : Bytes) (t : Bool) → ltb (word16 b 0) 0x8000 ≡ t → 0 + 2 ≤ length b
        → pick t (ok (simple b)) (need 3 (holds b 0 10) >> (records n (length b) (drop 10 b) >>= λ r. ok (composite (take 10 b) r.0 r.1))) ≡ ok o
        → Good n o
    go b true q h d = subst (Good n) (ok_inj d) (omega arith, ltb-true (word16 b 0) 0x8000 q)
    go b false q h d =
        let s₁ = need_inv 3 (holds b 0 10) _ o d in
        let s₂ = bind_inv (records n (length b) (drop 10 b)) _ o s₁.1 in
        let first = word16-take 10 b 0 (omega arith) in
        subst (Good n) (ok_inj s₂.then) (
          length-take-le 10 b (leb-true (0 + 10) (length b) s₁.0),
          omega (arith, ltb-false (word16 b 0) 0x8000 q),
          chained n (length b) (drop 10 b) s₂.value s₂.first,
        )

-- bytes p behind an outline: a simple one takes them, a composite if its last record says so
abbrev extend : Bytes → Outline → Outline
extend p empty = empty
extend p (simple b) = simple (b ++ p)
extend p (composite h rs t) = composite h rs (pick (keeps rs) (t ++ p) [])

length-chain : (n : ℕ) (rs : List Bytes) → Chain n rs → length rs ≤ length (concat rs)
length-chain n [] w = absurd w
length-chain n (r ∷ []) w = omega (arith, w.0.0, length-append r [])
length-chain n (r ∷ s ∷ rs) w = omega (arith, w.0.0, length-append r (concat (s ∷ rs)), length-chain n (s ∷ rs) w.2)

-- an outline that was read is read back from its bytes
outline-back : (n : ℕ) (p : Bytes) (o : Outline) → Good n o → (o ≡ empty → p ≡ []) → outline n (written o ++ p) ≡ ok (extend p o)
unfolding outline
outline-back n p empty g e = ap (outline n) (e refl)
outline-back n p (simple []) g e = absurd (omega (arith, g.0))
outline-back n p (simple (x ∷ [])) g e = absurd (omega (arith, g.0))
outline-back n p (simple (x ∷ y ∷ b)) g e =
    need-ok _ _ _ (le-leb (0 + 2) (length (x ∷ y ∷ (b ++ p))) (omega arith)) (pick_true _ _ _ (lt-ltb (word16 (x ∷ y ∷ b) 0) 0x8000 g.1) refl)
outline-back n p (composite [] rs t) g e = absurd (omega (arith, g.0))
outline-back n p (composite (x ∷ []) rs t) g e = absurd (omega (arith, g.0))
outline-back n p (composite (x ∷ y ∷ h) rs t) g e =
    let c = t ++ p in
    let b : Bytes = x ∷ y ∷ (h ++ (concat rs ++ c)) in
    let l = length-append h (concat rs ++ c) in
    let m = length-append (concat rs) c in
    ap (outline n) (append_assoc (x ∷ y ∷ h) (concat rs ++ t) p ∙ ap (λ (z : Bytes). x ∷ y ∷ (h ++ z)) (append_assoc (concat rs) t p))
    ∙ need-ok _ _ _ (le-leb (0 + 2) (length b) (omega arith))
    (pick_false _ _ _ (le-ltb (word16 (x ∷ y ∷ h) 0) 0x8000 g.1)
    (need-ok _ _ _ (le-leb (0 + 10) (length b) (omega (arith, g.0)))
    (bind_ok _ _
    (ap (records n (length b)) (drop_at (x ∷ y ∷ h) (concat rs ++ c) 10 g.0)
    ∙ chain_back n (length b) rs c g.2.0 (omega (arith, length-chain n rs g.2.0)))
    (ap (λ (z : Bytes). ok (composite z rs (pick (keeps rs) c []))) (take_at (x ∷ y ∷ h) (concat rs ++ c) 10 g.0)))))

-- Outlines under new ids
tail-renumber : (n : ℕ) (f : ℕ → ℕ) (rs : List Bytes) (t : Bytes) → Chained n rs t → t ≡ pick (keeps (map (renumber_record f) rs)) t []
tail-renumber n f rs t c = c.1 ∙ ap (λ (k : Bool). pick k t []) (sym (keeps-renumber n f rs c.0))

renumber-extend : (n : ℕ) (p : Bytes) (f : ℕ → ℕ) (o : Outline) → Good n o → renumber f (extend p o) ≡ extend p (renumber f o)
renumber-extend n p f empty g = refl
renumber-extend n p f (simple b) g = refl
renumber-extend n p f (composite h rs t) g =
    ap (λ (k : Bool). composite h (map (renumber_record f) rs) (pick k (t ++ p) [])) (sym (keeps-renumber n f rs g.2.0))

module _ (n m : ℕ) (f : ℕ → ℕ) (small : m ≤ 65536) where
  good-renumber : (o : Outline) → Good n o → Under m (map f (components o)) → Good m (renumber f o)
  good-renumber empty g u = tt
  good-renumber (simple b) g u = g
  good-renumber (composite h rs t) g u = (g.0, g.1, ((renumbers n m f small rs g.2.0 u).chain, tail-renumber n f rs t g.2))

  components-extend : (p : Bytes) (o : Outline) → Good n o → Under m (map f (components o)) → components (extend p (renumber f o)) ≡ map f (components o)
  components-extend p empty g u = refl
  components-extend p (simple b) g u = refl
  components-extend p (composite h rs t) g u = (renumbers n m f small rs g.2.0 u).ids

  renumber-renumber : (g : ℕ → ℕ) (o : Outline) → Good n o → Under m (map f (components o)) → renumber g (renumber f o) ≡ renumber (λ x. g (f x)) o
  renumber-renumber g empty d u = refl
  renumber-renumber g (simple b) d u = refl
  renumber-renumber g (composite h rs t) d u = ap (λ (l : List Bytes). composite h l t) ((renumbers n m f small rs d.2.0 u).twice g)

pub renumber_twice : RenumberTwice
renumber_twice n b o f g e a = renumber-renumber n 65536 f (omega arith) g o (outline-good n b o e) (all_under 65536 (map f (components o)) a)

-- the length of an outline does not depend on the ids
length-records : (f g : ℕ → ℕ) (rs : List Bytes) → length (concat (map (renumber_record f) rs)) ≡ length (concat (map (renumber_record g) rs))
length-records f g [] = refl
length-records f g (r ∷ rs) =
    let x = be16 (f (id_of r)) ++ drop 4 r in
    let y = be16 (g (id_of r)) ++ drop 4 r in
    omega (
      arith,
      length-append (take 2 r ++ x) (concat (map (renumber_record f) rs)),
      length-append (take 2 r ++ y) (concat (map (renumber_record g) rs)),
      length-append (take 2 r) x,
      length-append (take 2 r) y,
      length-records f g rs,
    )

pub length-renumber : (f g : ℕ → ℕ) (o : Outline) → length (written (renumber f o)) ≡ length (written (renumber g o))
length-renumber f g empty = refl
length-renumber f g (simple b) = refl
length-renumber f g (composite h rs t) =
    let x = concat (map (renumber_record f) rs) in
    let y = concat (map (renumber_record g) rs) in
    omega (arith, length-append h (x ++ t), length-append h (y ++ t), length-append x t, length-append y t, length-records f g rs)

-- Padding. What a width adds behind an outline's bytes
zeros_of : Width → Bytes → Bytes
zeros_of short b = replicate (length b % 2) 0
zeros_of long b = []

padded-is : (w : Width) (b : Bytes) → padded w b ≡ b ++ zeros_of w b
unfolding zeros_of
padded-is short b = refl
padded-is long b = sym (append-nil b)

pub length-pad2 : (b : Bytes) → length (pad2 b) ≡ length b + length b % 2
length-pad2 b = length-append b _ ∙ ap (λ (k : ℕ). length b + k) (length-replicate (length b % 2) 0)

pad2-pad2 : (b : Bytes) → pad2 (pad2 b) ≡ pad2 b
pad2-pad2 b =
    ap (λ (k : ℕ). pad2 b ++ replicate k 0) (ap (λ (k : ℕ). k % 2) (length-pad2 b) ∙ even (length b)) ∙ append-nil (pad2 b)
  where
    even : (n : ℕ) → (n + n % 2) % 2 ≡ 0
    even n = omega arith

padded-more : (w : Width) (b c : Bytes) → length c ≡ length b → padded w (b ++ zeros_of w c) ≡ padded w b
unfolding zeros_of
padded-more short b c l = ap (λ (k : ℕ). pad2 (b ++ replicate (k % 2) 0)) l ∙ pad2-pad2 b
padded-more long b c l = append-nil b

-- zeros written behind an outline vanish in the padding, or are dropped
padded-extend : (n : ℕ) (w : Width) (f : ℕ → ℕ) (o : Outline) (c : Bytes) → Good n o → length c ≡ length (written (renumber f o))
    → padded w (written (extend (zeros_of w c) (renumber f o))) ≡ padded w (written (renumber f o))
padded-extend n w f empty c g l = refl
padded-extend n w f (simple b) c g l = padded-more w b c l
padded-extend n w f (composite h rs t) c g l = go (keeps (map (renumber_record f) rs)) (tail-renumber n f rs t g.2)
  where
    rs' : Bytes
    rs' = concat (map (renumber_record f) rs)

    z : Bytes
    z = zeros_of w c

    go : (k : Bool) → t ≡ pick k t [] → padded w (h ++ (rs' ++ pick k (t ++ z) [])) ≡ padded w (h ++ (rs' ++ t))
    go true e =
        ap (padded w) (ap (λ (y : Bytes). h ++ y) (sym (append_assoc rs' t z)) ∙ sym (append_assoc h (rs' ++ t) z)) ∙ padded-more w (h ++ (rs' ++ t)) c l
    go false e = ap (λ (y : Bytes). padded w (h ++ (rs' ++ y))) (sym e)

-- An outline that was read, written with new ids f, padded in width w, and is read again among m glyphs
pub record Again (w : Width) (m : ℕ) (f : ℕ → ℕ) (o : Outline) : Type 0 where
  pub found : Outline
  pub reads : outline m (padded w (written (renumber f o))) ≡ ok found
  pub parts : components found ≡ map f (components o)
  pub writes : (g : ℕ → ℕ) → padded w (written (renumber g found)) ≡ padded w (written (renumber (λ x. g (f x)) o))

empty-zeros : (w : Width) (f : ℕ → ℕ) (o : Outline) → renumber f o ≡ empty → zeros_of w (written (renumber f o)) ≡ []
unfolding zeros_of
empty-zeros short f o e = ap (λ (o : Outline). zeros_of short (written o)) e
empty-zeros long f o e = refl

pub again : (w : Width) (n m : ℕ) (f : ℕ → ℕ) (b : Bytes) (o : Outline) → m ≤ 65536 → outline n b ≡ ok o → Under m (map f (components o)) → Again w m f o
again w n m f b o small e u =
    let good = outline-good n b o e in
    let new = good-renumber n m f small o good u in
    let c = written (renumber f o) in
    let p = zeros_of w c in
    record {
      found = extend p (renumber f o);
      reads = ap (outline m) (padded-is w c) ∙ outline-back m p (renumber f o) new (empty-zeros w f o);
      parts = components-extend n m f small p o good u;
      writes =
          λ g.
          ap (λ (o : Outline). padded w (written o)) (renumber-extend m p g (renumber f o) new ∙ ap (extend p) (renumber-renumber n m f small g o good u))
          ∙ padded-extend n w (λ x. g (f x)) o c good (length-renumber f (λ x. g (f x)) o);
    }
