-- Reading an outline refuses with 3 only; its components are glyphs, fewer than its bytes; more turns than bytes change nothing.
use mathlib.Core.Path.{◌≡◌, refl, sym, ap, ap₂, subst}
use mathlib.Core.Bool.{true}
use mathlib.Core.List.{List, [], ◌∷◌, map}
use mathlib.Core.Logic.{⊎_elim}
use Prim.Native.Nat.{ℕ, zero, suc, ◌+◌, ◌*◌, ◌-◌, ◌≤◌, ◌<◌}
use native.Mathlib.Omega.{arith}
use lib.Dec.{ltb, leb}
use lib.ListN.{length, take, drop, length-take, length-drop}
use lib.Seq.{get_or-take}
use borrow.Author.Tests.{ltb-true, leb-true, lt-leb}
use Rattle.model.specs.Res.{Res, ok, pick, need, map_res, ◌>>◌}
use Rattle.model.specs.Bytes.{Bytes, word16, flag, holds}
use Rattle.model.specs.Font.{Tables}
use Rattle.model.specs.Glyf.{Width, width_of, entry, glyph_bytes}
use Rattle.model.specs.Outline.{Outline, empty, simple, composite, record_size, flags_of, id_of, Records, before, last_of, records, outline, components}
use Rattle.model.specs.Cut.{count, outline_of, parts_of}
use Rattle.model.proofs.Members.{In, clash, in_cons}
use Rattle.model.proofs.Yields.{Yields, yields_ok, yields_refuse, yields_need, yields_pick, yields_bind, yields_map, yields_weaken}

pub id-take : (size : ℕ) (b : Bytes) → 4 ≤ size → id_of (take size b) ≡ id_of b
id-take size b h = ap₂ (λ (x y : ℕ). x * 256 + y) (get_or-take size b 2 0 (omega arith)) (get_or-take size b 3 0 (omega arith))

-- components of a font of n glyphs, read from so many bytes
abbrev pub Few : ℕ → ℕ → List ℕ → Type 0
Few n bytes cs = ((c : ℕ) → In c cs → c < n) × (length cs ≤ bytes)

few-none : (n bytes : ℕ) → Few n bytes []
few-none n bytes = (λ c m. clash m refl, omega arith)

few_cons : (n k bytes x : ℕ) (cs : List ℕ) → x < n → Few n k cs → k < bytes → Few n bytes (x ∷ cs)
few_cons n k bytes x cs h f l = (λ c m. ⊎_elim (λ e. omega (arith, e)) (f.0 c) (in_cons c x cs m), omega (arith, f.1))

abbrev ReadIds : ℕ → Bytes → Records → Type 0
ReadIds n b rs = Few n (length b) (map id_of rs.0)

records_yield : (n turns : ℕ) (b : Bytes) → Yields (ReadIds n b) (records n turns b)
unfolding records
records_yield n zero b = yields_refuse (ReadIds n b)
records_yield n (suc turns) b =
    yields_need P (holds b 0 4) _ (λ h. yields_need P (holds b 0 size) _ (λ _. yields_need P _ _ (λ i.
    yields_pick P (flag 0x0020 (flags_of b)) _ _
    (yields_map (ReadIds n (drop size b)) P (before (take size b)) (records n turns (drop size b)) (records_yield n turns (drop size b))
    (λ rs q. with-id i h (map id_of rs.0) q))
    (yields_ok P (last_of (take size b) (drop size b)) (with-id i h [] (few-none n (length (drop size b))))))))
  where
    size : ℕ
    size = record_size (flags_of b)

    P : Records → Type 0
    P = ReadIds n b

    with-id : ltb (id_of b) n ≡ true → holds b 0 4 ≡ true → (cs : List ℕ) → Few n (length (drop size b)) cs → Few n (length b) (id_of (take size b) ∷ cs)
    with-id i h cs q =
        few_cons n (length (drop size b)) (length b) (id_of (take size b)) cs
        (subst (λ (x : ℕ). x < n) (sym (id-take size b (omega arith))) (ltb-true (id_of b) n i)) q
        (omega (arith, length-drop size b, leb-true (0 + 4) (length b) h))

abbrev pub Parts : ℕ → ℕ → Outline → Type 0
Parts n bytes o = Few n bytes (components o)

pub outline_yield : (n : ℕ) (b : Bytes) → Yields (Parts n (length b)) (outline n b)
unfolding outline
outline_yield n [] = yields_ok (Parts n 0) empty (few-none n 0)
outline_yield n (x ∷ xs) =
    yields_need P (holds b 0 2) _ (λ _. yields_pick P (ltb (word16 b 0) 0x8000) _ _
    (yields_ok P (simple b) (few-none n (length b)))
    (yields_need P (holds b 0 10) _ (λ _.
    yields_bind (ReadIds n (drop 10 b)) P (records n (length b) (drop 10 b)) _ (records_yield n (length b) (drop 10 b))
    (λ r q. yields_ok P (composite (take 10 b) r.0 r.1) (q.0, omega (arith, q.1, length-drop 10 b))))))
  where
    b : Bytes
    b = x ∷ xs

    P : Outline → Type 0
    P = Parts n (length b)

-- a glyph's bytes are a part of glyf
pub bytes_yield : (w : Width) (loca glyf : Bytes) (g : ℕ) → Yields (λ (b : Bytes). length b ≤ length glyf) (glyph_bytes w loca glyf g)
unfolding glyph_bytes
bytes_yield w loca glyf g =
    yields_need _ (leb (at g) (at (suc g))) _ (λ _. yields_need _ (leb (at (suc g)) (length glyf)) _ (λ _.
    yields_ok _ _ (omega (arith, length-take (at (suc g) - at g) (drop (at g) glyf), length-drop (at g) glyf))))
  where
    at : ℕ → ℕ
    at = entry w loca

pub outline_of_yield : (t : Tables) (g : ℕ) → Yields (λ (o : Outline). Few (count t) (length t.glyf) (components o)) (outline_of t g)
unfolding outline_of
outline_of_yield t g =
    yields_bind (λ (b : Bytes). length b ≤ length t.glyf) _ (glyph_bytes (width_of t.head) t.loca t.glyf g) _ (bytes_yield (width_of t.head) t.loca t.glyf g)
    (λ b h. yields_weaken (outline_yield (count t) b) (λ o q. (q.0, omega (arith, q.1))))

pub parts_yield : (t : Tables) (g : ℕ) → Yields (Few (count t) (length t.glyf)) (parts_of t g)
unfolding parts_of
parts_yield t g = yields_map _ _ components (outline_of t g) (outline_of_yield t g) (λ o q. q)

-- more turns than bytes change nothing
pub records-same : (n i j : ℕ) (b : Bytes) → length b ≤ i → length b ≤ j → records n i b ≡ records n j b
unfolding records
records-same n zero zero b h k = refl
records-same n zero (suc j) b h k = rw (lt-leb (0 + 4) (length b) (omega arith))
records-same n (suc i) zero b h k = rw (lt-leb (0 + 4) (length b) (omega arith))
records-same n (suc i) (suc j) b h k =
    ap (λ (m : Res Records). need 3 (holds b 0 4) >> (need 3 (holds b 0 size) >> (need 3 (ltb (id_of b) n)
    >> pick (flag 0x0020 (flags_of b)) (map_res (before (take size b)) m) (ok (last_of (take size b) (drop size b))))))
    (records-same n i j (drop size b) (omega (arith, length-drop size b)) (omega (arith, length-drop size b)))
  where
    size : ℕ
    size = record_size (flags_of b)
