-- A glyph's bytes and its outline, by what the code's answers say of them.
use Rattle.std.proofs.Common.{◌≡◌, refl, sym, ap, ◌∙◌, subst, Bool, true, false, List, [], ◌∷◌, ◌++◌, map, Option, None, Some, ℕ, suc, ◌+◌, ◌-◌, ◌≤◌, arith, ltb, leb, eqb, length, take, drop, length-append, length-drop, length-take-le, leb-true, ne_eqb}
use Rattle.model.specs.Res.{Res, refuse, ok, pick, need, map_res, value_of, ◌>>=◌, ◌>>◌}
use Rattle.model.specs.Bytes.{Bytes, word16, holds, part, concat}
use Rattle.model.specs.Glyf.{Width, entry, glyph_bytes}
use Rattle.model.specs.Outline.{Outline, empty, simple, composite, outline, Records, records, components, renumber_record, renumber, written}
use Rattle.model.proofs.Outline.{KeptOf, records-kept}
use Rattle.outline.specs.Places.{span_at, span_of, Within, shape_of, rest, ids_from, end_from, kept_length}
use Rattle.outline.specs.declared.Span.{Span}
use Rattle.outline.specs.declared.Shape.{Shape}
use Rattle.outline.specs.declared.Shape.TheVariants.{Empty, Simple, Composite}
use Rattle.outline.proofs.Records.{map-map}

-- the span says what the model reads
pub span_reads : (w : Width) (loca glyf : Bytes) (g : ℕ) → span_of glyf (span_at w loca glyf g) ≡ glyph_bytes w loca glyf g
unfolding span_at glyph_bytes
span_reads w loca glyf g = go (leb (entry w loca g) (entry w loca (suc g))) (leb (entry w loca (suc g)) (length glyf))
  where
    go : (up in-glyf : Bool)
        → span_of glyf (pick up (pick in-glyf (Some (record { start = entry w loca g; end = entry w loca (suc g) })) None) None)
        ≡ (need 3 up >> (need 3 in-glyf >> ok (part glyf (entry w loca g) (entry w loca (suc g) - entry w loca g))))
    go false in-glyf = refl
    go true false = refl
    go true true = refl

abbrev WithinOf : Bytes → Option Span → Type 0
WithinOf glyf (Some s) = Within glyf s
WithinOf glyf None = Unit {0}

pub span_within : (w : Width) (loca glyf : Bytes) (g : ℕ) {s : Span} → span_at w loca glyf g ≡ Some s → Within glyf s
unfolding span_at
span_within w loca glyf g e = subst (WithinOf glyf) e (go (leb (entry w loca g) (entry w loca (suc g))) (leb (entry w loca (suc g)) (length glyf)) refl refl)
  where
    go : (up in-glyf : Bool) → leb (entry w loca g) (entry w loca (suc g)) ≡ up → leb (entry w loca (suc g)) (length glyf) ≡ in-glyf
        → WithinOf glyf (pick up (pick in-glyf (Some (record { start = entry w loca g; end = entry w loca (suc g) })) None) None)
    go false in-glyf e f = tt
    go true false e f = tt
    go true true e f = record { up = leb-true (entry w loca g) (entry w loca (suc g)) e; inside = leb-true (entry w loca (suc g)) (length glyf) f }

-- the outline, by its shape
unfoldable pub outline_by : ℕ → Bytes → Option Shape → Res Outline
outline_by n b (Some Empty) = ok empty
outline_by n b (Some Simple) = ok (simple b)
outline_by n b (Some Composite) = map_res (λ (r : Records). composite (take 10 b) r.0 r.1) (rest n b 10)
outline_by n b None = refuse 3

bind_map : {A B : Type 0} (f : A → B) (m : Res A) → (m >>= λ (a : A). ok (f a)) ≡ map_res f m
bind_map f (refuse k) = refl
bind_map f (ok a) = refl

pub outline-by : (n : ℕ) (b : Bytes) → outline n b ≡ outline_by n b (shape_of b)
unfolding outline shape_of outline_by rest
outline-by n [] = refl
outline-by n (x ∷ xs) =
    go (holds b 0 2) (ltb (word16 b 0) 0x8000) (holds b 0 10)
    ∙ ap (λ (t : Bool). outline_by n b (pick t (Some Empty) (pick (holds b 0 2) (pick (ltb (word16 b 0) 0x8000) (Some Simple) (pick (holds b 0 10) (Some Composite) None)) None)))
    (sym (ne_eqb (length b) 0 (λ h. omega arith)))
  where
    b : Bytes
    b = x ∷ xs

    go : (two plain ten : Bool)
        → (need 3 two >> pick plain (ok (simple b)) (need 3 ten >> (records n (length b) (drop 10 b) >>= λ (r : Records). ok (composite (take 10 b) r.0 r.1))))
        ≡ outline_by n b (pick two (pick plain (Some Simple) (pick ten (Some Composite) None)) None)
    go false plain ten = refl
    go true true ten = refl
    go true false false = refl
    go true false true = bind_map (λ (r : Records). composite (take 10 b) r.0 r.1) (records n (length b) (drop 10 b))

-- a composite's header is there
TenOf : Bytes → Option Shape → Type 0
TenOf b (Some Empty) = Unit {0}
TenOf b (Some Simple) = Unit {0}
TenOf b (Some Composite) = 10 ≤ length b
TenOf b None = Unit {0}

pub composite_ten : (b : Bytes) → shape_of b ≡ Some Composite → 10 ≤ length b
unfolding shape_of TenOf
composite_ten b e = subst (TenOf b) e (go (eqb (length b) 0) (holds b 0 2) (ltb (word16 b 0) 0x8000) (holds b 0 10) refl)
  where
    go : (none two plain ten : Bool) → holds b 0 10 ≡ ten → TenOf b (pick none (Some Empty) (pick two (pick plain (Some Simple) (pick ten (Some Composite) None)) None))
    go true two plain ten e = tt
    go false false plain ten e = tt
    go false true true ten e = tt
    go false true false false e = tt
    go false true false true e = omega (arith, leb-true (0 + 10) (length b) e)

-- its components, by its shape
unfoldable pub parts_by : ℕ → Bytes → Option Shape → Res (List ℕ)
parts_by n b (Some Empty) = ok []
parts_by n b (Some Simple) = ok []
parts_by n b (Some Composite) = ids_from n b 10
parts_by n b None = refuse 3

pub parts_of_lem : (n : ℕ) (b : Bytes) → map_res components (outline n b) ≡ parts_by n b (shape_of b)
unfolding outline_by parts_by ids_from
parts_of_lem n b = ap (map_res components) (outline-by n b) ∙ go (shape_of b)
  where
    go : (s : Option Shape) → map_res components (outline_by n b s) ≡ parts_by n b s
    go (Some Empty) = refl
    go (Some Simple) = refl
    go (Some Composite) = map-map (λ (r : Records). composite (take 10 b) r.0 r.1) components (rest n b 10)
    go None = refl

-- how much of it is kept, by its shape
unfoldable pub kept_by : ℕ → Bytes → Option Shape → ℕ
kept_by n b (Some Empty) = 0
kept_by n b (Some Simple) = length b
kept_by n b (Some Composite) = value_of 0 (end_from n b 10)
kept_by n b None = 0

pub kept_by_lem : (n : ℕ) (b : Bytes) → kept_length n b ≡ kept_by n b (shape_of b)
unfolding kept_length
kept_by_lem n b = ap (λ m. value_of 0 (map_res (λ (o : Outline). length (written o)) m)) (outline-by n b) ∙ go (shape_of b) (composite_ten b)
  where
    each-length : (m : Res Records) → 10 ≤ length b
        → map_res (λ (o : Outline). length (written o)) (map_res (λ (r : Records). composite (take 10 b) r.0 r.1) m)
        ≡ map_res (λ (r : Records). 10 + length (concat r.0 ++ r.1)) m
    each-length (refuse k) h = refl
    each-length (ok r) h = ap ok (simp (length-append, length-take-le 10 b h))

    go : (s : Option Shape) → (s ≡ Some Composite → 10 ≤ length b) → value_of 0 (map_res (λ (o : Outline). length (written o)) (outline_by n b s)) ≡ kept_by n b s
    go (Some Empty) h = unfold outline_by in unfold kept_by in refl
    go (Some Simple) h = unfold outline_by in unfold kept_by in refl
    go (Some Composite) h = unfold outline_by in unfold kept_by in unfold end_from in ap (value_of 0) (each-length (rest n b 10) (h refl))
    go None h = unfold outline_by in unfold kept_by in refl

-- new numbers don't change how much is kept, and it is no more than there is
module _ (n : ℕ) (b : Bytes) where
  pub kept-renumbered : (new : ℕ → ℕ)
      → map_res (λ (o : Outline). length (written (renumber new o))) (outline n b) ≡ map_res (λ (o : Outline). length (written o)) (outline n b)
  kept-renumbered new =
      rw (outline-by n b) (go (shape_of b))
    where
      same : (m : Res Records) → KeptOf new (drop 10 b) m
          → map_res (λ (o : Outline). length (written (renumber new o))) (map_res (λ (r : Records). composite (take 10 b) r.0 r.1) m)
          ≡ map_res (λ (o : Outline). length (written o)) (map_res (λ (r : Records). composite (take 10 b) r.0 r.1) m)
      same (refuse k) h = refl
      same (ok rs) h =
          let e : length (take 10 b ++ (concat (map (renumber_record new) rs.0) ++ rs.1)) ≡ length (take 10 b ++ (concat rs.0 ++ rs.1)) =
          rw (length-append (take 10 b) (concat (map (renumber_record new) rs.0) ++ rs.1), length-append (take 10 b) (concat rs.0 ++ rs.1), h.same) in
          ap ok e

      go : (s : Option Shape) → map_res (λ (o : Outline). length (written (renumber new o))) (outline_by n b s) ≡ map_res (λ (o : Outline). length (written o)) (outline_by n b s)
      go (Some Empty) = unfold outline_by in refl
      go (Some Simple) = unfold outline_by in refl
      go (Some Composite) = unfold outline_by in unfold rest in same (records n (length b) (drop 10 b)) (records-kept n (length b) new (drop 10 b))
      go None = unfold outline_by in refl

  pub end_within : 10 ≤ length b → value_of 0 (end_from n b 10) ≤ length b
  end_within h = unfold end_from in unfold rest in go (records n (length b) (drop 10 b)) (records-kept n (length b) (λ x. x) (drop 10 b))
    where
      go : (m : Res Records) → KeptOf (λ x. x) (drop 10 b) m → value_of 0 (map_res (λ (r : Records). 10 + length (concat r.0 ++ r.1)) m) ≤ length b
      go (refuse k) h = omega arith
      go (ok rs) k = omega (arith, h, simp length-drop at k.within)

  pub kept-within : kept_length n b ≤ length b
  kept-within = rw (kept_by_lem n b) (go (shape_of b) (composite_ten b))
    where
      go : (s : Option Shape) → (s ≡ Some Composite → 10 ≤ length b) → kept_by n b s ≤ length b
      go (Some Empty) h = unfold kept_by in omega arith
      go (Some Simple) h = unfold kept_by in omega arith
      go (Some Composite) h = unfold kept_by in end_within (h refl)
      go None h = unfold kept_by in omega arith
