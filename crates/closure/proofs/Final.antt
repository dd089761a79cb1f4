-- The whole: the requests, then all turns, are the walk; and that it is the model's walk of a font's tables.
use Rattle.std.proofs.Common.{◌≡◌, refl, sym, ap, ◌∙◌, subst, false, List, [], ◌∷◌, reverse, ℕ, ◌+◌, ◌*◌, ◌≤◌, arith, length, drop, eq-eqb, ne_eqb, Result, Ok, Err}
use Rattle.model.specs.Res.{Res, refuse, ok, map_res, ◌>>=◌}
use Rattle.model.specs.Bytes.{Bytes}
use Rattle.model.specs.Font.{Tables}
use Rattle.model.specs.Glyf.{Width, short, long, width_of, glyphs, glyph_bytes}
use Rattle.model.specs.Outline.{outline, components}
use Rattle.model.specs.Walk.{Walk, going, kept, refused, run, begin, ended, walk}
use Rattle.model.specs.Cut.{count, outline_of, parts_of, closure}
use Rattle.model.proofs.Res.{ok_inj, ok-refuse}
use Rattle.model.proofs.Thin.{run_t, Done, run-done, run_t_done, Alike, ids}
use Rattle.model.proofs.Start.{thin}
use Rattle.model.proofs.Yields.{yields_bind, yields_map, yields_weaken}
use Rattle.model.proofs.Outlines.{Few, Parts, outline_yield, bytes_yield}
use Rattle.model.proofs.Closure.{few-ids, widths-few}
use Rattle.glyf.specs.Pieces.{length_at}
use Rattle.remapper.specs.Scratch.{started, Sweepable}
use Rattle.remapper.specs.State.{Walking, Rostered, Counts}
use Rattle.answer.specs.declared.Refusal.{Refusal}
use Rattle.answer.specs.declared.Refusal.TheVariants.{MalformedFont}
use Rattle.remapper.proofs.Fills.{walking-started, past-started}
use Rattle.remapper.proofs.Clears.{walking_sweepable}
use Rattle.closure.specs.Closes.{parts_in, walk_in, Offsets, totals, Closes}
use Rattle.closure.specs.Turns.{Summed, Ends, Ran, asks, Numbered}
use Rattle.closure.specs.declared.Kept.{Kept}
use Rattle.closure.proofs.Requests.{begun, seed-asks}

-- before the requests
pub started_walks : (n : ℕ) (s s₁ : List ℕ) → (n ≡ 0 → ⊥) → n ≤ 65536 → 4 * n ≤ length s → s₁ ≡ started n s → Walking n s₁ (0 ∷ []) []
started_walks n s s₁ some few size e = subst (λ (t : List ℕ). Walking n t (0 ∷ []) []) (sym e) (walking-started n s (omega arith) size few)

-- a walk that ends, and alike by moving to the top; the sums are over its roster
module _ (parts : ℕ → Res (List ℕ)) (lengths : ℕ → ℕ) (turns n : ℕ) (qs : List ℕ) (alike : Alike parts turns (begin n qs)) (small : n ≤ 65536) where
  closes : (s s' : List ℕ) (a : Result Kept Refusal) (v : Walk) → run parts turns (begin n qs) ≡ v → Ends lengths n s' a v → drop (4 * n) s' ≡ drop (4 * n) s
      → Closes lengths (walk turns n parts qs) n s s' a
  unfolding walk
  closes s s' a v e f p = subst (λ v. Closes lengths (ended v) n s s' a) (sym e) (go a v f)
    where
      total : (k even raw : ℕ) (r : List ℕ) → k ≡ length r → Summed lengths r even raw → ok (k, even, raw) ≡ ok (totals lengths r)
      total k even raw r e z = rw (e, z.is_even, z.is_raw)

      go : (a : Result Kept Refusal) (v : Walk) → Ends lengths n s' a v → Closes lengths (ended v) n s s' a
      go (Ok k) (going r st) f = absurd f
      go (Ok k) (kept r) f = record { answer = total k.kept k.even k.raw r f.1 f.2; scratch = λ r' q. subst (Rostered n s') (ok_inj q) f.0.rostered; sweepable = λ r' q. subst (λ (r : List ℕ). Sweepable n s' (length r) false) (ok_inj q) (walking_sweepable n s' r small f.0); past = p }
      go (Ok k) (refused j) f = absurd f
      go (Err e) (going r st) f = absurd f
      go (Err e) (kept r) f = absurd f
      go (Err e) (refused j) f = record { answer = ap refuse f; scratch = λ r q. ok-refuse (sym q); sweepable = λ r q. ok-refuse (sym q); past = p }

  closes-none : n ≡ 0 → (s : List ℕ) → Closes lengths (walk turns n parts qs) n s s (Err MalformedFont)
  closes-none e s = closes s s (Err MalformedFont) (refused 3) (ap (run parts turns) none ∙ run-done parts turns (refused 3) tt) refl refl
    where
      none : begin n qs ≡ refused 3
      none = unfold begin in rw (eq-eqb n 0 e)

  module _ (some : n ≡ 0 → ⊥) (s : List ℕ) (size : 4 * n ≤ length s) (s₁ : List ℕ) (is-s₁ : s₁ ≡ started n s) (s₂ : List ℕ) where
    past₁ : drop (4 * n) s₁ ≡ drop (4 * n) s
    past₁ = ap (drop (4 * n)) is-s₁ ∙ past-started n s (omega arith) size

    -- from the requests on
    whole : (m : Res (List ℕ)) → asks n (0 ∷ []) qs ≡ m → run parts turns (begin n qs) ≡ run_t parts turns (begun m)
    whole m e = alike.0 ∙ ap (run_t parts turns) (first ∙ ap begun e)
      where
        first : begin n qs ≡ begun (asks n (0 ∷ []) qs)
        first = unfold begin in rw (ne_eqb n 0 some) (seed-asks n (0 ∷ []) qs)

    closes-no : (e : Refusal) → Numbered n qs s₁ s₂ (Err e) → Closes lengths (walk turns n parts qs) n s s₂ (Err e)
    closes-no e v = go (asks n (0 ∷ []) qs) refl v.counts
      where
        go : (m : Res (List ℕ)) → asks n (0 ∷ []) qs ≡ m → Counts n s₂ (Err e) m → Closes lengths (walk turns n parts qs) n s s₂ (Err e)
        go (ok r) q c = absurd c
        go (refuse j) q c = closes s s₂ (Err e) (refused j) (whole (refuse j) q ∙ run_t_done parts turns (refused j) tt) c (v.past ∙ past₁)

    closes-run : (count : ℕ) (s₃ : List ℕ) (a : Result Kept Refusal) → Numbered n qs s₁ s₂ (Ok count) → Ran parts lengths n s₂ s₃ count a → Closes lengths (walk turns n parts qs) n s s₃ a
    closes-run count s₃ a v t = go (asks n (0 ∷ []) qs) refl v.counts
      where
        go : (m : Res (List ℕ)) → asks n (0 ∷ []) qs ≡ m → Counts n s₂ (Ok count) m → Closes lengths (walk turns n parts qs) n s s₃ a
        go (refuse j) e c = absurd c
        go (ok r) e c =
            let same = whole (ok r) e in
            closes s s₃ a (run_t parts turns (going r (reverse r))) same (t.ends r c.0 c.1 turns (subst Done same alike.1)) (t.past ∙ v.past ∙ past₁)

-- the walk over loca and glyf is one: components are glyphs, and fewer than glyf's bytes
module _ (w : Width) (n : ℕ) (loca glyf : Bytes) where
  parts-few : (g : ℕ) → Few n (length glyf) (ids (parts_in w n loca glyf g))
  unfolding parts_in
  parts-few g =
      few-ids n (length glyf) (map_res components (glyph_bytes w loca glyf g >>= λ b. outline n b))
      (yields_map (Parts n (length glyf)) (Few n (length glyf)) components (glyph_bytes w loca glyf g >>= λ b. outline n b)
      (yields_bind (λ (b : Bytes). length b ≤ length glyf) (Parts n (length glyf)) (glyph_bytes w loca glyf g) (λ b. outline n b) (bytes_yield w loca glyf g)
      (λ b h. yields_weaken (outline_yield n b) (λ o q. (q.0, omega (arith, q.1)))))
      (λ o q. q))

  alike_in : (qs : List ℕ) → Alike (parts_in w n loca glyf) (2 + length qs + n * length glyf) (begin n qs)
  alike_in qs =
      thin (2 + length qs + n * length glyf) n (parts_in w n loca glyf) qs (λ g h c m. (parts-few g).0 c m)
      (omega (arith, widths-few n (length glyf) (parts_in w n loca glyf) (λ g. (parts-few g).1)))

-- THEOREM. It is the model's walk
pub walk_in_lem : (t : Tables) (qs : List ℕ) → closure t qs ≡ walk_in (width_of t.head) (count t) t.loca t.glyf qs
unfolding closure parts_of outline_of walk_in parts_in
walk_in_lem t qs = refl

-- n is small, and loca has the offsets of n glyphs
pub glyphs-small : (w : Width) (loca : Bytes) → glyphs w loca ≤ 65536
glyphs-small w loca = omega arith

pub glyphs-offsets : (w : Width) (loca : Bytes) → Offsets w (glyphs w loca) loca
glyphs-offsets short loca h = omega arith
glyphs-offsets long loca h = omega arith

-- and so it is the walk over loca and glyf
module _ (w : Width) (n : ℕ) (loca glyf : Bytes) (qs : List ℕ) (small : n ≤ 65536) where
  pub over-none : n ≡ 0 → (s : List ℕ) → Closes (length_at w n loca glyf) (walk_in w n loca glyf qs) n s s (Err MalformedFont)
  unfolding walk_in
  over-none = closes-none (parts_in w n loca glyf) (length_at w n loca glyf) (2 + length qs + n * length glyf) n qs (alike_in w n loca glyf qs) small

  module _ (some : n ≡ 0 → ⊥) (s : List ℕ) (size : 4 * n ≤ length s) (s₁ : List ℕ) (is-s₁ : s₁ ≡ started n s) (s₂ : List ℕ) where
    pub over-no : (e : Refusal) → Numbered n qs s₁ s₂ (Err e) → Closes (length_at w n loca glyf) (walk_in w n loca glyf qs) n s s₂ (Err e)
    unfolding walk_in
    over-no = closes-no (parts_in w n loca glyf) (length_at w n loca glyf) (2 + length qs + n * length glyf) n qs (alike_in w n loca glyf qs) small some s size s₁ is-s₁ s₂

    pub over-run : (count : ℕ) (s₃ : List ℕ) (a : Result Kept Refusal) → Numbered n qs s₁ s₂ (Ok count) → Ran (parts_in w n loca glyf) (length_at w n loca glyf) n s₂ s₃ count a
        → Closes (length_at w n loca glyf) (walk_in w n loca glyf qs) n s s₃ a
    unfolding walk_in
    over-run = closes-run (parts_in w n loca glyf) (length_at w n loca glyf) (2 + length qs + n * length glyf) n qs (alike_in w n loca glyf qs) small some s size s₁ is-s₁ s₂
