-- Lengths added up: a glyph more, before or behind the others, adds its length; and sums of lengths below 2^32 are small.
use Rattle.std.proofs.Common.{◌≡◌, refl, sym, ap, ap₂, ◌∙◌, List, [], ◌∷◌, ◌++◌, map, ⊎_elim, ℕ, ◌+◌, ◌*◌, ◌%◌, ◌≤◌, ◌<◌, arith, mul-suc, length}
use Rattle.model.specs.Bytes.{sum}
use Rattle.model.specs.Glyf.{short}
use Rattle.glyf.specs.Pieces.{raised_to}
use Rattle.closure.specs.Turns.{OneMore, Summed}

module _ (f : ℕ → ℕ) where
  sum-behind : (gs : List ℕ) (g : ℕ) → sum (map f (gs ++ (g ∷ []))) ≡ sum (map f gs) + f g
  sum-behind [] g = omega arith
  sum-behind (x ∷ gs) g = omega (arith, sum-behind gs g)

  sum_more : (lengths : ℕ → ℕ) (before after : List ℕ) (kept : ℕ) (m : OneMore lengths before after kept) → sum (map f after) ≡ sum (map f before) + f m.g
  sum_more lengths before after kept m =
      ⊎_elim (λ e. ap (λ (l : List ℕ). sum (map f l)) e ∙ front) (λ e. ap (λ (l : List ℕ). sum (map f l)) e ∙ sum-behind before m.g) m.at
    where
      front : f m.g + sum (map f before) ≡ sum (map f before) + f m.g
      front = omega arith

  sum-small : (k : ℕ) → ((g : ℕ) → f g ≤ k) → (gs : List ℕ) → sum (map f gs) ≤ k * length gs
  sum-small k h [] = omega arith
  sum-small k h (g ∷ gs) = rw (mul-suc k (length gs)) (omega (arith, h g, sum-small k h gs))

module _ (lengths : ℕ → ℕ) where
  pub summed_none : Summed lengths [] 0 0
  summed_none = record { is_even = refl; is_raw = refl }

  pub summed_more : (before after : List ℕ) (kept even raw : ℕ) → OneMore lengths before after kept → Summed lengths before even raw
      → Summed lengths after (even + (kept + kept % 2)) (raw + kept)
  summed_more before after kept even raw m z =
      record {
        is_even =
            ap₂ (λ (x y : ℕ). x + raised_to short y) z.is_even m.size
            ∙ sym (sum_more (λ (g : ℕ). raised_to short (lengths g)) lengths before after kept m);
        is_raw = ap₂ (λ (x y : ℕ). x + y) z.is_raw m.size ∙ sym (sum_more lengths lengths before after kept m);
      }

  pub summed_small : ((g : ℕ) → lengths g < 4294967296) → (gs : List ℕ) (even raw : ℕ) → Summed lengths gs even raw
      → (even ≤ 4294967296 * length gs) × (raw ≤ 4294967296 * length gs)
  summed_small h gs even raw z = (
    omega (arith, z.is_even, sum-small (λ (g : ℕ). raised_to short (lengths g)) 4294967296 (λ g. omega (arith, h g)) gs),
    omega (arith, z.is_raw, sum-small lengths 4294967296 (λ g. omega (arith, h g)) gs),
  )
