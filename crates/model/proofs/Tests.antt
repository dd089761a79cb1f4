-- Two tests that hold together are one test.
use mathlib.Core.Path.{◌≡◌, refl, sym}
use mathlib.Core.Bool.{Bool, true, false}
use Prim.Native.Nat.{ℕ, ◌≤◌, ◌<◌}
use lib.Dec.{ltb, leb, eqb}
use borrow.Author.Tests.{lt-ltb, le-ltb, le-leb, lt-leb, eq-eqb, ne_eqb, ltb-true, ltb-false, leb-true, leb-false, eqb-true, eqb-false}

module _ (a b c d : ℕ) where
  pub leb-same : (a ≤ b → c ≤ d) → (b < a → d < c) → leb a b ≡ leb c d
  leb-same f g = go (leb a b) refl
    where
      go : (t : Bool) → leb a b ≡ t → t ≡ leb c d
      go true e = sym (le-leb c d (f (leb-true a b e)))
      go false e = sym (lt-leb c d (g (leb-false a b e)))

  pub ltb-same : (a < b → c < d) → (b ≤ a → d ≤ c) → ltb a b ≡ ltb c d
  ltb-same f g = go (ltb a b) refl
    where
      go : (t : Bool) → ltb a b ≡ t → t ≡ ltb c d
      go true e = sym (lt-ltb c d (f (ltb-true a b e)))
      go false e = sym (le-ltb c d (g (ltb-false a b e)))

  pub eqb_same : (a ≡ b → c ≡ d) → ((a ≡ b → ⊥) → c ≡ d → ⊥) → eqb a b ≡ eqb c d
  eqb_same f g = go (eqb a b) refl
    where
      go : (t : Bool) → eqb a b ≡ t → t ≡ eqb c d
      go true e = sym (eq-eqb c d (f (eqb-true a b e)))
      go false e = sym (ne_eqb c d (g (eqb-false a b e)))
