-- The selector, which the model counts by halvings, is the whole part of the logarithm; its power of two is at most the count.
use Rattle.std.proofs.Common.{◌≡◌, ℕ, zero, suc, ◌*◌, ◌/◌, ◌%◌, ◌^◌, ◌<◌, ◌≤◌, Bool, true, false, ltb, sym, refl, ap, ◌∙◌, ap₂, pow-suc, arith, ltb-false, le-ltb, lt-ltb}
use Rattle.model.specs.Res.{pick}
use Rattle.model.specs.File.{selector, search_range}
use Rattle.construct.specs.declared.Search.{Search}
use Rattle.construct.specs.Construct.{searched}

pub selector_end : (f n : ℕ) → n < 2 → selector f n ≡ 0
selector_end zero n h = refl
selector_end (suc f) n h = rw (lt-ltb n 2 h)

module _ where
  pick_small : (b : Bool) (x n : ℕ) → x ≤ n → pick b 0 x ≤ n
  pick_small true x n h = omega arith
  pick_small false x n h = h

  pub selector_small : (f n : ℕ) → selector f n ≤ f
  selector_small zero n = omega arith
  selector_small (suc f) n = let i = selector_small f (n / 2) in pick_small (ltb n 2) (suc (selector f (n / 2))) (suc f) (omega arith)

  power-pick : (b : Bool) (s n : ℕ) → 1 ≤ n → (b ≡ false → 2 ^ s ≤ n) → 2 ^ pick b 0 s ≤ n
  power-pick true s n h g = h
  power-pick false s n h g = g refl

  pub power_small : (f n : ℕ) → 1 ≤ n → 2 ^ selector f n ≤ n
  power_small zero n h = h
  power_small (suc f) n h =
      power-pick (ltb n 2) (suc (selector f (n / 2))) n h
      (λ e.
      let t = ltb-false n 2 e in
      let i = power_small f (n / 2) (omega arith) in
      let p = pow-suc 2 (selector f (n / 2)) in
      omega arith)

pub range_small : (n : ℕ) → 1 ≤ n → search_range n ≤ 16 * n
range_small n h = let p = power_small n n h in omega arith

-- the number of halvings is the whole part of the logarithm
pub logarithm : (f n r : ℕ) → n ≤ f → 2 ^ r ≤ n → n < 2 * 2 ^ r → selector f n ≡ r
logarithm f n zero h low high = selector_end f n (omega arith)
logarithm zero n (suc r) h low high = let p = pow-suc 2 r in absurd (omega arith)
logarithm (suc f) n (suc r) h low high =
    let p = pow-suc 2 r in
    let o : 1 ≤ 2 ^ r = some r in
    rw (le-ltb n 2 (omega arith)) (ap suc (logarithm f (n / 2) r (omega arith) (omega arith) (omega arith)))
  where
    some : (r : ℕ) → 1 ≤ 2 ^ r
    some zero = omega arith
    some (suc r) = let i = some r in let p = pow-suc 2 r in omega arith

pub search-made : (n r : ℕ) → 1 ≤ n → n ≤ 4095 → 2 ^ r ≤ n → n < 2 * 2 ^ r → record { selector = r; range = 16 * 2 ^ r % 18446744073709551616 } ≡ searched n
unfolding searched
search-made n r h small low high =
    let e = logarithm n n r (omega arith) low high in
    let m : 16 * 2 ^ r % 18446744073709551616 ≡ 16 * 2 ^ r = omega arith in
    ap₂ made (sym e) (m ∙ ap (λ (k : ℕ). 16 * 2 ^ k) (sym e))
  where
    made : ℕ → ℕ → Search
    made a b = record { selector = a; range = b }
