-- A number's width is the fewest digits that hold it, by a division at each digit.
use mathlib.Core.Path.{◌≡◌, refl, ap, ◌∙◌}
use mathlib.Core.Bool.{Bool, true, false}
use Prim.Native.Nat.{ℕ, zero, suc, ◌*◌, ◌/◌, ◌^◌, ◌≤◌, ◌<◌}
use native.Mathlib.Omega.{arith}
use native.Mathlib.Nat.{pow-suc}
use native.Mathlib.Numerals.{add-one, sub-one}
use borrow.Author.Tests.{lt-ltb, le-ltb, ltb-true, ltb-false}
use lib.Dec.{ltb}
use lib.ListN.{length, length-append}
use Rattle.io.specs.Digits.{last_digits, IsDigitCount}
use Rattle.lines.specs.Print.{width_in, decimal}

by : {C : Type 0} (b : Bool) → (b ≡ true → C) → (b ≡ false → C) → C
by true f g = f refl
by false f g = g refl

width-last : (n : ℕ) → width_in zero n ≡ 1
unfolding width_in
width-last n = refl

width_one : (f n : ℕ) → n < 10 → width_in f n ≡ 1
unfolding width_in
width_one zero n h = refl
width_one (suc f) n h = rw (lt-ltb _ _ h) refl

width-more : (f n : ℕ) → 10 ≤ n → width_in (suc f) n ≡ suc (width_in f (n / 10))
unfolding width_in
width-more f n h = rw (le-ltb _ _ h) refl

length_digits : (k n : ℕ) → length (last_digits 10 k n) ≡ k
length_digits zero n = refl
length_digits (suc k) n = length-append (last_digits 10 k (n / 10)) _ ∙ rw (length_digits k (n / 10)) (add-one k)

pow_positive : (k : ℕ) → 1 ≤ 10 ^ k
pow_positive zero = omega arith
pow_positive (suc k) =
    let e : 10 ^ suc k ≡ 10 ^ k * 10 = pow-suc 10 k in
    omega (arith, pow_positive k)

-- a step of Fewest
fewer : (k n : ℕ) → IsDigitCount 10 1 n (suc (suc k)) → (10 ≤ n) × IsDigitCount 10 1 (n / 10) (suc k)
fewer k n h =
    let p : 10 ^ suc (suc k) ≡ 10 ^ suc k * 10 = pow-suc 10 (suc k) in
    let q : 10 ^ suc k ≡ 10 ^ k * 10 = pow-suc 10 k in
    let b : 10 ^ suc k ≤ n = rw sub-one at (h.2 (omega arith)) in
    let one = pow_positive k in
    (omega arith, (omega arith, omega arith, λ _. rw sub-one (omega arith)))

fewest_width : (f k n : ℕ) → n < 10 ^ suc f → IsDigitCount 10 1 n k → width_in f n ≡ k
fewest_width f zero n b h = absurd (omega (arith, h.0))
fewest_width f (suc zero) n b h = width_one f n h.1
fewest_width zero (suc (suc k)) n b h =
    let g = fewer k n h in
    absurd (omega (arith, b, g.0))
fewest_width (suc f) (suc (suc k)) n b h =
    let g = fewer k n h in
    let p : 10 ^ suc (suc f) ≡ 10 ^ suc f * 10 = pow-suc 10 (suc f) in
    width-more f n g.0 ∙ ap suc (fewest_width f (suc k) (n / 10) (omega (arith, b)) g.1)

pub length-decimal : (n : ℕ) → length (decimal n) ≡ width_in 19 n
unfolding decimal
length-decimal n = length_digits (width_in 19 n) n

-- a number below 10^(k + 1) has k + 1 digits at most; none has more than the turns allow
within : (f k n : ℕ) → n < 10 ^ suc k → width_in f n ≤ suc k
within zero k n h = rw (width-last n) (omega arith)
within (suc f) zero n h = rw (width_one (suc f) n h) (omega arith)
within (suc f) (suc k) n h =
    by (ltb n 10) (λ e. rw (width_one (suc f) n (ltb-true _ _ e)) (omega arith)) (λ e.
    let p : 10 ^ suc (suc k) ≡ 10 ^ suc k * 10 = pow-suc 10 (suc k) in
    rw (width-more f n (ltb-false _ _ e)) (omega (arith, within f k (n / 10) (omega arith))))

pub decimal-short : (n : ℕ) → n ≤ 65535 → length (decimal n) ≤ 5
decimal-short n h = rw (length-decimal n) (within 19 4 n (omega arith))

width-turns : (f n : ℕ) → width_in f n ≤ suc f
width-turns zero n = rw (width-last n) (omega arith)
width-turns (suc f) n =
    by (ltb n 10) (λ e. rw (width_one (suc f) n (ltb-true _ _ e)) (omega arith)) (λ e. rw (width-more f n (ltb-false _ _ e)) (omega (arith, width-turns f (n / 10))))

pub decimal-fits : (n : ℕ) → length (decimal n) ≤ 20
decimal-fits n = rw (length-decimal n) (width-turns 19 n)

pub decimal_of : (k n : ℕ) → n < 2 ^ 64 → IsDigitCount 10 1 n k → last_digits 10 k n ≡ decimal n
unfolding decimal
decimal_of k n b h = rw (fewest_width 19 k n (omega (arith, b)) h) refl
