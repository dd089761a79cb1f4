-- A flag is one bit of a number: that `&` finds it says that the last bit of a quotient is 1.
use Rattle.std.proofs.Common.{◌≡◌, ℕ, zero, suc, ◌*◌, ◌/◌, ◌%◌, ◌^◌, ◌<◌, not, nat_eq, bit_and, arith, ne_eqb}
use Rattle.std.proofs.Math.Nat.{zero-mul, one-mul}
use Rattle.std.proofs.lemmas.Nat.{pow_pos}
use Rattle.std.proofs.lemmas.Nat.Bits.{and_pow}
use Rattle.std.proofs.lemmas.Grind.{low_zeros}

pub is_flag : (n m : ℕ) → m ≡ 2 ^ low_zeros 16 m → not (nat_eq (bit_and n m) 0) ≡ nat_eq (n / m % 2) 1
is_flag n m e = rw e (rw (and_pow n (low_zeros 16 m)) (go (2 ^ low_zeros 16 m) (n / 2 ^ low_zeros 16 m % 2) (pow_pos (low_zeros 16 m)) (omega arith)))
  where
    go : (m x : ℕ) → 0 < m → x < 2 → not (nat_eq (x * m) 0) ≡ nat_eq x 1
    go m zero h l = rw (zero-mul m)
    go m (suc zero) h l = rw (one-mul m, ne_eqb m 0 (λ e. omega arith))
    go m (suc (suc x)) h l = absurd (omega arith)
