-- The bucket of a string. Nothing is promised of it but that it is a function of the bytes, and that first uses are linked by it.
use Rattle.std.specs.Prelude.{◌≡◌, ℕ, zero, suc, ◌+◌, ◌-◌, ◌*◌, ◌/◌, ◌%◌, ◌^◌, ◌<◌, ◌≤◌, min, length, ◌==◌, nat_le, slice_index}
use Rattle.model.specs.Res.{pick}
use Rattle.model.specs.Bytes.{Bytes, word32}

-- eight bytes as a number, the last the highest
unfoldable pub eight_at : Bytes → ℕ → ℕ
eight_at b i =
    slice_index b i + 256 * (slice_index b (i + 1) + 256 * (slice_index b (i + 2) + 256 * (slice_index b (i + 3)
    + 256 * (slice_index b (i + 4) + 256 * (slice_index b (i + 5) + 256 * (slice_index b (i + 6) + 256 * slice_index b (i + 7)))))))

unfoldable pub mixed_of : ℕ → ℕ → ℕ
mixed_of w i = ((w + (11400714819323198485 + i)) % 2 ^ 64 % 4294967296) * ((w + (11400714819323198485 + i)) % 2 ^ 64 / 4294967296)

-- the sum of the first n words
unfoldable pub words_of : Bytes → ℕ → ℕ
words_of s zero = 0
words_of s (suc n) = (words_of s n + mixed_of (eight_at s (8 * n)) (8 * n)) % 2 ^ 64

unfoldable pub last_word : Bytes → ℕ
last_word s =
    pick (nat_le 8 (length s)) (eight_at s (length s - 8))
    (pick (nat_le 4 (length s)) (word32 s 0 * 4294967296 + word32 s (length s - 4))
    (pick (length s == 0) 0 (slice_index s 0 * 65536 + slice_index s (length s / 2) * 256 + slice_index s (length s - 1))))

unfoldable pub sampled_of : ℕ → ℕ → ℕ
sampled_of size buckets = pick (nat_le 4096 buckets) size (min size 8)

unfoldable pub sum_of : Bytes → ℕ → ℕ
sum_of s buckets = (words_of s (sampled_of (length s) buckets / 8) + mixed_of (last_word s) (length s)) % 2 ^ 64

unfoldable pub bucket_of : Bytes → ℕ → ℕ
bucket_of s buckets =
    (sum_of s buckets / 4294967296 + sum_of s buckets % 4294967296) * 1540483477 / 65536 % 4294967296 * buckets / 4294967296

-- x is one more than the last number below `top` whose key is h, or 0 if there is none
pub record Latest (key : ℕ → ℕ) (top h x : ℕ) : Type 0 where
  pub within : x ≤ top
  pub keyed : (n : ℕ) → x ≡ n + 1 → key n ≡ h
  pub none : (j : ℕ) → j < top → key j ≡ h → j < x
