-- A word in the front of a longer list, and in the front that was taken.
use mathlib.Core.Path.{◌≡◌, ap₂}
use mathlib.Core.List.{◌++◌}
use Prim.Native.Nat.{ℕ, ◌+◌, ◌*◌, ◌<◌}
use native.Mathlib.Omega.{arith}
use lib.ListN.{length, take, get_or-append}
use lib.Seq.{get_or-take}
use Rattle.model.specs.Bytes.{Bytes, word16, word32}

pub word16-take : (n : ℕ) (b : Bytes) (i : ℕ) → i + 1 < n → word16 (take n b) i ≡ word16 b i
word16-take n b i h = ap₂ (λ (x y : ℕ). x * 256 + y) (get_or-take n b i 0 (omega arith)) (get_or-take n b (i + 1) 0 h)

pub word32-take : (n : ℕ) (b : Bytes) (i : ℕ) → i + 3 < n → word32 (take n b) i ≡ word32 b i
word32-take n b i h = ap₂ (λ (x y : ℕ). x * 65536 + y) (word16-take n b i (omega arith)) (word16-take n b (i + 2) (omega arith))

pub word16-front : (p r : Bytes) (i : ℕ) → i + 1 < length p → word16 (p ++ r) i ≡ word16 p i
word16-front p r i h = ap₂ (λ (x y : ℕ). x * 256 + y) (get_or-append p r 0 i (omega arith)) (get_or-append p r 0 (i + 1) h)

pub word32-front : (p r : Bytes) (i : ℕ) → i + 3 < length p → word32 (p ++ r) i ≡ word32 p i
word32-front p r i h = ap₂ (λ (x y : ℕ). x * 65536 + y) (word16-front p r i (omega arith)) (word16-front p r (i + 2) (omega arith))
