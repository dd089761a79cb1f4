-- The directory's records by number: record i starts at 16 times i.
use mathlib.Core.Path.{◌≡◌, refl, ap, ◌∙◌}
use Prim.Native.Nat.{ℕ, zero, suc, ◌+◌, ◌*◌, ◌<◌}
use native.Mathlib.Omega.{arith}
use lib.ListN.{length, get_or, drop}
use lib.Seq.{drop-drop}
use Rattle.model.specs.Bytes.{Bytes}
use Rattle.model.specs.Font.{Row, row_of, rows}

pub length-rows : (n : ℕ) (b : Bytes) → length (rows n b) ≡ n
length-rows zero b = refl
length-rows (suc n) b = ap suc (length-rows n (drop 16 b))

sixteen : (i : ℕ) → 16 * i + 16 ≡ 16 * suc i
sixteen i = omega arith

pub get_d_rows : (n : ℕ) (b : Bytes) (i : ℕ) (other : Row) → i < n → get_or (rows n b) i other ≡ row_of (drop (16 * i) b)
get_d_rows zero b i other h = absurd (omega arith)
get_d_rows (suc n) b zero other h = refl
get_d_rows (suc n) b (suc i) other h =
    get_d_rows n (drop 16 b) i other (omega arith) ∙ ap row_of (drop-drop (16 * i) 16 b ∙ ap (λ (k : ℕ). drop k b) (add16 i))
  where
    add16 : (i : ℕ) → 16 + 16 * i ≡ 16 * suc i
    add16 i = omega arith
