-- The lines printed: `kept N length L`, then a line `new old` for each new number; `refused K`.
use Rattle.std.specs.Prelude.{◌≡◌, List, [], ◌∷◌, ◌++◌, ℕ, zero, suc, ◌+◌, ◌/◌, ltb, length}
use Rattle.io.specs.Digits.{last_digits}
use Rattle.model.specs.Res.{pick}
use Rattle.model.specs.Bytes.{Bytes, put}

-- how many decimal digits a number has, up to one more than f
unfoldable pub width_in : ℕ → ℕ → ℕ
width_in zero n = 1
width_in (suc f) n = pick (ltb n 10) 1 (suc (width_in f (n / 10)))

-- a number below 10^20 in as few digits as hold it
unfoldable pub decimal : ℕ → Bytes
decimal n = last_digits 10 (width_in 19 n) n

-- `new old`
unfoldable pub row : ℕ → ℕ → Bytes
row new old = (decimal new ++ (32 ∷ [])) ++ (decimal old ++ (10 ∷ []))

-- a row for each id, the first with the new number `new`
unfoldable pub rows : ℕ → List ℕ → Bytes
rows new [] = []
rows new (g ∷ gs) = row new g ++ rows (suc new) gs

-- `kept N length L`
unfoldable pub head_line : ℕ → ℕ → Bytes
head_line n l = (107 ∷ 101 ∷ 112 ∷ 116 ∷ 32 ∷ []) ++ (decimal n ++ (32 ∷ [])) ++ (108 ∷ 101 ∷ 110 ∷ 103 ∷ 116 ∷ 104 ∷ 32 ∷ []) ++ (decimal l ++ (10 ∷ []))

unfoldable pub kept_lines : List ℕ → ℕ → Bytes
kept_lines roster l = head_line (length roster) l ++ rows 0 roster

-- `refused K`
unfoldable pub refused_line : ℕ → Bytes
refused_line k = (114 ∷ 101 ∷ 102 ∷ 117 ∷ 115 ∷ 101 ∷ 100 ∷ 32 ∷ []) ++ (decimal k ++ (10 ∷ []))

-- bytes were put at a place, and r is behind them
abbrev pub Puts : Bytes → ℕ → Bytes → ℕ → Bytes → Type 0
Puts d at bytes r o = (o ≡ put d at bytes) × (r ≡ at + length bytes)
