-- An entry of loca, in the code's numbers.
use Rattle.std.proofs.Common.{◌≡◌, ap, ◌∙◌, ℕ, ◌*◌, one-mul, add-zero, drop}
use Rattle.model.specs.Bytes.{Bytes, word16, word32}
use Rattle.model.specs.Glyf.{short, long, entry}
use Rattle.model.proofs.Bytes.{word16-drop, word32-drop}

-- an offset, by its width
pub entry-long : (loca : Bytes) (i : ℕ) → entry long loca i ≡ word32 loca (4 * i)
entry-long loca i = one-mul (word32 (drop (4 * i) loca) 0) ∙ word32-drop loca (4 * i) 0 ∙ ap (λ (k : ℕ). word32 loca k) (add-zero (4 * i))

pub entry-short : (loca : Bytes) (i : ℕ) → entry short loca i ≡ 2 * word16 loca (2 * i)
entry-short loca i = ap (λ (x : ℕ). 2 * x) (word16-drop loca (2 * i) 0 ∙ ap (λ (k : ℕ). word16 loca k) (add-zero (2 * i)))
