-- glyf and loca, read back in either width: loca's entries are where the outlines start, so outline k of the written tables is piece k, padded.
use mathlib.Core.Path.{◌≡◌, refl, sym, ap, ap₂, ◌∙◌, subst, subst₂}
use mathlib.Core.List.{List, [], ◌∷◌, ◌++◌, append_assoc, append-nil}
use Prim.Native.Nat.{ℕ, zero, suc, ◌+◌, ◌*◌, ◌-◌, ◌/◌, ◌%◌, ◌≤◌, ◌<◌, min}
use native.Mathlib.Omega.{arith}
use native.Mathlib.Nat.{add-zero}
use lib.ListN.{length, get_or, take, drop, length-append}
use lib.Seq.{take_at, drop_at, drop-drop}
use borrow.Author.Tests.{le-leb}
use Rattle.model.specs.Res.{ok}
use Rattle.model.specs.Bytes.{Bytes, part}
use Rattle.model.proofs.Res.{need-ok}
use Rattle.model.proofs.Bytes.{word16-be16, word32-be32}
use Rattle.model.specs.Glyf.{Width, short, long, entry_size, unit, entry_word, be_entry, padded, glyphs, entry, glyph_bytes, new_glyf, new_loca}
use Rattle.theorems.proofs.Outlines.{length-pad2}

-- loca's entries, read back
abbrev offsets : Width → ℕ → List Bytes → ℕ → ℕ
offsets w at bs zero = at
offsets w at [] (suc k) = at
offsets w at (b ∷ bs) (suc k) = offsets w (at + length (padded w b)) bs k

abbrev cap : Width → ℕ
cap short = 65536
cap long = 4294967296

abbrev Aligned : Width → ℕ → Type 0
Aligned short at = at % 2 ≡ 0
Aligned long at = Unit {0}

aligned_step : (w : Width) (at : ℕ) (b : Bytes) → Aligned w at → Aligned w (at + length (padded w b))
aligned_step short at b h = ap (λ (k : ℕ). (at + k) % 2) (length-pad2 b) ∙ even at (length b) h
  where
    even : (at n : ℕ) → at % 2 ≡ 0 → (at + (n + n % 2)) % 2 ≡ 0
    even at n h = omega arith
aligned_step long at b h = tt

unit-back : (w : Width) (at : ℕ) → Aligned w at → unit w * (at / unit w) ≡ at
unit-back short at h = omega arith
unit-back long at h = omega arith

word_back : (w : Width) (x : ℕ) (r : Bytes) → x < cap w → entry_word w (be_entry w x ++ r) ≡ x
word_back short x r h = word16-be16 x r h
word_back long x r h = word32-be32 x r h

drop-entry : (w : Width) (x : ℕ) (r : Bytes) → drop (entry_size w) (be_entry w x ++ r) ≡ r
drop-entry short x r = refl
drop-entry long x r = refl

-- the end of the last outline fits
abbrev pub Room : Width → ℕ → Type 0
Room short total = total ≤ 131070
Room long total = total < 4294967296

room_word : (w : Width) (at : ℕ) → Room w at → at / unit w < cap w
room_word short at h = omega arith
room_word long at h = omega arith

room-less : (w : Width) (a b : ℕ) → a ≤ b → Room w b → Room w a
room-less short a b h r = omega arith
room-less long a b h r = omega arith

times_suc : (w : Width) (k : ℕ) → entry_size w * suc k ≡ entry_size w + entry_size w * k
times_suc short k = omega arith
times_suc long k = omega arith

times_zero : (w : Width) → entry_size w * 0 ≡ 0
times_zero short = refl
times_zero long = refl

length-entry : (w : Width) (x : ℕ) → length (be_entry w x) ≡ entry_size w
length-entry short x = refl
length-entry long x = refl

aligned_zero : (w : Width) → Aligned w 0
aligned_zero short = refl
aligned_zero long = tt

module _ (w : Width) where
  entry-back : (at : ℕ) (bs : List Bytes) (k : ℕ) → k ≤ length bs → Aligned w at → Room w (at + length (new_glyf w bs))
      → entry w (new_loca w at bs) k ≡ offsets w at bs k
  entry-back at [] zero h a r =
      ap (λ (j : ℕ). unit w * entry_word w (drop j (be_entry w (at / unit w)))) (times_zero w)
      ∙ ap (λ (b : Bytes). unit w * entry_word w b) (sym (append-nil (be_entry w (at / unit w))))
      ∙ ap (λ (j : ℕ). unit w * j) (word_back w (at / unit w) [] (room_word w at (room-less w _ _ (omega arith) r)))
      ∙ unit-back w at a
  entry-back at [] (suc k) h a r = absurd (omega arith)
  entry-back at (b ∷ bs) zero h a r =
      ap (λ (j : ℕ). unit w * entry_word w (drop j (new_loca w at (b ∷ bs)))) (times_zero w)
      ∙ ap (λ (j : ℕ). unit w * j) (word_back w (at / unit w) (new_loca w (at + length (padded w b)) bs) (room_word w at (room-less w _ _ (omega arith) r)))
      ∙ unit-back w at a
  entry-back at (b ∷ bs) (suc k) h a r =
      let rest = new_loca w (at + length (padded w b)) bs in
      ap (λ (j : ℕ). unit w * entry_word w (drop j (new_loca w at (b ∷ bs)))) (times_suc w k)
      ∙ ap (λ (z : Bytes). unit w * entry_word w z)
      (sym (drop-drop (entry_size w * k) (entry_size w) (new_loca w at (b ∷ bs)))
      ∙ ap (drop (entry_size w * k)) (drop-entry w (at / unit w) rest))
      ∙ entry-back (at + length (padded w b)) bs k (omega arith) (aligned_step w at b a)
      (room-less w _ _ (omega (arith, length-append (padded w b) (new_glyf w bs))) r)

  length-loca : (at : ℕ) (bs : List Bytes) → length (new_loca w at bs) ≡ entry_size w * suc (length bs)
  length-loca at [] = length-entry w (at / unit w) ∙ sym (times_suc w 0 ∙ ap (λ (k : ℕ). entry_size w + k) (times_zero w) ∙ add-zero (entry_size w))
  length-loca at (b ∷ bs) =
      length-append (be_entry w (at / unit w)) (new_loca w (at + length (padded w b)) bs)
      ∙ ap₂ (λ (i j : ℕ). i + j) (length-entry w (at / unit w)) (length-loca (at + length (padded w b)) bs)
      ∙ sym (times_suc w (suc (length bs)))

  -- n of the new font is the number of outlines
  pub glyphs-back : (bs : List Bytes) → length bs ≤ 65536 → glyphs w (new_loca w 0 bs) ≡ length bs
  glyphs-back bs h = ap (λ (k : ℕ). min 65536 (k / entry_size w - 1)) (length-loca 0 bs) ∙ whole w (length bs) h
    where
      whole : (w : Width) (n : ℕ) → n ≤ 65536 → min 65536 (entry_size w * suc n / entry_size w - 1) ≡ n
      whole short n h = omega arith
      whole long n h = omega arith

  -- where outline k stands
  record Stands (glyf : Bytes) (at : ℕ) (bs : List Bytes) (k : ℕ) : Type 0 where
    up : offsets w at bs k ≤ offsets w at bs (suc k)
    inside : offsets w at bs (suc k) ≤ length glyf
    content : part glyf (offsets w at bs k) (offsets w at bs (suc k) - offsets w at bs k) ≡ padded w (get_or bs k [])

  stands : (p : Bytes) (glyf : Bytes) (at : ℕ) (bs : List Bytes) (k : ℕ) → k < length bs → length p ≡ at → glyf ≡ p ++ new_glyf w bs
      → Stands glyf at bs k
  stands p glyf at [] k h l e = absurd (omega arith)
  stands p glyf at (b ∷ bs) zero h l e =
      record {
        up = omega arith;
        inside =
            omega (arith, ap length e, length-append p (padded w b ++ new_glyf w bs), length-append (padded w b) (new_glyf w bs));
        content =
            ap₂ (λ (n : ℕ) (g : Bytes). part g at n) (add-sub at (length (padded w b))) e
            ∙ ap (take (length (padded w b))) (drop_at p (padded w b ++ new_glyf w bs) at l)
            ∙ take_at (padded w b) (new_glyf w bs) (length (padded w b)) refl;
      }
    where
      add-sub : (a c : ℕ) → a + c - a ≡ c
      add-sub a c = omega arith
  stands p glyf at (b ∷ bs) (suc k) h l e =
      let s =
      stands (p ++ padded w b) glyf (at + length (padded w b)) bs k (omega arith)
      (length-append p (padded w b) ∙ ap (λ (j : ℕ). j + length (padded w b)) l)
      (e ∙ sym (append_assoc p (padded w b) (new_glyf w bs))) in
      record { up = s.up; inside = s.inside; content = s.content }

  -- outline k of the written tables is piece k, padded
  pub glyph_back : (bs : List Bytes) (k : ℕ) → k < length bs → Room w (length (new_glyf w bs))
      → glyph_bytes w (new_loca w 0 bs) (new_glyf w bs) k ≡ ok (padded w (get_or bs k []))
  unfolding glyph_bytes
  glyph_back bs k h r =
      let s = stands [] (new_glyf w bs) 0 bs k h refl refl in
      let r₀ = room-less w (0 + length (new_glyf w bs)) (length (new_glyf w bs)) (omega arith) r in
      let a = entry-back 0 bs k (omega arith) (aligned_zero w) r₀ in
      let b = entry-back 0 bs (suc k) (omega arith) (aligned_zero w) r₀ in
      need-ok _ _ _ (le-leb _ _ (subst₂ (λ (x y : ℕ). x ≤ y) (sym a) (sym b) s.up))
      (need-ok _ _ _ (le-leb _ _ (subst (λ (x : ℕ). x ≤ length (new_glyf w bs)) (sym b) s.inside))
      (ap₂ (λ (x y : ℕ). ok (part (new_glyf w bs) x (y - x))) a b ∙ ap (λ (z : Bytes). ok z) s.content))
