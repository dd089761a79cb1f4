-- What the scratch holds once it is cleared behind the roster and glyph 0 is numbered.
use Rattle.std.proofs.Common.{ℕ, ◌+◌, ◌*◌, ◌-◌, ◌≤◌, ◌<◌, List, [], ◌∷◌, ◌++◌, append_assoc, ◌≡◌, refl, sym, ap, ◌∙◌, subst, arith, length, take, get_or, drop, replicate, length-drop, ext_get_or, get_or-drop}
use lib.ListN.{length-replicate, get_or-replicate}
use Rattle.model.specs.Bytes.{put}
use Rattle.model.proofs.Bytes.{length-put, get_or-put, get_or-put-after}
use Rattle.model.proofs.Members.{clash, in_here, in_one}
use Rattle.remapper.specs.Scratch.{link, prev, next, started}
use Rattle.remapper.specs.State.{Waits, Walking}
use Rattle.remapper.proofs.Waiting.{waits-same}
use Rattle.remapper.proofs.Numbering.{size-given, upper_given, past-given, rostered-given}

-- what stands behind it stays
pub drop-put : (d bs : List ℕ) (i k : ℕ) → i + length bs ≤ length d → i + length bs ≤ k → drop k (put d i bs) ≡ drop k d
drop-put d bs i k h m =
    ext_get_or 0 (drop k (put d i bs)) (drop k d) (simp length-drop (ap (λ (t : ℕ). t - k) (length-put d i bs h)))
    (λ j l. get_or-drop k (put d i bs) j 0 ∙ get_or-put-after d i bs (k + j) (omega arith) (omega arith) ∙ sym (get_or-drop k d j 0))

-- the rows before glyph 0 is numbered: zeros behind the roster, so that each glyph is linked to itself
module _ (n : ℕ) (s : List ℕ) (some : 0 < n) (size : 4 * n ≤ length s) where
  cleared : List ℕ
  cleared = put s n (replicate (3 * n) 0)

  nulls : length (replicate {A = ℕ} (3 * n) 0) ≡ 3 * n
  nulls = length-replicate {A = ℕ} (3 * n) 0

  same_size : length cleared ≡ length s
  unfolding cleared
  same_size = length-put s n (replicate (3 * n) 0) (omega (arith, nulls))

  null : (j : ℕ) → j < 3 * n → get_or cleared (n + j) 0 ≡ 0
  unfolding cleared
  null j m = get_or-put s n (replicate (3 * n) 0) j (omega arith) (omega (arith, nulls)) ∙ get_or-replicate (3 * n) j 0 0 m

  pub past-started : drop (4 * n) (started n s) ≡ drop (4 * n) s
  unfolding started cleared
  past-started =
      past-given n cleared [] 0 (omega (arith, same_size)) some some
      ∙ drop-put s (replicate (3 * n) 0) n (4 * n) (omega (arith, nulls)) (omega (arith, nulls))

  module _ (few : n ≤ 65536) where
    itself : (base g j : ℕ) → g < n → n + j ≡ base + g → j < 3 * n → link base cleared g ≡ g
    unfolding link
    itself base g j m e h = let z : get_or cleared (base + g) 0 ≡ 0 = subst (λ (i : ℕ). get_or cleared i 0 ≡ 0) e (null j h) in omega arith

    back : (g : ℕ) → g < n → prev n cleared g ≡ g
    back g m = itself (2 * n) g (n + g) m (omega arith) (omega arith)

    on : (g : ℕ) → g < n → next n cleared g ≡ g
    on g m = itself (3 * n) g (2 * n + g) m (omega arith) (omega arith)

    lone : Waits n cleared (0 ∷ []) []
    lone =
        record {
          linked = record {
            size = omega (arith, same_size);
            back = λ g m. subst (λ (t : ℕ). t < n) (sym (back g m)) m;
            on = λ g m. subst (λ (t : ℕ). t < n) (sym (on g m)) m;
          };
          ring = (on 0 some, back 0 some);
          once = tt;
          low = λ x m. clash m refl;
          apart = λ x m. clash m refl;
          lone = λ x m a b. (back x m, on x m);
          zeroth = in_here 0 [];
        }

    pub walking-started : Walking n (started n s) (0 ∷ []) []
    unfolding started cleared
    walking-started =
        record {
          rostered = rostered-given n cleared [] 0 (omega (arith, same_size)) some some refl (record { ids = refl; numbers = λ g m. null g (omega arith) });
          once = (refl, tt);
          low = λ x m. omega (arith, in_one x 0 m);
          waits = waits-same n cleared (started n s) (0 ∷ []) [] (size-given n cleared [] 0 (omega (arith, same_size)) some some) (upper_given n cleared [] 0 (omega (arith, same_size)) some some) lone;
        }

-- how a call leaves the scratch: the roster, or nothing of it, and zeros up to 4n
pub roster-left : (n : ℕ) (s₀ s r : List ℕ) → take (length r) s ≡ r → drop (4 * n) s ≡ drop (4 * n) s₀ → length r ≤ 4 * n
    → put s (length r) (replicate (4 * n - length r) 0) ≡ (r ++ replicate (4 * n - length r) 0) ++ drop (4 * n) s₀
unfolding put
roster-left n s₀ s r v e h =
    let k : length r + length (replicate {A = ℕ} (4 * n - length r) 0) ≡ 4 * n = omega (arith, length-replicate {A = ℕ} (4 * n - length r) 0) in
    rw (v, k, e, append_assoc)

pub nothing_left : (n : ℕ) (s₀ s : List ℕ) → drop (4 * n) s ≡ drop (4 * n) s₀ → put s 0 (replicate (4 * n) 0) ≡ replicate (4 * n) 0 ++ drop (4 * n) s₀
unfolding put
nothing_left n s₀ s e =
    let k : 0 + length (replicate {A = ℕ} (4 * n) 0) ≡ 4 * n = omega (arith, length-replicate {A = ℕ} (4 * n) 0) in
    rw (k, e)
