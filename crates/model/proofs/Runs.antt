-- A list written record by record: `flat_map f xs`, where f gives each record's bytes. Assumes nothing.
use Prim.Native.Nat.{ℕ, ◌+◌, ◌*◌, ◌≤◌, ◌<◌}
use mathlib.Core.Path.{◌≡◌, refl, ap, sym, ◌∙◌}
use mathlib.Core.List.{List, [], ◌∷◌, ◌++◌, append_assoc, append-nil, flat_map}
use native.Mathlib.Omega.{arith}
use native.Mathlib.Nat.{mul-zero, mul-suc}
use native.Mathlib.Numerals.{add-one}
use lib.ListN.{length, take, get_or, length-append}
use lib.Seq.{take-suc, length-take-le, take-length}
use Rattle.model.specs.Bytes.{put, over}
use Rattle.model.proofs.Bytes.{put-over, over_nil}

module _ (f : ℕ → List ℕ) where
  pub flat_map_append : (xs ys : List ℕ) → flat_map f (xs ++ ys) ≡ flat_map f xs ++ flat_map f ys
  unfolding flat_map
  flat_map_append [] ys = refl
  flat_map_append (x ∷ xs) ys = ap (λ (r : List ℕ). f x ++ r) (flat_map_append xs ys) ∙ sym (append_assoc (f x) (flat_map f xs) (flat_map f ys))

  pub flat_map_one : (x : ℕ) → flat_map f (x ∷ []) ≡ f x
  unfolding flat_map
  flat_map_one x = append-nil (f x)

  pub flat_map_take : (xs : List ℕ) (i : ℕ) → i < length xs → flat_map f (take (i + 1) xs) ≡ flat_map f (take i xs) ++ f (get_or xs i 0)
  flat_map_take xs i h = rw (add-one, take-suc xs i 0, flat_map_append, flat_map_one)

  module _ (w : ℕ) (wide : (x : ℕ) → length (f x) ≡ w) where
    pub length-flatMap : (xs : List ℕ) → length (flat_map f xs) ≡ w * length xs
    unfolding flat_map
    length-flatMap [] = sym (mul-zero w)
    length-flatMap (x ∷ xs) = simp (length-append, wide, length-flatMap xs, mul-suc) (omega arith)

    pub length_taken : (xs : List ℕ) (i : ℕ) → i ≤ length xs → length (flat_map f (take i xs)) ≡ w * i
    length_taken xs i h = rw (length-flatMap, length-take-le)

    -- before the first turn, a turn, and after the last one
    pub run-start : (xs d : List ℕ) → d ≡ over (flat_map f (take 0 xs)) d
    unfolding flat_map
    run-start xs d = sym (over_nil d)

    pub run-turn : (xs d o : List ℕ) (i : ℕ) → i < length xs → o ≡ over (flat_map f (take i xs)) d → put o (w * i) (f (get_or xs i 0)) ≡ over (flat_map f (take (i + 1) xs)) d
    run-turn xs d o i h e = rw (e, flat_map_take) (put-over (flat_map f (take i xs)) d (f (get_or xs i 0)) (w * i) (length_taken xs i (omega arith)))

    pub run_end : (xs d o : List ℕ) (i : ℕ) → i ≡ length xs → o ≡ over (flat_map f (take i xs)) d → o ≡ over (flat_map f xs) d
    run_end xs d o i h e = rw (e, h, take-length)
