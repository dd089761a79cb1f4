-- Step 3's tests on the places are `gather`'s on the tables found: a usable table is as long as its place says.
use mathlib.Core.Path.{◌≡◌, refl, sym, ap, ◌∙◌, subst}
use mathlib.Core.Bool.{Bool, true, false}
use mathlib.Core.List.{List}
use Prim.Native.Nat.{ℕ, ◌+◌, ◌*◌, ◌<◌}
use native.Mathlib.Omega.{arith}
use lib.Dec.{lit<}
use lib.Seq.{get_or-drop}
use lib.ListN.{length, get_or, drop, length-take, length-drop}
use Rattle.model.specs.Res.{Res, refuse, ok, need, ◌>>=◌, ◌>>◌}
use Rattle.model.specs.Bytes.{Bytes, word16, holds}
use Rattle.model.specs.Font.{Entry, Tables, find, must, face_start, directory, rows, ascending, usable, gather, read}
use Rattle.model.proofs.Members.{by}
use Rattle.places.specs.declared.Tables.{Tables as Places}
use Rattle.places.specs.Places.{tag_words, place_at, present_at, content_at, option_at, contents, nowhere, Within}
use Rattle.std.specs.Prelude.{Result, Ok, Err}
use Rattle.answer.specs.declared.Refusal.{Refusal}
use Rattle.answer.specs.Answers.{number}
use Rattle.face.specs.Opening.{noted_rows, there, tested, OpenedAt, Opened}
use Rattle.face.proofs.Found.{found, places-within}

pub length-content : (font : Bytes) (t : Places) → Within font t → (k : ℕ) → k < 11 → length (content_at font t k) ≡ (place_at t k).length
unfolding content_at
length-content font t w k h = let p = w k h in simp (length-take, length-drop) (omega (arith, p.0))

must-place : (font : Bytes) (t : Places) → Within font t → (n least k : ℕ) → k < 11 → must n least (option_at font t k) ≡ (need n (there t k least) >> ok (content_at font t k))
unfolding option_at
must-place font t w n least k h =
    by (present_at t k)
    (λ e. rw (e, length-content font t w k h))
    (λ e. rw e)

-- the six tests, and what follows them
then : {A : Type 0} (b₁ b₂ b₃ b₄ b₅ b₆ : Bool) (r : Res A)
    → ((need 2 b₁ >> (need 3 b₂ >> (need 3 b₃ >> (need 3 b₄ >> (need 3 b₅ >> need 3 b₆))))) >> r)
    ≡ (need 2 b₁ >> (need 3 b₂ >> (need 3 b₃ >> (need 3 b₄ >> (need 3 b₅ >> (need 3 b₆ >> r))))))
then false b₂ b₃ b₄ b₅ b₆ r = refl
then true false b₃ b₄ b₅ b₆ r = refl
then true true false b₄ b₅ b₆ r = refl
then true true true false b₅ b₆ r = refl
then true true true true false b₆ r = refl
then true true true true true false r = refl
then true true true true true true r = refl

-- a bound value, as a test and then the value
bound : {A B : Type 0} (k : ℕ) (b : Bool) (a : A) (f : A → Res B) → ((need k b >> ok a) >>= f) ≡ (need k b >> f a)
bound k true a f = refl
bound k false a f = refl

-- the six tables that must be there and the five that may, found by the places
pub gather-places : (font : Bytes) (t : Places) (es : List Entry) → Within font t → ((k : ℕ) → k < 11 → option_at font t k ≡ find (get_or tag_words k 0) es)
    → (tested t >> ok (contents font t)) ≡ gather es
unfolding contents gather
gather-places font t es w f =
    then (there t 2 0) (there t 6 0) (there t 3 52) (there t 4 36) (there t 5 0) (there t 7 6) (ok (contents font t))
    ∙ sym
    (rw (← f 0 (lit< tt), ← f 1 (lit< tt), ← f 8 (lit< tt), ← f 9 (lit< tt), ← f 10 (lit< tt), ← f 2 (lit< tt), ← f 6 (lit< tt), ← f 3 (lit< tt), ← f 4 (lit< tt), ← f 5 (lit< tt), ← f 7 (lit< tt))
    (rw (must-place font t w 2 0 2 (lit< tt), must-place font t w 3 0 6 (lit< tt), must-place font t w 3 52 3 (lit< tt), must-place font t w 3 36 4 (lit< tt), must-place font t w 3 0 5 (lit< tt), must-place font t w 3 6 7 (lit< tt))
    (simp bound)))

-- what opening a face gives: the directory's tests one after the other, and then the tables
abbrev Steps : Bytes → ℕ → Res Tables
Steps font at = directory font at >>= λ rs. gather (usable font rs)

pub opened-refused : (font : Bytes) (at : ℕ) (e : Refusal) → Steps font at ≡ refuse (number e) → OpenedAt font at (Err e)
opened-refused font at e s = record { reads = sym s; within = tt }

module _ (font : Bytes) (at : ℕ) where
  pub header-cut : holds font at 12 ≡ false → Steps font at ≡ refuse 3
  unfolding directory
  header-cut h = rw h

  module _ (h : holds font at 12 ≡ true) (n : ℕ) (e : n ≡ word16 font (at + 4)) where
    pub rows_cut_lem : holds font (at + 12) (16 * n) ≡ false → Steps font at ≡ refuse 3
    unfolding directory
    rows_cut_lem q = rw (h, ← e, q)

    module _ (q : holds font (at + 12) (16 * n) ≡ true) (dir : Bytes) (d : dir ≡ drop (at + 12) font) where
      pub unsorted : ascending (rows n dir) ≡ false → Steps font at ≡ refuse 3
      unfolding directory
      unsorted s = rw (h, ← e, q, ← d, s)

      sorted : ascending (rows n dir) ≡ true → Steps font at ≡ gather (usable font (rows n dir))
      unfolding directory
      sorted s = rw (h, ← e, q, ← d, s)

      module _ (s : ascending (rows n dir) ≡ true) (small : (i : ℕ) → get_or font i 0 < 256) (t : Places) (f : t ≡ noted_rows font (rows n dir) nowhere) where
        within : Within font t
        within = subst (Within font) (sym f) (places-within font n dir (λ i. subst (λ (x : ℕ). x < 256) (sym (ap (λ (l : Bytes). get_or l i 0) d ∙ get_or-drop (at + 12) font i 0)) (small (at + 12 + i))))

        found_all : (k : ℕ) → k < 11 → option_at font t k ≡ find (get_or tag_words k 0) (usable font (rows n dir))
        found_all k b = ap (λ (p : Places). option_at font p k) f ∙ found font (rows n dir) k b

        steps : (tested t >> ok (contents font t)) ≡ Steps font at
        steps = gather-places font t (usable font (rows n dir)) within found_all ∙ sym (sorted s)

        pub opened : ok tt ≡ tested t → OpenedAt font at (Ok t)
        opened v = record { reads = ap (λ m. m >> ok (contents font t)) v ∙ steps; within = within }

        pub tests-refuse : (e : Refusal) → refuse (number e) ≡ tested t → OpenedAt font at (Err e)
        tests-refuse e v = opened-refused font at e (sym (ap (λ m. m >> ok (contents font t)) v ∙ steps))

-- step 1 refuses, or the face starts somewhere
pub start-refuses : (font : Bytes) (index : ℕ) (e : Refusal) → refuse (number e) ≡ face_start font index → Opened font index (Err e)
unfolding read
start-refuses font index e s = record { reads = ap (λ m. m >>= λ at. Steps font at) s; within = tt }

pub starts-at : (font : Bytes) (index at : ℕ) (r : Result Places Refusal) → ok at ≡ face_start font index → OpenedAt font at r → Opened font index r
unfolding read
starts-at font index at r s o = record { reads = o.reads ∙ ap (λ m. m >>= λ at. Steps font at) s; within = o.within }
