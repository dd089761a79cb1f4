-- The tables stand apart, so that the order in which they are written does not matter: glyf and loca first, then the others, is all in tag order.
use mathlib.Core.Path.{◌≡◌, refl, sym, ap, ◌∙◌}
use mathlib.Core.Bool.{Bool, true, false}
use Prim.Native.Nat.{ℕ, ◌+◌, ◌≤◌, ◌<◌}
use native.Mathlib.Omega.{arith}
use native.Mathlib.Numerals.{add-one}
use lib.Dec.{lit<}
use lib.ListN.{length}
use borrow.Author.Tests.{ne_eqb}
use Rattle.model.specs.Res.{pick}
use Rattle.model.specs.Bytes.{Bytes, put, pad4}
use Rattle.model.proofs.Bytes.{length-put}
use Rattle.model.proofs.Puts.{put-swap}
use Rattle.places.specs.Places.{place_at, present_at}
use Rattle.construct.specs.declared.Layout.{Layout}
use Rattle.construct.specs.Construct.{raised, directory_length, Sized, Placed, write_at, write_to}
use Rattle.construct.proofs.Files.{length-pad4}
use Rattle.construct.proofs.Lists.{start-there, start-grows}
use Rattle.construct.proofs.Readiness.{pad_room}
use Rattle.tables.specs.Writing.{others_to, Single}

-- one table more of the others, or one that was written before
pub other_more : (new : Layout) (body : ℕ → Bytes) (k : ℕ) (out : Bytes) {a b : Bytes} → Single k → a ≡ others_to new body out k → b ≡ write_at new k (body k) a
    → b ≡ others_to new body out (k + 1)
unfolding others_to
other_more new body k out s e f = rw (add-one, ne_eqb k 2 s.no_glyf, ne_eqb k 6 s.no_loca) (f ∙ ap (write_at new k (body k)) e)

pub glyf_skipped : (new : Layout) (body : ℕ → Bytes) (k : ℕ) (out : Bytes) {a : Bytes} → k ≡ 2 → a ≡ others_to new body out k → a ≡ others_to new body out (k + 1)
unfolding others_to
glyf_skipped new body k out s e = rw s (rw s at e)

pub loca_skipped : (new : Layout) (body : ℕ → Bytes) (k : ℕ) (out : Bytes) {a : Bytes} → k ≡ 6 → a ≡ others_to new body out k → a ≡ others_to new body out (k + 1)
unfolding others_to
loca_skipped new body k out s e = rw s (rw s at e)

module _ (new : Layout) (placed : Placed new) (body : ℕ → Bytes) (sized : Sized new.tables body) where
  abbrev at : ℕ → ℕ
  at k = (place_at new.tables k).offset

  abbrev w : ℕ → Bytes → Bytes
  w k o = write_at new k (body k) o

  size : (k : ℕ) → k < 11 → present_at new.tables k ≡ true → length (pad4 (body k)) ≡ raised (place_at new.tables k).length
  size k h t = length-pad4 (body k) ∙ ap raised (sized k h t)

  room : (k : ℕ) → k < 11 → (o : Bytes) → new.end ≤ length o → new.end ≤ length (w k o)
  unfolding write_at
  room k h o r = go (present_at new.tables k) refl
    where
      go : (b : Bool) → present_at new.tables k ≡ b → new.end ≤ length (pick b (put o (at k) (pad4 (body k))) o)
      go false n = r
      go true t = let m = pad_room new placed k h t in let z = size k h t in rw (length-put o (at k) (pad4 (body k)) (omega arith)) r

  -- table j ends before table k starts
  pub ends-before : (j k : ℕ) → j < k → k < 11 → present_at new.tables j ≡ true → present_at new.tables k ≡ true → at j + raised (place_at new.tables j).length ≤ at k
  ends-before j k l h t u =
      let d = directory_length new.count in
      let s = start-there new.tables d j t in
      let g = start-grows new.tables d (j + 1) k (omega arith) in
      omega (arith, placed.offsets j (omega arith) t, placed.offsets k h u)

  swap : (j k : ℕ) → j < k → k < 11 → (o : Bytes) → new.end ≤ length o → w j (w k o) ≡ w k (w j o)
  unfolding write_at
  swap j k l h o r = go (present_at new.tables j) refl (present_at new.tables k) refl
    where
      go : (b : Bool) → present_at new.tables j ≡ b → (c : Bool) → present_at new.tables k ≡ c
          → pick b (put (pick c (put o (at k) (pad4 (body k))) o) (at j) (pad4 (body j))) (pick c (put o (at k) (pad4 (body k))) o)
          ≡ pick c (put (pick b (put o (at j) (pad4 (body j))) o) (at k) (pad4 (body k))) (pick b (put o (at j) (pad4 (body j))) o)
      go false e c f = refl
      go true e false f = refl
      go true e true f =
          sym
          (put-swap o (at j) (pad4 (body j)) (at k) (pad4 (body k)) (omega (arith, ends-before j k l h e f, size j (omega arith) e))
          (omega (arith, pad_room new placed k h f, size k h f)))

  pub in_tag_order : (o : Bytes) → new.end ≤ length o → others_to new body (w 6 (w 2 o)) 11 ≡ write_to new body o 11
  unfolding others_to write_to
  in_tag_order o r =
      ap (λ (z : Bytes). rest (w 5 (w 4 (w 3 z)))) (ap (w 1) (past 0 (lit< tt) o r) ∙ past 1 (lit< tt) (w 0 o) r₁)
      ∙ ap (λ (z : Bytes). rest (w 5 (w 4 z))) (swap 3 6 (lit< tt) (lit< tt) x₃ r₃)
      ∙ ap (λ (z : Bytes). rest (w 5 z)) (swap 4 6 (lit< tt) (lit< tt) (w 3 x₃) r₄)
      ∙ ap rest (swap 5 6 (lit< tt) (lit< tt) (w 4 (w 3 x₃)) (room 4 (lit< tt) (w 3 x₃) r₄))
    where
      rest : Bytes → Bytes
      rest z = w 10 (w 9 (w 8 (w 7 z)))

      past : (k : ℕ) → k < 2 → (o : Bytes) → new.end ≤ length o → w k (w 6 (w 2 o)) ≡ w 6 (w 2 (w k o))
      past k h o r = swap k 6 (omega arith) (lit< tt) (w 2 o) (room 2 (lit< tt) o r) ∙ ap (w 6) (swap k 2 h (lit< tt) o r)

      x₃ : Bytes
      x₃ = w 2 (w 1 (w 0 o))

      r₁ : new.end ≤ length (w 0 o)
      r₁ = room 0 (lit< tt) o r

      r₃ : new.end ≤ length (w 2 (w 1 (w 0 o)))
      r₃ = room 2 (lit< tt) (w 1 (w 0 o)) (room 1 (lit< tt) (w 0 o) r₁)

      r₄ : new.end ≤ length (w 3 (w 2 (w 1 (w 0 o))))
      r₄ = room 3 (lit< tt) (w 2 (w 1 (w 0 o))) r₃
