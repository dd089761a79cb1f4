-- Tags: four bytes are told apart and ordered as their words are; the eleven by place, the records' tags from record i on.
use mathlib.Core.Path.{◌≡◌, refl, sym, ap, ap₂, ◌∙◌}
use mathlib.Core.Bool.{Bool, true, false, not, cond}
use mathlib.Core.List.{List, [], ◌∷◌, map}
use Prim.Native.Nat.{ℕ, suc, ◌+◌, ◌*◌, ◌-◌, ◌≤◌, ◌<◌}
use native.Mathlib.Omega.{arith}
use native.Mathlib.Omega.{arith}
use native.Mathlib.Nat.{add-zero}
use lib.Dec.{ltb, eqb}
use lib.ListN.{length, get_or, drop, length-take, length-drop, drop_of_length-le}
use lib.Seq.{drop-cons, get_or-take, get_or-drop}
use borrow.Author.Tests.{eqb-true, eqb-false, ltb-true, ltb-false}
use borrow.Author.Rules.{rules}
use Rattle.std.specs.Prelude.{Option, Some, None, position, nat_eq, ◌==◌}
use Rattle.std.specs.List.{position_or_len}
use Rattle.std.proofs.Common.{Ordering}
use Rattle.std.specs.declared.cmp.Ordering.TheVariants.{Less, Equal, Greater}
use Rattle.std.specs.Ordering.{nat_cmp, partial_ordering_then, partial_ge, is_some_and, is_ge}
use Rattle.std.specs.Cmp.{nat_cmp_is}
use Rattle.std.proofs.lemmas.Bool.{cases_order}
use mathlib.Core.Logic.{inl, inr}
use Rattle.std.specs.Cmp.Lexicographic.{pointwise, bytes_decides, slice_partial_cmp}
use Rattle.model.specs.Res.{both}
use Rattle.model.specs.Bytes.{Bytes, word32, part, place}
use Rattle.model.specs.Font.{Row, ascending, ascending_from, rows}
use Rattle.places.specs.Places.{tag_words}
use Rattle.places.specs.declared.TheConstants.{TAGS}
use Rattle.model.proofs.Bytes.{word32-drop}
use Rattle.model.proofs.Font.{length-rows, get_d_rows}
use Rattle.model.proofs.Members.{by}

-- four bytes
pub record Four (t : List ℕ) : Type 0 where
  pub long : length t ≡ 4
  pub first : get_or t 0 0 < 256
  pub second : get_or t 1 0 < 256
  pub third : get_or t 2 0 < 256
  pub fourth : get_or t 3 0 < 256

pub four-part : (b : Bytes) (at : ℕ) → ((i : ℕ) → get_or b i 0 < 256) → at + 4 ≤ length b → Four (part b at 4)
four-part b at small h =
    record {
      long = simp (length-take, length-drop) (omega arith);
      first = go 0 (omega arith);
      second = go 1 (omega arith);
      third = go 2 (omega arith);
      fourth = go 3 (omega arith);
    }
  where
    go : (j : ℕ) → j < 4 → get_or (part b at 4) j 0 < 256
    go j l = rw (get_or-take 4 (drop at b) j 0 l, get_or-drop at b j 0) (small (at + j))

pub word32-part : (b : Bytes) (at : ℕ) → word32 (part b at 4) 0 ≡ word32 b at
word32-part b at =
    rw (get_or-take 4 (drop at b) 0 0 (omega arith), get_or-take 4 (drop at b) 1 0 (omega arith), get_or-take 4 (drop at b) 2 0 (omega arith), get_or-take 4 (drop at b) 3 0 (omega arith))
    (word32-drop b at 0 ∙ ap (word32 b) (add-zero at))

-- a list of four by its elements
as-four : (s : List ℕ) → length s ≡ 4 → s ≡ get_or s 0 0 ∷ get_or s 1 0 ∷ get_or s 2 0 ∷ get_or s 3 0 ∷ []
as-four [] h = absurd (omega arith)
as-four (a ∷ []) h = absurd (omega arith)
as-four (a ∷ b ∷ []) h = absurd (omega arith)
as-four (a ∷ b ∷ c ∷ []) h = absurd (omega arith)
as-four (a ∷ b ∷ c ∷ d ∷ []) h = refl
as-four (a ∷ b ∷ c ∷ d ∷ e ∷ r) h = absurd (omega arith)

module _ (s t : List ℕ) (f : Four s) (g : Four t) where
  -- one word, one tag
  same-tag : word32 s 0 ≡ word32 t 0 → s ≡ t
  same-tag e =
      let a : get_or s 0 0 ≡ get_or t 0 0 = omega arith in
      let b : get_or s 1 0 ≡ get_or t 1 0 = omega arith in
      let c : get_or s 2 0 ≡ get_or t 2 0 = omega arith in
      let d : get_or s 3 0 ≡ get_or t 3 0 = omega arith in
      as-four s f.long ∙ rw (a, b, c, d) (sym (as-four t g.long))

  pub same-words : pointwise nat_eq s t ≡ eqb (word32 t 0) (word32 s 0)
  same-words =
      by (eqb (word32 t 0) (word32 s 0))
      (λ e. rw e ((bytes_decides s t).1 (same-tag (sym (eqb-true (word32 t 0) (word32 s 0) e)))))
      (λ e. rw e (by (pointwise nat_eq s t)
      (λ q. absurd (eqb-false (word32 t 0) (word32 s 0) e (ap (λ (x : List ℕ). word32 x 0) (sym ((bytes_decides s t).0 q)))))
      (λ q. q)))

-- the first bytes that differ decide, as the words do
turn : (x y v w : ℕ) (rest : Option Ordering) → (x < y → v < w) → (y < x → w < v) → (x ≡ y → rest ≡ Some (nat_cmp v w))
    → partial_ordering_then (Some (nat_cmp x y)) rest ≡ Some (nat_cmp v w)
turn x y v w rest l g e =
    elim (cases_order x y) [
      | inl q ↦ rw (← nat_cmp_is x y Equal q) (e q)
      | inr (inl q) ↦ rw (← nat_cmp_is x y Less q, ← nat_cmp_is v w Less (l q))
      | inr (inr q) ↦ rw (← nat_cmp_is x y Greater q, ← nat_cmp_is v w Greater (g q))
    ]

bytes-order : (a b c d p q r s : ℕ) → a < 256 → b < 256 → c < 256 → d < 256 → p < 256 → q < 256 → r < 256 → s < 256
    → slice_partial_cmp (λ x y. Some (nat_cmp x y)) (a ∷ b ∷ c ∷ d ∷ []) (p ∷ q ∷ r ∷ s ∷ []) ≡ Some (nat_cmp (word32 (a ∷ b ∷ c ∷ d ∷ []) 0) (word32 (p ∷ q ∷ r ∷ s ∷ []) 0))
bytes-order a b c d p q r s ha hb hc hd hp hq hr hs =
    let v = word32 (a ∷ b ∷ c ∷ d ∷ []) 0 in
    let w = word32 (p ∷ q ∷ r ∷ s ∷ []) 0 in
    turn a p v w _ (λ h. omega arith) (λ h. omega arith)
    (λ e. turn b q v w _ (λ h. omega arith) (λ h. omega arith)
    (λ f. turn c r v w _ (λ h. omega arith) (λ h. omega arith)
    (λ g. turn d s v w _ (λ h. omega arith) (λ h. omega arith)
    (λ h. ap Some (nat_cmp_is v w Equal (omega arith))))))

ge-test : (v w : ℕ) → is_ge (nat_cmp v w) ≡ not (ltb v w)
ge-test v w = by (ltb v w) (λ e. rw e) (λ e. rw e (by (v == w) (λ q. rw q) (λ q. rw q)))

pub words-order : (s t : List ℕ) → Four s → Four t → partial_ge (slice_partial_cmp (λ x y. Some (nat_cmp x y))) s t ≡ not (ltb (word32 s 0) (word32 t 0))
words-order s t f g =
    rw (as-four s f.long, as-four t g.long)
    (ap (is_some_and is_ge)
    (bytes-order (get_or s 0 0) (get_or s 1 0) (get_or s 2 0) (get_or s 3 0) (get_or t 0 0) (get_or t 1 0) (get_or t 2 0) (get_or t 3 0) f.first f.second f.third f.fourth g.first g.second g.third g.fourth)
    ∙ ge-test _ _)

-- each of the list is four bytes
Fours : List (List ℕ) → Type 0
Fours [] = Unit {0}
Fours (t ∷ ts) = Four t × Fours ts

known-fours : Fours TAGS
unfolding Fours
known-fours = search rules

one-more : (k : ℕ) → 1 + k ≡ suc k
one-more k = omega arith

-- a tag's place among the known ones, by its word
place-words : (tag : List ℕ) → Four tag → (ts : List (List ℕ)) → Fours ts → position_or_len (λ t. pointwise nat_eq t tag) ts ≡ place (map (λ t. word32 t 0) ts) (word32 tag 0)
unfolding Fours
place-words tag f [] a = refl
place-words tag f (t ∷ ts) a =
    rw (same-words t tag a.0 f)
    (by (eqb (word32 tag 0) (word32 t 0)) (λ e. rw e) (λ e. rw e (ap (λ (k : ℕ). 1 + k) (place-words tag f ts a.1) ∙ one-more (place (map (λ t. word32 t 0) ts) (word32 tag 0)))))

-- what the search for a record's tag says of the tag's number
module _ (b : Bytes) (small : (i : ℕ) → get_or b i 0 < 256) (room : 16 ≤ length b) (tag : List ℕ) (o : Option ℕ)
    (t : tag ≡ part b 0 4) (f : o ≡ position (λ t. pointwise nat_eq t tag) TAGS) where
  number : (c : Bool) → ltb (place tag_words (word32 b 0)) 11 ≡ c → o ≡ cond c (Some (place tag_words (word32 b 0))) None
  number c h =
      f
      ∙ rw t
      (ap (λ (k : ℕ). cond (ltb k 11) (Some k) None)
      (place-words (part b 0 4) (four-part b 0 small (omega arith)) TAGS known-fours ∙ ap (place tag_words) (word32-part b 0)))
      ∙ ap (λ (c : Bool). cond c (Some (place tag_words (word32 b 0))) None) h

  pub another : o ≡ None → 11 ≤ place tag_words (word32 b 0)
  another e =
      by (ltb (place tag_words (word32 b 0)) 11)
      (λ h. let q = number true h in absurd (cc))
      (λ h. ltb-false (place tag_words (word32 b 0)) 11 h)

  pub numbered : (k : ℕ) → o ≡ Some k → (k < 11) × (k ≡ place tag_words (word32 b 0))
  numbered k e =
      by (ltb (place tag_words (word32 b 0)) 11)
      (λ h. let q = number true h in
      let s : k ≡ place tag_words (word32 b 0) = cc in
      let l = ltb-true (place tag_words (word32 b 0)) 11 h in
      (omega arith, s))
      (λ h. let q = number false h in absurd (cc))

abbrev pub no_row : Row
no_row = record { tag = 0; offset = 0; size = 0 }

-- do the tags ascend from record i on, the one before it too
unfoldable pub ascending_at : List Row → ℕ → Bool
ascending_at rs i = ascending_from (get_or rs (i - 1) no_row).tag (drop i rs)

pub ascending-start : (rs : List Row) → ascending rs ≡ ascending_at rs 1
unfolding ascending_at
ascending-start [] = refl
ascending-start (r ∷ rs) = refl

pub ascending_end : (rs : List Row) (i : ℕ) → length rs ≤ i → ascending_at rs i ≡ true
unfolding ascending_at
ascending_end rs i h = ap (ascending_from (get_or rs (i - 1) no_row).tag) (drop_of_length-le rs h)

ascending-turn : (rs : List Row) (i : ℕ) → i < length rs → ascending_at rs i ≡ both (ltb (get_or rs (i - 1) no_row).tag (get_or rs i no_row).tag) (ascending_at rs (i + 1))
unfolding ascending_at
ascending-turn rs i h =
    ap (ascending_from (get_or rs (i - 1) no_row).tag) (drop-cons rs i no_row h)
    ∙ ap (λ (k : ℕ). both (ltb (get_or rs (i - 1) no_row).tag (get_or rs i no_row).tag) (ascending_from (get_or rs k no_row).tag (drop (suc i) rs))) (back i)
    ∙ ap (λ (k : ℕ). both (ltb (get_or rs (i - 1) no_row).tag (get_or rs i no_row).tag) (ascending_from (get_or rs (i + 1 - 1) no_row).tag (drop k rs))) (one i)
  where
    back : (i : ℕ) → i ≡ i + 1 - 1
    back i = omega arith

    one : (i : ℕ) → suc i ≡ i + 1
    one i = omega arith

-- a record's tag, and the test of two neighbours, where they stand
tag-row : (n : ℕ) (b : Bytes) (i : ℕ) → i < n → (get_or (rows n b) i no_row).tag ≡ word32 (part b (16 * i) 4) 0
tag-row n b i h = ap (λ (r : Row). r.tag) (get_d_rows n b i no_row h) ∙ word32-drop b (16 * i) 0 ∙ ap (word32 b) (add-zero (16 * i)) ∙ sym (word32-part b (16 * i))

pub tags-decide : (n : ℕ) (b : Bytes) → ((i : ℕ) → get_or b i 0 < 256) → 16 * n ≤ length b → (i : ℕ) (x y : List ℕ) (r : Bool) → 1 ≤ i → i < n
    → x ≡ part b (16 * i - 16) 4 → y ≡ part b (16 * i) 4 → r ≡ partial_ge (slice_partial_cmp (λ x y. Some (nat_cmp x y))) x y
    → ascending_at (rows n b) i ≡ both (not r) (ascending_at (rows n b) (i + 1))
tags-decide n b small room i x y r g h p q e =
    let back : 16 * i - 16 ≡ 16 * (i - 1) = omega arith in
    let s : List ℕ = part b (16 * (i - 1)) 4 in
    let t : List ℕ = part b (16 * i) 4 in
    let o : r ≡ not (ltb (word32 s 0) (word32 t 0)) = e ∙ rw (p, q, back) (words-order s t (four-part b (16 * (i - 1)) small (omega arith)) (four-part b (16 * i) small (omega arith))) in
    ascending-turn (rows n b) i (omega (arith, length-rows n b))
    ∙ ap₂ (λ (u v : ℕ). both (ltb u v) (ascending_at (rows n b) (i + 1))) (tag-row n b (i - 1) (omega arith)) (tag-row n b i h)
    ∙ ap (λ (z : Bool). both z (ascending_at (rows n b) (i + 1))) (sym (ap not o ∙ not-not (ltb (word32 s 0) (word32 t 0))))
  where
    not-not : (z : Bool) → not (not z) ≡ z
    not-not true = refl
    not-not false = refl
