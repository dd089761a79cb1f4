-- The layout, place by place: the places so far before the old ones; the result puts each table where those before it end.
use Rattle.std.proofs.Common.{◌≡◌, ℕ, zero, suc, ◌+◌, ◌*◌, ◌<◌, ◌≤◌, Bool, true, false, List, [], ◌∷◌, ◌++◌, length, get_or, drop, set, sym, refl, ap, ◌∙◌, ap₂, append-nil, add-one, arith, length-append, drop-cons}
use native.Mathlib.Decide.{dec_lt}
use lib.ListN.{get_or-append, drop_of_length-le}
use lib.Seq.{set_at, get_or_at, append_snoc}
use Rattle.std.specs.Prelude.{Option, Some, None, is_some}
use Rattle.std.specs.Option.{unwrap_or}
use Rattle.model.specs.Res.{pick}
use Rattle.model.proofs.Res.{true_false}
use Rattle.places.specs.declared.Place.{Place}
use Rattle.places.specs.declared.Tables.{Tables}
use Rattle.places.specs.Places.{place_at, present_at, missing}
use Rattle.construct.specs.declared.Layout.{Layout}
use Rattle.construct.specs.Construct.{raised, count_to, start_at, directory_length, placed_at, places_to, laid_out, Placed}

pick_small : (b : Bool) (x n : ℕ) → x ≤ n → pick b x 0 ≤ n
pick_small true x n h = h
pick_small false x n h = omega arith

-- a place moved to n is there, and as long, as the old one
module _ (n : ℕ) where
  abbrev moved : Option Place → Option Place
  moved o = pick (is_some o) (Some (record { offset = n; length = (unwrap_or o missing).length })) None

  moved-there : (o : Option Place) → is_some (moved o) ≡ is_some o
  moved-there None = refl
  moved-there (Some p) = refl

  moved-length : (o : Option Place) → (unwrap_or (moved o) missing).length ≡ (unwrap_or o missing).length
  moved-length None = refl
  moved-length (Some p) = refl

  moved-start : (o : Option Place) → is_some o ≡ true → (unwrap_or (moved o) missing).offset ≡ n
  moved-start None h = true_false (sym h)
  moved-start (Some p) h = refl

module _ (t : Tables) where
  pub length-places : (k : ℕ) → length (places_to t k) ≡ k
  unfolding places_to
  length-places zero = refl
  length-places (suc k) = let i = length-places k in length-append (places_to t k) (placed_at t k ∷ []) ∙ omega arith

  -- one place more
  pub places-turn : (old : List (Option Place)) (k : ℕ) → k < length old
      → set (places_to t k ++ drop k old) k (placed_at t k) ≡ places_to t (k + 1) ++ drop (k + 1) old
  unfolding places_to
  places-turn old k h =
      rw add-one
      (ap (λ (l : List (Option Place)). set (places_to t k ++ l) k (placed_at t k)) (drop-cons old k None h)
      ∙ set_at (places_to t k) (get_or old k None) (drop (suc k) old) (placed_at t k) k (length-places k)
      ∙ sym (append_snoc (places_to t k) (placed_at t k) (drop (suc k) old)))

  module _ (ps : List (Option Place)) (k : ℕ) (h : k < length t.places) (e : ps ≡ places_to t k ++ drop k t.places) where
    -- the old place at k is still there
    pub place-left : get_or ps k None ≡ get_or t.places k None
    place-left =
        ap (λ (l : List (Option Place)). get_or l k None) (e ∙ ap (λ (l : List (Option Place)). places_to t k ++ l) (drop-cons t.places k None h))
        ∙ get_or_at (places_to t k) (get_or t.places k None) (drop (suc k) t.places) None k (length-places k)

    -- one place more, from the old one; none where that is missing
    pub place-next : (q : Place) → get_or ps k None ≡ Some q
        → set ps k (Some (record { offset = start_at (directory_length (count_to t 11)) t k; length = q.length })) ≡ places_to t (k + 1) ++ drop (k + 1) t.places
    place-next q i =
        let f : placed_at t k ≡ Some (record { offset = start_at (directory_length (count_to t 11)) t k; length = q.length }) = unfold placed_at in rw (sym place-left ∙ i) in
        ap₂ (λ (l : List (Option Place)) (o : Option Place). set l k o) e (sym f) ∙ places-turn t.places k h

    pub place-none : get_or ps k None ≡ None → set ps k (get_or ps k None) ≡ places_to t (k + 1) ++ drop (k + 1) t.places
    place-none i =
        let f : placed_at t k ≡ None = unfold placed_at in rw (sym place-left ∙ i) in
        ap₂ (λ (l : List (Option Place)) (o : Option Place). set l k o) e (i ∙ sym f) ∙ places-turn t.places k h

  -- after the last place
  pub layout_end : (ps : List (Option Place)) (at n k : ℕ) → length t.places ≡ 11 → k ≡ 11 → n ≡ count_to t 11 → at ≡ start_at (directory_length (count_to t 11)) t k
      → ps ≡ places_to t k ++ drop k t.places → record { tables = record { places = ps }; count = n; end = at } ≡ laid_out t
  unfolding laid_out
  layout_end ps at n k long e en ea ep =
      let ps' : ps ≡ places_to t 11 =
      ep ∙ ap (λ (j : ℕ). places_to t j ++ drop j t.places) e
      ∙ ap (λ (l : List (Option Place)). places_to t 11 ++ l) (drop_of_length-le t.places {i = 11} (omega arith)) ∙ append-nil (places_to t 11) in
      let at' : at ≡ start_at (directory_length (count_to t 11)) t 11 = ea ∙ ap (start_at (directory_length (count_to t 11)) t) e in
      ap₂ (λ (l : List (Option Place)) (m : ℕ). made l n m) ps' at' ∙ ap (λ (m : ℕ). made (places_to t 11) m (start_at (directory_length (count_to t 11)) t 11)) en
    where
      made : List (Option Place) → ℕ → ℕ → Layout
      made l m e = record { tables = record { places = l }; count = m; end = e }

  pub places-at : (n k : ℕ) → k < n → get_or (places_to t n) k None ≡ placed_at t k
  unfolding places_to
  places-at zero k h = absurd (omega arith)
  places-at (suc n) k h =
      elim (dec_lt k n) [
        | yes l ↦ get_or-append (places_to t n) (placed_at t n ∷ []) None k (rw length-places l) ∙ places-at n k l
        | no g ↦ (let e : n ≡ k = omega arith in rw (← e) (get_or_at (places_to t n) (placed_at t n) [] None n (length-places n)))
      ]

  -- the new places have the old lengths, and so the same starts
  new-there : (k : ℕ) → k < 11 → is_some (get_or (places_to t 11) k None) ≡ present_at t k
  new-there k h = ap is_some (places-at 11 k h) ∙ unfold placed_at in moved-there (start_at (directory_length (count_to t 11)) t k) (get_or t.places k None)

  new-length : (k : ℕ) → k < 11 → (unwrap_or (get_or (places_to t 11) k None) missing).length ≡ (place_at t k).length
  new-length k h =
      ap (λ (o : Option Place). (unwrap_or o missing).length) (places-at 11 k h)
      ∙ unfold placed_at in moved-length (start_at (directory_length (count_to t 11)) t k) (get_or t.places k None)

  new-start : (k : ℕ) → k < 11 → present_at t k ≡ true → (unwrap_or (get_or (places_to t 11) k None) missing).offset ≡ start_at (directory_length (count_to t 11)) t k
  new-start k h e =
      ap (λ (o : Option Place). (unwrap_or o missing).offset) (places-at 11 k h)
      ∙ unfold placed_at in moved-start (start_at (directory_length (count_to t 11)) t k) (get_or t.places k None) e

  pub count-new : (k : ℕ) → k ≤ 11 → count_to (record { places = places_to t 11 }) k ≡ count_to t k
  unfolding count_to
  count-new zero h = refl
  count-new (suc k) h = ap₂ (λ (n : ℕ) (b : Bool). n + pick b 1 0) (count-new k (omega arith)) (new-there k h)

  pub start-new : (d k : ℕ) → k ≤ 11 → start_at d (record { places = places_to t 11 }) k ≡ start_at d t k
  unfolding start_at
  start-new d zero h = refl
  start-new d (suc k) h =
      ap₂ (λ (n m : ℕ). n + pick (is_some (get_or (places_to t 11) k None)) (raised m) 0) (start-new d k (omega arith)) (new-length k h)
      ∙ ap (λ (b : Bool). start_at d t k + pick b (raised (place_at t k).length) 0) (new-there k h)

  pub layout-placed : Placed (laid_out t)
  unfolding laid_out
  layout-placed =
      record {
        counts = sym (count-new 11 (omega arith));
        offsets = λ k h e. new-start k h (sym (new-there k h) ∙ e) ∙ sym (start-new (directory_length (count_to t 11)) k (omega arith));
        ends = sym (start-new (directory_length (count_to t 11)) 11 (omega arith));
      }

  pub layout-length : (k : ℕ) → k < 11 → (place_at (laid_out t).tables k).length ≡ (place_at t k).length
  unfolding laid_out
  layout-length k h = new-length k h

  pub layout-present : (k : ℕ) → k < 11 → present_at (laid_out t).tables k ≡ present_at t k
  unfolding laid_out
  layout-present k h = new-there k h

  -- starts stay small if the lengths are
  pub start_small : (d k : ℕ) → k ≤ 11 → ((k : ℕ) → k < 11 → (place_at t k).length ≤ 1099511627776) → start_at d t k ≤ d + k * 1099511627779
  unfolding start_at raised
  start_small d zero h b = omega arith
  start_small d (suc k) h b =
      let i = start_small d k (omega arith) b in
      let s = b k h in
      let p = pick_small (present_at t k) (raised (place_at t k).length) 1099511627779 (omega arith) in
      omega arith
