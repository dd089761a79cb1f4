-- hmtx and hhea, read back: from place count - 1 on all advances are equal, so metric j of the written tables is metric j.
use mathlib.Core.Path.{◌≡◌, refl, sym, ap, ap₂, ◌∙◌, subst}
use mathlib.Core.Bool.{Bool, true, false}
use mathlib.Core.List.{List, [], ◌∷◌, ◌++◌, map}
use Prim.Native.Nat.{ℕ, zero, suc, ◌+◌, ◌*◌, ◌-◌, ◌≤◌, ◌<◌}
use native.Mathlib.Omega.{arith}
use lib.Dec.{ltb, eqb}
use lib.ListN.{length, get_or, take, drop, length-append, length-drop}
use lib.Seq.{take_at, drop_at, drop-cons, get_or-take, get_or-drop, length-take-le}
use borrow.Author.Tests.{le-leb, lt-ltb, eqb-true, ltb-true, ltb-false}
use Rattle.model.specs.Res.{ok, pick, need, ◌>>◌}
use Rattle.model.specs.Bytes.{Bytes, word16, be16, holds, all}
use Rattle.model.proofs.Res.{Under, EachOk, each_inv, each-known, each_map, need-ok, need_inv, both_true, ok_inj}
use Rattle.model.proofs.Bytes.{word16-be16, word16-drop}
use Rattle.theorems.specs.Twice.{AreBytes}
use Rattle.model.proofs.Members.{by}
use Rattle.model.specs.Metrics.{Metric, metric, metrics, new_count, pairs, bearings, new_hmtx, new_hhea, old_count}

abbrev pub none : Metric
none = (0, 0)

length_pairs : (ms : List Metric) → length (pairs ms) ≡ 4 * length ms
length_pairs [] = refl
length_pairs (m ∷ ms) = omega (arith, length_pairs ms)

length-bearings : (ms : List Metric) → length (bearings ms) ≡ 2 * length ms
length-bearings [] = refl
length-bearings (m ∷ ms) = omega (arith, length-bearings ms)

drop-pairs : (ms : List Metric) (j : ℕ) (r : Bytes) → j ≤ length ms → drop (4 * j) (pairs ms ++ r) ≡ pairs (drop j ms) ++ r
drop-pairs ms zero r h = refl
drop-pairs [] (suc j) r h = absurd (omega arith)
drop-pairs (m ∷ ms) (suc j) r h =
    ap (λ (k : ℕ). drop k (pairs (m ∷ ms) ++ r)) (four j) ∙ drop-pairs ms j r (omega arith)
  where
    four : (j : ℕ) → 4 * suc j ≡ suc (suc (suc (suc (4 * j))))
    four j = omega arith

drop-bearings : (ms : List Metric) (j : ℕ) → j ≤ length ms → drop (2 * j) (bearings ms) ≡ bearings (drop j ms)
drop-bearings ms zero h = refl
drop-bearings [] (suc j) h = absurd (omega arith)
drop-bearings (m ∷ ms) (suc j) h =
    ap (λ (k : ℕ). drop k (bearings (m ∷ ms))) (two j) ∙ drop-bearings ms j (omega arith)
  where
    two : (j : ℕ) → 2 * suc j ≡ suc (suc (2 * j))
    two j = omega arith

-- every advance and bearing is a 16-bit number
abbrev Small : Metric → Type 0
Small m = (m.0 < 65536) × (m.1 < 65536)

abbrev Wide : List Metric → Type 0
Wide ms = (j : ℕ) → j < length ms → Small (get_or ms j none)

module _ (ms : List Metric) (wide : Wide ms) (r : Bytes) (j : ℕ) (h : j < length ms) where
  pair_is : drop (4 * j) (pairs ms ++ r) ≡ be16 (get_or ms j none).0 ++ (be16 (get_or ms j none).1 ++ (pairs (drop (suc j) ms) ++ r))
  pair_is = drop-pairs ms j r (omega arith) ∙ ap (λ (l : List Metric). pairs l ++ r) (drop-cons ms j none h)

  advance_at : word16 (pairs ms ++ r) (4 * j) ≡ (get_or ms j none).0
  advance_at =
      ap (word16 (pairs ms ++ r)) (plain (4 * j))
      ∙ sym (word16-drop (pairs ms ++ r) (4 * j) 0)
      ∙ ap (λ (b : Bytes). word16 b 0) pair_is
      ∙ word16-be16 (get_or ms j none).0 [] (wide j h).0
    where
      plain : (k : ℕ) → k ≡ k + 0
      plain k = omega arith

  bearing_at : word16 (pairs ms ++ r) (4 * j + 2) ≡ (get_or ms j none).1
  bearing_at =
      sym (word16-drop (pairs ms ++ r) (4 * j) 2)
      ∙ ap (λ (b : Bytes). word16 b 2) pair_is
      ∙ word16-be16 (get_or ms j none).1 [] (wide j h).1

-- from place k - 1 on all advances are equal
all-at : (a : ℕ) (ms : List Metric) → all (λ x. eqb x.0 a) ms ≡ true → (j : ℕ) → j < length ms → (get_or ms j none).0 ≡ a
all-at a [] e j h = absurd (omega arith)
all-at a (m ∷ ms) e zero h = eqb-true m.0 a (both_true (eqb m.0 a) _ e).0
all-at a (m ∷ ms) e (suc j) h = all-at a ms (both_true (eqb m.0 a) _ e).1 j (omega arith)

record CountedAs (ms : List Metric) (k : ℕ) : Type 0 where
  some : 1 ≤ k
  most : k ≤ length ms
  level : (j : ℕ) → k - 1 ≤ j → j < length ms → (get_or ms j none).0 ≡ (get_or ms (k - 1) none).0

module _ (m : Metric) (ns : List Metric) where
  level-one : all (λ x. eqb x.0 m.0) ns ≡ true → (j : ℕ) → 1 - 1 ≤ j → j < length (m ∷ ns)
      → (get_or (m ∷ ns) j none).0 ≡ (get_or (m ∷ ns) (1 - 1) none).0
  level-one e zero h l = refl
  level-one e (suc j) h l = all-at m.0 ns e j (omega arith)

  level-more : (c : ℕ) → CountedAs ns c → (j : ℕ) → suc c - 1 ≤ j → j < length (m ∷ ns)
      → (get_or (m ∷ ns) j none).0 ≡ (get_or (m ∷ ns) (suc c - 1) none).0
  level-more c k zero h l = absurd (omega (arith, k.some))
  level-more c k (suc j) h l =
      k.level j (omega arith) (omega arith) ∙ ap (λ (i : ℕ). (get_or (m ∷ ns) i none).0) (back c k.some)
    where
      back : (c : ℕ) → 1 ≤ c → suc (c - 1) ≡ suc c - 1
      back c h = omega arith

counted : (m : Metric) (ms : List Metric) → CountedAs (m ∷ ms) (new_count (m ∷ ms))
counted m [] = record { some = omega arith; most = omega arith; level = level-one m [] refl }
counted m (n ∷ ms) =
    let c = counted n ms in
    by (all (λ x. eqb x.0 m.0) (n ∷ ms))
    (λ e. rw e (record { some = omega arith; most = omega arith; level = level-one m (n ∷ ms) e }))
    (λ e. rw e (record { some = omega arith; most = omega (arith, c.most); level = level-more m (n ∷ ms) (new_count (n ∷ ms)) c }))

-- metric j of the written tables
module _ (m : Metric) (ns : List Metric) (wide : Wide (m ∷ ns)) where
  abbrev ms : List Metric
  ms = m ∷ ns

  abbrev k : ℕ
  k = new_count (m ∷ ns)

  length_front : length (pairs (take k ms)) ≡ 4 * k
  length_front = length_pairs (take k ms) ∙ ap (λ (n : ℕ). 4 * n) (length-take-le k ms (counted m ns).most)

  length-hmtx : length (new_hmtx k ms) ≡ 4 * k + 2 * (length ms - k)
  length-hmtx =
      length-append (pairs (take k ms)) (bearings (drop k ms))
      ∙ ap₂ (λ (a b : ℕ). a + b) length_front (length-bearings (drop k ms) ∙ ap (λ (n : ℕ). 2 * n) (length-drop k ms))

  wide-take : Wide (take k ms)
  wide-take j h =
      let l = length-take-le k ms (counted m ns).most in
      subst Small (sym (get_or-take k ms j none (omega arith))) (wide j (omega (arith, (counted m ns).most)))

  last_advance : word16 (new_hmtx k ms) (4 * (k - 1)) ≡ (get_or ms (k - 1) none).0
  last_advance =
      let c = counted m ns in
      advance_at (take k ms) wide-take (bearings (drop k ms)) (k - 1) (omega (arith, length-take-le k ms c.most, c.some))
      ∙ ap (λ (x : Metric). x.0) (get_or-take k ms (k - 1) none (omega (arith, c.some)))

  later_bearing : (j : ℕ) → k ≤ j → j < length ms → word16 (new_hmtx k ms) (4 * k + 2 * (j - k)) ≡ (get_or ms j none).1
  later_bearing j h l =
      let i = j - k in
      let lt : i < length (drop k ms) = omega (arith, length-drop k ms) in
      let is : get_or (drop k ms) i none ≡ get_or ms j none = get_or-drop k ms i none ∙ ap (λ (n : ℕ). get_or ms n none) (there k j h) in
      ap (word16 (new_hmtx k ms)) (plain (4 * k) (2 * i))
      ∙ sym (word16-drop (new_hmtx k ms) (4 * k) (2 * i + 0))
      ∙ ap (λ (b : Bytes). word16 b (2 * i + 0)) (drop_at (pairs (take k ms)) (bearings (drop k ms)) (4 * k) length_front)
      ∙ sym (word16-drop (bearings (drop k ms)) (2 * i) 0)
      ∙ ap (λ (b : Bytes). word16 b 0) (drop-bearings (drop k ms) i (omega arith) ∙ ap bearings (drop-cons (drop k ms) i none lt))
      ∙ word16-be16 (get_or (drop k ms) i none).1 [] (subst (λ (x : Metric). x.1 < 65536) (sym is) (wide j l).1)
      ∙ ap (λ (x : Metric). x.1) is
    where
      plain : (a b : ℕ) → a + b ≡ a + (b + 0)
      plain a b = omega arith

      there : (k j : ℕ) → k ≤ j → k + (j - k) ≡ j
      there k j h = omega arith

  metric-back : (j : ℕ) → j < length ms → metric (new_hmtx k ms) k j ≡ ok (get_or ms j none)
  unfolding metric
  metric-back j h = go (ltb j k) refl
    where
      c : CountedAs (m ∷ ns) (new_count (m ∷ ns))
      c = counted m ns

      go : (t : Bool) → ltb j k ≡ t
          → pick t
          (need 3 (holds (new_hmtx k ms) (4 * j) 4) >> ok (word16 (new_hmtx k ms) (4 * j), word16 (new_hmtx k ms) (4 * j + 2)))
          (need 3 (holds (new_hmtx k ms) (4 * k + 2 * (j - k)) 2)
          >> ok (word16 (new_hmtx k ms) (4 * (k - 1)), word16 (new_hmtx k ms) (4 * k + 2 * (j - k))))
          ≡ ok (get_or ms j none)
      go true e =
          let j<k = ltb-true j k e in
          let inside : j < length (take k ms) = omega (arith, length-take-le k ms c.most) in
          need-ok _ _ _ (le-leb (4 * j + 4) (length (new_hmtx k ms)) (omega (arith, length-hmtx)))
          (λ i.
          ok (
            (advance_at (take k ms) wide-take (bearings (drop k ms)) j inside ∙ ap (λ (x : Metric). x.0) (get_or-take k ms j none j<k)) i,
            (bearing_at (take k ms) wide-take (bearings (drop k ms)) j inside ∙ ap (λ (x : Metric). x.1) (get_or-take k ms j none j<k)) i,
          ))
      go false e =
          let k≤j = ltb-false j k e in
          need-ok _ _ _ (le-leb (4 * k + 2 * (j - k) + 2) (length (new_hmtx k ms)) (omega (arith, length-hmtx)))
          (λ i. ok ((last_advance ∙ sym (c.level j (omega arith) h)) i, later_bearing j k≤j h i))

  -- the tests before the metrics pass too, and hhea has the new count where step 6 looks
  last-holds : holds (new_hmtx k ms) (4 * (k - 1)) 2 ≡ true
  last-holds = le-leb (4 * (k - 1) + 2) (length (new_hmtx k ms)) (omega (arith, length-hmtx, (counted m ns).some))

  count_positive : ltb 0 k ≡ true
  count_positive = lt-ltb 0 k (omega (arith, (counted m ns).some))

  count_most : k ≤ length ms
  count_most = (counted m ns).most

count-back : (hhea : Bytes) (k : ℕ) → length hhea ≡ 36 → k < 65536 → old_count (new_hhea hhea k) ≡ k
count-back hhea k l h =
    sym (word16-drop (new_hhea hhea k) 34 0)
    ∙ ap (λ (b : Bytes). word16 b 0) (drop_at (take (length hhea - 2) hhea) (be16 k) 34 (omega (arith, length-take-le (length hhea - 2) hhea (omega arith))))
    ∙ word16-be16 k [] h

pub hhea-twice : (hhea : Bytes) (k j : ℕ) → 2 ≤ length hhea → new_hhea (new_hhea hhea k) j ≡ new_hhea hhea j
hhea-twice hhea k j h =
    let front = take (length hhea - 2) hhea in
    let l = length-take-le (length hhea - 2) hhea (omega arith) in
    ap (λ (b : Bytes). b ++ be16 j) (take_at front (be16 k) (length (new_hhea hhea k) - 2) (omega (arith, length-append front (be16 k))))

-- every kept glyph's metric was read, so it is of 16-bit numbers, and is found again by its new number and by its old one
module _ (hhea hmtx : Bytes) (r : List ℕ) (ms : List Metric) (is : metrics hhea hmtx r ≡ ok ms) where
  pub record Found : Type 0 where
    pub positive : ltb 0 (old_count hhea) ≡ true
    pub last : holds hmtx (4 * (old_count hhea - 1)) 2 ≡ true
    pub each : EachOk (metric hmtx (old_count hhea)) r ms 0 none

  pub found : Found
  unfolding metrics
  found =
      let s₁ = need_inv 5 (ltb 0 (old_count hhea)) _ ms is in
      let s₂ = need_inv 3 (holds hmtx (4 * (old_count hhea - 1)) 2) _ ms s₁.1 in
      record { positive = s₁.0; last = s₂.0; each = each_inv (metric hmtx (old_count hhea)) r ms 0 none s₂.1 }

  pub metrics-direct : (rs : List ℕ) → Under (length r) rs → metrics hhea hmtx (map (λ j. get_or r j 0) rs) ≡ ok (map (λ j. get_or ms j none) rs)
  unfolding metrics
  metrics-direct rs u =
      need-ok _ _ _ found.positive
      (need-ok _ _ _ found.last
      (each_map (metric hmtx (old_count hhea)) (λ j. get_or r j 0) rs
      ∙ each-known (length r) (λ j. metric hmtx (old_count hhea) (get_or r j 0)) (λ j. get_or ms j none) rs u found.each.at))

  module _ (bytes : AreBytes hmtx) where
    small : (i : ℕ) → word16 hmtx i < 65536
    small i = omega (arith, bytes i, bytes (i + 1))

    metric-small : (c g : ℕ) (m : Metric) → metric hmtx c g ≡ ok m → Small m
    unfolding metric
    metric-small c g m e = go (ltb g c) e
      where
        go : (t : Bool)
            → pick t
            (need 3 (holds hmtx (4 * g) 4) >> ok (word16 hmtx (4 * g), word16 hmtx (4 * g + 2)))
            (need 3 (holds hmtx (4 * c + 2 * (g - c)) 2) >> ok (word16 hmtx (4 * (c - 1)), word16 hmtx (4 * c + 2 * (g - c))))
            ≡ ok m
            → Small m
        go true d = subst Small (ok_inj (need_inv 3 (holds hmtx (4 * g) 4) _ m d).1) (small (4 * g), small (4 * g + 2))
        go false d =
            subst Small (ok_inj (need_inv 3 (holds hmtx (4 * c + 2 * (g - c)) 2) _ m d).1) (small (4 * (c - 1)), small (4 * c + 2 * (g - c)))

    wide-found : Wide ms
    wide-found j h =
        metric-small (old_count hhea) (get_or r j 0) (get_or ms j none) (found.each.at j (omega (arith, found.each.same_length)))

    pub metrics-again : length hhea ≡ 36 → 0 < length r → length r < 65536 → (rs : List ℕ) → Under (length r) rs
        → metrics (new_hhea hhea (new_count ms)) (new_hmtx (new_count ms) ms) rs ≡ ok (map (λ j. get_or ms j none) rs)
    unfolding metrics
    metrics-again h p q rs u = go ms wide-found found.each.same_length
      where
        go : (ms : List Metric) → Wide ms → length ms ≡ length r
            → metrics (new_hhea hhea (new_count ms)) (new_hmtx (new_count ms) ms) rs ≡ ok (map (λ j. get_or ms j none) rs)
        go [] wide l = absurd (omega arith)
        go (m ∷ ms) wide l =
            let k = new_count (m ∷ ms) in
            rw (count-back hhea k h (omega (arith, count_most m ms wide)))
            (need-ok _ _ _ (count_positive m ms wide)
            (need-ok _ _ _ (last-holds m ms wide)
            (each-known (length r) (metric (new_hmtx k (m ∷ ms)) k) (λ j. get_or (m ∷ ms) j none) rs u (λ j i. metric-back m ms wide j (omega arith)))))
