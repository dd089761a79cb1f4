-- The order of the first uses by their strings: a comparison leaves half of the places, a string that belongs between two places stands at none, and a place more keeps the order.
use Rattle.std.proofs.Common.{◌≡◌, ℕ, zero, suc, ◌+◌, ◌-◌, ◌*◌, ◌/◌, ◌<◌, ◌≤◌, eqb, ltb, List, length, get_or, drop, sym, refl, ap, ◌∙◌, add-zero, arith, length-drop, length-take, get_or-drop, get_or-take, ext_get_or, ltb-false, ltb-true, eqb-true}
use borrow.Author.Tests.{eqb-false}
use mathlib.Core.Logic.{◌⊎◌, inl, inr}
use Rattle.model.specs.Bytes.{Bytes}
use Rattle.name.specs.Rows.{string_start, string_length, string_at, key, ordered_at, Before, Standing, Ordered, Between, Inserted, Alike, WordAlike, Inside, Searchable, Sought, Sortable}
use Rattle.name.specs.Hashed.{eight_at}
use Rattle.std.specs.Prelude.{Result, Ok, Err}
use Rattle.model.proofs.Res.{true_false}
use Rattle.name.proofs.Rows.{by}

-- no string comes before itself, and what comes before one that comes before a third comes before the third
pub before-differ : (x y : Bytes) → Before x y → x ≡ y → ⊥
before-differ x y r e = omega (arith, r.less, ap (λ (z : Bytes). key z r.place) e)

pub before_trans : (x y z : Bytes) → Before x y → Before y z → Before x z
before_trans x y z p q =
    by (ltb p.place q.place)
    (λ e.
    let h : p.place < q.place = ltb-true _ _ e in
    record {
      place = p.place;
      same = λ k l. p.same k l ∙ q.same k (omega arith);
      less = omega (arith, p.less, q.same p.place h);
    })
    (λ e.
    let h : q.place ≤ p.place = ltb-false _ _ e in
    record {
      place = q.place;
      same = λ k l. p.same k (omega arith) ∙ q.same k l;
      less =
          by (ltb q.place p.place)
          (λ f. omega (arith, q.less, p.same q.place (ltb-true _ _ f)))
          (λ f.
          let g : p.place ≡ q.place = omega (arith, h, ltb-false q.place p.place f) in
          let l : key x q.place < key y q.place = rw g at p.less in
          omega (arith, q.less, l));
    })

-- a string of the table, byte by byte
module _ (b : Bytes) (i : ℕ) where
  pub length-string : Inside b i → length (string_at b i) ≡ string_length b i
  unfolding string_at
  length-string h = simp (length-take, length-drop) (omega (arith, h.string))

  byte_at : (k : ℕ) → k < string_length b i → get_or (string_at b i) k 0 ≡ get_or b (string_start b i + k) 0
  unfolding string_at
  byte_at k h = get_or-take (string_length b i) (drop (string_start b i) b) k 0 h ∙ get_or-drop (string_start b i) b k 0

-- equal numbers of eight bytes are equal bytes
digit : (x y a c : ℕ) → x < 256 → y < 256 → x + 256 * a ≡ y + 256 * c → (x ≡ y) × (a ≡ c)
digit x y a c h h' e = (omega arith, omega arith)

each-eight : (P : ℕ → Type 0) → P 0 → P 1 → P 2 → P 3 → P 4 → P 5 → P 6 → P 7 → (m : ℕ) → m < 8 → P m
each-eight P p0 p1 p2 p3 p4 p5 p6 p7 zero h = p0
each-eight P p0 p1 p2 p3 p4 p5 p6 p7 (suc zero) h = p1
each-eight P p0 p1 p2 p3 p4 p5 p6 p7 (suc (suc zero)) h = p2
each-eight P p0 p1 p2 p3 p4 p5 p6 p7 (suc (suc (suc zero))) h = p3
each-eight P p0 p1 p2 p3 p4 p5 p6 p7 (suc (suc (suc (suc zero)))) h = p4
each-eight P p0 p1 p2 p3 p4 p5 p6 p7 (suc (suc (suc (suc (suc zero))))) h = p5
each-eight P p0 p1 p2 p3 p4 p5 p6 p7 (suc (suc (suc (suc (suc (suc zero)))))) h = p6
each-eight P p0 p1 p2 p3 p4 p5 p6 p7 (suc (suc (suc (suc (suc (suc (suc zero))))))) h = p7
each-eight P p0 p1 p2 p3 p4 p5 p6 p7 (suc (suc (suc (suc (suc (suc (suc (suc m)))))))) h = absurd (omega arith)

eight-same : (b : Bytes) → ((i : ℕ) → get_or b i 0 < 256) → (i j : ℕ) → eight_at b i ≡ eight_at b j → (m : ℕ) → m < 8 → get_or b (i + m) 0 ≡ get_or b (j + m) 0
unfolding eight_at
eight-same b byte i j e =
    let d0 = digit (get_or b i 0) (get_or b j 0) _ _ (byte i) (byte j) e in
    let d1 = digit (get_or b (i + 1) 0) (get_or b (j + 1) 0) _ _ (byte (i + 1)) (byte (j + 1)) d0.1 in
    let d2 = digit (get_or b (i + 2) 0) (get_or b (j + 2) 0) _ _ (byte (i + 2)) (byte (j + 2)) d1.1 in
    let d3 = digit (get_or b (i + 3) 0) (get_or b (j + 3) 0) _ _ (byte (i + 3)) (byte (j + 3)) d2.1 in
    let d4 = digit (get_or b (i + 4) 0) (get_or b (j + 4) 0) _ _ (byte (i + 4)) (byte (j + 4)) d3.1 in
    let d5 = digit (get_or b (i + 5) 0) (get_or b (j + 5) 0) _ _ (byte (i + 5)) (byte (j + 5)) d4.1 in
    let d6 = digit (get_or b (i + 6) 0) (get_or b (j + 6) 0) _ _ (byte (i + 6)) (byte (j + 6)) d5.1 in
    each-eight (λ m. get_or b (i + m) 0 ≡ get_or b (j + m) 0) (rw (add-zero i, add-zero j) d0.0) d1.0 d2.0 d3.0 d4.0 d5.0 d6.0 d6.1

-- two places of the table whose bytes are equal so far
module _ (b : Bytes) (at start size : ℕ) where
  pub alike-none : Alike b at start size 0
  alike-none = record { within = omega arith; same = λ i h. absurd (omega arith) }

  module _ (k : ℕ) (a : Alike b at start size k) where
    pub alike-flip : Alike b start at size k
    alike-flip = record { within = a.within; same = λ i h. sym (a.same i h) }

  -- words are equal where their bytes are
  eight-alike : Alike b at start size size → (k : ℕ) → k + 8 ≤ size → eight_at b (at + k) ≡ eight_at b (start + k)
  unfolding eight_at
  eight-alike a k h =
      let e : (m : ℕ) → m < 8 → get_or b (at + k + m) 0 ≡ get_or b (start + k + m) 0 =
      λ m l.
      (let p : at + k + m ≡ at + (k + m) = omega arith in
      let q : start + k + m ≡ start + (k + m) = omega arith in
      rw (p, q) (a.same (k + m) (omega arith))) in
      let e0 : get_or b (at + k) 0 ≡ get_or b (start + k) 0 = a.same k (omega arith) in
      rw (e0, e 1 (omega arith), e 2 (omega arith), e 3 (omega arith), e 4 (omega arith), e 5 (omega arith), e 6 (omega arith), e 7 (omega arith))

  pub words_alike : (k x y : ℕ) → ((i : ℕ) → get_or b i 0 < 256) → k + 8 ≤ size → x ≡ eight_at b (at + k) → y ≡ eight_at b (start + k) → WordAlike b at start size k (eqb x y)
  words_alike k x y byte h ex ey =
      record {
        equal = λ e i l g.
            let p : at + i ≡ at + k + (i - k) = omega arith in
            let q : start + i ≡ start + k + (i - k) = omega arith in
            rw (p, q) (eight-same b byte (at + k) (start + k) (sym ex ∙ eqb-true x y e ∙ ey) (i - k) (omega arith));
        differ = λ e. record { equal = λ d. true_false (sym d); differ = λ d a. eqb-false x y e (ex ∙ eight-alike a k h ∙ sym ey) };
      }

-- the strings of two rows: shorter ones come first, then the first byte that differs decides
module _ (b : Bytes) (f i : ℕ) (hf : Inside b f) (hi : Inside b i) where
  pub shorter-before : string_length b f < string_length b i → Before (string_at b f) (string_at b i)
  unfolding key
  shorter-before h =
      record { place = 0; same = λ k l. absurd (omega arith); less = omega (arith, length-string b f hf, length-string b i hi, h) }

  module _ (at start size k : ℕ) (ea : at ≡ string_start b f) (es : start ≡ string_start b i) (ef : string_length b f ≡ size) (ei : string_length b i ≡ size) (a : Alike b at start size k) where
    byte-f : (m : ℕ) → m < size → get_or (string_at b f) m 0 ≡ get_or b (at + m) 0
    byte-f m h = byte_at b f m (omega arith) ∙ ap (λ (n : ℕ). get_or b (n + m) 0) (sym ea)

    byte-i : (m : ℕ) → m < size → get_or (string_at b i) m 0 ≡ get_or b (start + m) 0
    byte-i m h = byte_at b i m (omega arith) ∙ ap (λ (n : ℕ). get_or b (n + m) 0) (sym es)

    same_keys : (m : ℕ) → m < suc k → key (string_at b f) m ≡ key (string_at b i) m
    unfolding key
    same_keys zero h = length-string b f hf ∙ ef ∙ sym ei ∙ sym (length-string b i hi)
    same_keys (suc m) h = byte-f m (omega (arith, a.within)) ∙ a.same m (omega arith) ∙ sym (byte-i m (omega (arith, a.within)))

    pub alike_all : k ≡ size → string_at b f ≡ string_at b i
    alike_all h =
        let lf : length (string_at b f) ≡ size = length-string b f hf ∙ ef in
        let li : length (string_at b i) ≡ size = length-string b i hi ∙ ei in
        ext_get_or 0 (string_at b f) (string_at b i) (lf ∙ sym li) (λ m l. byte-f m (omega arith) ∙ a.same m (omega arith) ∙ sym (byte-i m (omega arith)))

    -- and back: bytes of equal strings are equal
    pub alike-strings : string_at b f ≡ string_at b i → Alike b at start size size
    alike-strings e =
        record { within = omega arith; same = λ m h. sym (byte-f m h) ∙ ap (λ (s : Bytes). get_or s m 0) e ∙ byte-i m h }

    pub alike-before : k < size → get_or b (at + k) 0 < get_or b (start + k) 0 → Before (string_at b f) (string_at b i)
    unfolding key
    alike-before h l = record { place = suc k; same = same_keys; less = omega (arith, byte-f k h, byte-i k h, l) }

-- halving: where a string belongs
pub halved : (low high : ℕ) → low < high → (low ≤ low + (high - low) / 2) × (low + (high - low) / 2 < high)
halved low high h = (omega arith, omega arith)

module _ (b : Bytes) (firsts order : List ℕ) (used : ℕ) (s : Bytes) where
  module _ (o : Ordered b firsts order used) (low high : ℕ) (w : Between b firsts order used s low high) where
    module _ (m : ℕ) (hl : low ≤ m) (hh : m < high) where
      pub between-low : Before (ordered_at b firsts order m) s → Between b firsts order used s (m + 1) high
      between-low p =
          record {
            meet = omega arith;
            within = w.within;
            below = λ k h.
                by (ltb k m)
                (λ e. before_trans _ _ _ (o.ascending k m (ltb-true _ _ e) (omega (arith, w.within))) p)
                (λ e. let g : k ≡ m = omega (arith, ltb-false k m e) in rw g p);
            above = w.above;
          }

      pub between-high : Before s (ordered_at b firsts order m) → Between b firsts order used s low m
      between-high p =
          record {
            meet = hl;
            within = omega (arith, w.within);
            below = w.below;
            above = λ k h l.
                by (ltb m k)
                (λ e. before_trans _ _ _ p (o.ascending m k (ltb-true _ _ e) l))
                (λ e. let g : k ≡ m = omega (arith, ltb-false m k e) in rw g p);
          }

    -- it stands at no place
    pub between-absent : low ≡ high → (j : ℕ) → j < used → string_at b (get_or firsts j 0) ≡ s → ⊥
    unfolding ordered_at
    between-absent m j h e =
        let t = o.every j h in
        let g : ordered_at b firsts order t.place ≡ s = ap (λ (n : ℕ). string_at b (get_or firsts n 0)) t.there ∙ e in
        by (ltb t.place low)
        (λ l. before-differ _ _ (w.below t.place (ltb-true _ _ l)) g)
        (λ l. before-differ _ _ (w.above t.place (omega (arith, ltb-false t.place low l)) t.below) (sym g))

-- a turn of the search: the row at the middle place, and what a comparison with its string leaves
module _ {b : Bytes} {firsts order : List ℕ} {used i : ℕ} (p : Searchable b firsts order used i) {low high : ℕ} (w : Between b firsts order used (string_at b i) low high)
    {m : ℕ} (hl : low ≤ m) (hh : m < high) where
  pub middle_number : get_or order m 0 < used
  middle_number = p.ordered.number m (omega (arith, w.within))

  pub middle_inside : Inside b (get_or firsts (get_or order m 0) 0)
  middle_inside = p.among (get_or order m 0) middle_number

  middle_low : Before (string_at b (get_or firsts (get_or order m 0) 0)) (string_at b i) → Between b firsts order used (string_at b i) (m + 1) high
  unfolding ordered_at
  middle_low q = between-low b firsts order used (string_at b i) p.ordered low high w m hl hh q

  middle_high : Before (string_at b i) (string_at b (get_or firsts (get_or order m 0) 0)) → Between b firsts order used (string_at b i) low m
  unfolding ordered_at
  middle_high q = between-high b firsts order used (string_at b i) p.ordered low high w m hl hh q

  module _ {length size : ℕ} (el : length ≡ string_length b (get_or firsts (get_or order m 0) 0)) (es : size ≡ string_length b i) where
    pub turn-shorter : length < size → Between b firsts order used (string_at b i) (m + 1) high
    turn-shorter h = middle_low (shorter-before b (get_or firsts (get_or order m 0) 0) i middle_inside p.sought (omega arith))

    pub turn-longer : size < length → Between b firsts order used (string_at b i) low m
    turn-longer h = middle_high (shorter-before b i (get_or firsts (get_or order m 0) 0) p.sought middle_inside (omega arith))

    module _ (e : length ≡ size) {at start k : ℕ} (ea : at ≡ string_start b (get_or firsts (get_or order m 0) 0)) (et : start ≡ string_start b i) (a : Alike b at start size k) where
      pub turn-lesser : k < size → get_or b (at + k) 0 < get_or b (start + k) 0 → Between b firsts order used (string_at b i) (m + 1) high
      turn-lesser h l =
          middle_low (alike-before b (get_or firsts (get_or order m 0) 0) i middle_inside p.sought at start size k ea et (sym el ∙ e) (sym es) a h l)

      pub turn-greater : k < size → get_or b (start + k) 0 < get_or b (at + k) 0 → Between b firsts order used (string_at b i) low m
      turn-greater h l =
          middle_high (alike-before b i (get_or firsts (get_or order m 0) 0) p.sought middle_inside start at size k et ea (sym es) (sym el ∙ e) (alike-flip b at start size k a) h l)

      pub turn-equal : k ≡ size → string_at b (get_or firsts (get_or order m 0) 0) ≡ string_at b i
      turn-equal h = alike_all b (get_or firsts (get_or order m 0) 0) i middle_inside p.sought at start size k ea et (sym el ∙ e) (sym es) a h

  -- a match, and its end without one
  pub sought-at : string_at b (get_or firsts (get_or order m 0) 0) ≡ string_at b i → Sought b firsts order used i (Ok (get_or order m 0))
  sought-at h =
      record {
        at = λ j e. (let q : get_or order m 0 ≡ j = cc in (rw q at middle_number, rw q at h));
        nowhere = λ k e. (let z : ◌≡◌ {A = ℕ} 0 1 = cc in absurd (omega arith));
      }

-- a place below p, at p, or behind it
split : {C : Type 0} (k p : ℕ) → (k < p → C) → (k ≡ p → C) → ((m : ℕ) → k ≡ m + 1 → p ≤ m → C) → C
split k p f g h =
    by (ltb k p)
    (λ e. f (ltb-true k p e))
    (λ e. by (eqb k p)
    (λ d. g (eqb-true k p d))
    (λ d.
    let l : p ≤ k = ltb-false k p e in
    let n : k ≡ p → ⊥ = eqb-false k p d in
    h (k - 1) (omega arith) (omega arith)))

-- a first use more: its number is given its place in the order
module _ (b : Bytes) (firsts more order new : List ℕ) (used row p : ℕ) (rows-old : (j : ℕ) → j < used → get_or more j 0 ≡ get_or firsts j 0) (rows_new : get_or more used 0 ≡ row)
    (o : Ordered b firsts order used) (w : Between b firsts order used (string_at b row) p p) (n : Inserted order new used p) where
  below_at : (k : ℕ) → k < p → ordered_at b more new k ≡ ordered_at b firsts order k
  unfolding ordered_at
  below_at k h = rw (n.below k h) (ap (string_at b) (rows-old (get_or order k 0) (o.number k (omega (arith, w.within)))))

  here-at : ordered_at b more new p ≡ string_at b row
  unfolding ordered_at
  here-at = rw n.here (ap (string_at b) rows_new)

  above_at : (k : ℕ) → p ≤ k → k < used → ordered_at b more new (k + 1) ≡ ordered_at b firsts order k
  unfolding ordered_at
  above_at k h l = rw (n.above k h l) (ap (string_at b) (rows-old (get_or order k 0) (o.number k l)))

  ascending-more : (k l : ℕ) → k < l → l < used + 1 → Before (ordered_at b more new k) (ordered_at b more new l)
  ascending-more k l h t =
      split l p
      (λ e. rw (below_at k (omega arith), below_at l e) (o.ascending k l h (omega (arith, w.within))))
      (λ e. let g : k < p = omega arith in rw (e, below_at k g, here-at) (w.below k g))
      (λ m e i.
      split k p
      (λ f. rw (e, below_at k f, above_at m i (omega arith)) (o.ascending k m (omega arith) (omega arith)))
      (λ f. rw (e, f, here-at, above_at m i (omega arith)) (w.above m i (omega arith)))
      (λ d f g. rw (e, f, above_at d g (omega arith), above_at m i (omega arith)) (o.ascending d m (omega arith) (omega arith))))

  number_more : (k : ℕ) → k < used + 1 → get_or new k 0 < used + 1
  number_more k h =
      split k p
      (λ e. omega (arith, n.below k e, o.number k (omega (arith, w.within))))
      (λ e. rw e (omega (arith, n.here)))
      (λ m e i. rw e (omega (arith, n.above m i (omega arith), o.number m (omega arith))))

  every_more : (j : ℕ) → j < used + 1 → Standing new (used + 1) j
  every_more j h =
      by (ltb j used)
      (λ e.
      let t = o.every j (ltb-true _ _ e) in
      by (ltb t.place p)
      (λ f. record { place = t.place; below = omega (arith, t.below); there = n.below t.place (ltb-true _ _ f) ∙ t.there })
      (λ f. record { place = t.place + 1; below = omega (arith, t.below); there = n.above t.place (ltb-false _ _ f) t.below ∙ t.there }))
      (λ e.
      let g : used ≡ j = omega (arith, ltb-false j used e) in
      record { place = p; below = omega (arith, w.within); there = n.here ∙ g })

  pub ordered-more : Ordered b more new (used + 1)
  ordered-more = record { number = number_more; every = every_more; ascending = ascending-more }

-- numbers put in order one by one: a string that differs from all before it is found nowhere
module _ {b : Bytes} {firsts order₀ order : List ℕ} {used k : ℕ} (q : Sortable b firsts order₀ used) (h : k < used) (o : Ordered b firsts order k)
    {f : Result ℕ ℕ} (s : Sought b firsts order k (get_or firsts k 0) f) where
  -- whichever way the code reads its place
  pub sort-nowhere : (p place : ℕ) → (f ≡ Ok p) ⊎ (f ≡ Err p) → place ≡ p → f ≡ Err place
  sort-nowhere p place (inl e) z = absurd (q.apart.differ p k (s.at p e).0 h (s.at p e).1)
  sort-nowhere p place (inr e) z = rw z e

  pub sort-next : (p : ℕ) → f ≡ Err p → (new : List ℕ) → Inserted order new k p → Ordered b firsts new (k + 1)
  sort-next p e new n = ordered-more b firsts firsts order new k (get_or firsts k 0) p (λ j l. refl) refl o (s.nowhere p e) n
