-- The model's rows, kept rows and entries, by row numbers: a row more is an entry more or none, and the first string out of range refuses with 4.
use Rattle.std.proofs.Common.{◌≡◌, ℕ, zero, suc, ◌+◌, ◌-◌, ◌*◌, ◌<◌, ◌≤◌, Bool, true, false, eqb, leb, List, [], ◌∷◌, ◌++◌, length, get_or, take, drop, sym, refl, ap, ◌∙◌, ap₂, append-nil, add-zero, zero-add, add-one, arith, length-append, length-drop, get_or-drop, get_or-take, drop-drop, le-leb, leb-false, leb-true}
use borrow.Author.Tests.{lt-leb}
use Rattle.model.specs.Res.{Res, refuse, ok, both, either, need, each, map_res, ◌>>=◌, ◌>>◌}
use Rattle.model.specs.Bytes.{Bytes, word16, part}
use Rattle.model.specs.Name.{NameEntry, name_rows, kept_rows, name_entry, kept_ids, is_kept, name_entries}
use Rattle.model.proofs.Res.{need-ok, bind_ok, ok-refuse, ok_inj, bind_inv, both_true, true_false}
use Rattle.name.specs.Rows.{row_at, string_start, string_length, string_at, kept_at, inside_at, entry_at, tested, entries, Inside, Tested}

pub by : {C : Type 0} (b : Bool) → (b ≡ true → C) → (b ≡ false → C) → C
by true f g = f refl
by false f g = g refl

-- a word of a row
pub word16-row : (b : Bytes) (i k : ℕ) → k + 2 ≤ 12 → word16 (row_at b i) k ≡ word16 b (6 + 12 * i + k)
word16-row b i k h =
    ap₂ (λ (x y : ℕ). x * 256 + y)
    (get_or-take 12 (drop (6 + 12 * i) b) k 0 (omega arith) ∙ get_or-drop (6 + 12 * i) b k 0)
    (get_or-take 12 (drop (6 + 12 * i) b) (k + 1) 0 (omega arith) ∙ get_or-drop (6 + 12 * i) b (k + 1) 0 ∙ ap (λ (n : ℕ). get_or b n 0) (more (6 + 12 * i) k))
  where
    more : (n k : ℕ) → n + (k + 1) ≡ n + k + 1
    more n k = omega arith

-- the tests of a row, by its words in the table
module _ (b : Bytes) (i p e : ℕ) (u : Bool) (ep : p ≡ word16 b (6 + 12 * i)) (ee : e ≡ word16 b (6 + 12 * i + 2))
    (eu : u ≡ either (eqb p 0) (both (eqb p 3) (either (eqb e 0) (either (eqb e 1) (eqb e 10))))) where
  kept-words : kept_at b i ≡ both u (either (leb (word16 b (6 + 12 * i + 6)) 9) (both (leb 11 (word16 b (6 + 12 * i + 6))) (leb (word16 b (6 + 12 * i + 6)) 14)))
  unfolding kept_at
  kept-words =
      let p0 : word16 (row_at b i) 0 ≡ p = word16-row b i 0 (omega arith) ∙ ap (word16 b) (add-zero (6 + 12 * i)) ∙ sym ep in
      let e2 : word16 (row_at b i) 2 ≡ e = word16-row b i 2 (omega arith) ∙ sym ee in
      ap (λ (x : ℕ). kept_ids x (word16 (row_at b i) 2) (word16 (row_at b i) 6)) p0
      ∙ ap (λ (x : ℕ). kept_ids p x (word16 (row_at b i) 6)) e2
      ∙ ap (λ (x : ℕ). kept_ids p e x) (word16-row b i 6 (omega arith))
      ∙ ap (λ (t : Bool). both t (either (leb (word16 b (6 + 12 * i + 6)) 9) (both (leb 11 (word16 b (6 + 12 * i + 6))) (leb (word16 b (6 + 12 * i + 6)) 14)))) (sym eu)

  pub kept-by-id : u ≡ true → (n : ℕ) (w : Bool) → n ≡ word16 b (6 + 12 * i + 6) → w ≡ either (leb n 9) (both (leb 11 n) (leb n 14)) → w ≡ kept_at b i
  kept-by-id t n w en ew = rw (ew, en, kept-words, t)

  pub kept-by_platform : u ≡ false → u ≡ kept_at b i
  kept-by_platform t = rw (kept-words, t)

module _ (b : Bytes) (i : ℕ) where
  pub inside_far : 65535 < word16 b (6 + 12 * i + 10) + string_length b i → inside_at b i ≡ false
  unfolding inside_at
  inside_far h = rw (lt-leb (word16 b (6 + 12 * i + 10) + string_length b i) 65535 h)

  pub inside-near : word16 b (6 + 12 * i + 10) + string_length b i ≤ 65535 → inside_at b i ≡ leb (string_start b i + string_length b i) (length b)
  unfolding inside_at
  inside-near h = rw (le-leb (word16 b (6 + 12 * i + 10) + string_length b i) 65535 h)

-- rows, kept rows and answers of two runs of rows
rows_append : (n m : ℕ) (c : Bytes) → name_rows (n + m) c ≡ name_rows n c ++ name_rows m (drop (12 * n) c)
rows_append zero m c = ap (λ (k : ℕ). name_rows k c) (zero-add m)
rows_append (suc n) m c =
    let e : suc n + m ≡ suc (n + m) = omega arith in
    let f : 12 + 12 * n ≡ 12 * suc n = omega arith in
    let d : drop (12 * n) (drop 12 c) ≡ drop (12 * suc n) c = drop-drop (12 * n) 12 c ∙ ap (λ (k : ℕ). drop k c) f in
    ap (λ (k : ℕ). name_rows k c) e ∙ ap (λ (r : List Bytes). take 12 c ∷ r) (rows_append n m (drop 12 c) ∙ ap (λ (x : Bytes). name_rows n (drop 12 c) ++ name_rows m x) d)

kept_append : (xs ys : List Bytes) → kept_rows (xs ++ ys) ≡ kept_rows xs ++ kept_rows ys
kept_append [] ys = refl
kept_append (x ∷ xs) ys = by (is_kept x) (λ e. simp (e, kept_append xs ys)) (λ e. simp (e, kept_append xs ys))

each-ok : {A B : Type 0} (f : A → Res B) (xs ys : List A) (a b : List B) → each f xs ≡ ok a → each f ys ≡ ok b → each f (xs ++ ys) ≡ ok (a ++ b)
each-ok f [] ys a b e g = g ∙ ap (λ z. ok (z ++ b)) (ok_inj e)
each-ok f (x ∷ xs) ys a b e g =
    let s = bind_inv (f x) _ a e in
    let r = bind_inv (each f xs) _ a s.then in
    bind_ok _ _ s.first (bind_ok _ _ (each-ok f xs ys r.value b r.first g) (ap (λ z. ok (z ++ b)) (ok_inj r.then)))

each-refuse : {A B : Type 0} (f : A → Res B) (xs ys : List A) (a : List B) (k : ℕ) → each f xs ≡ ok a → each f ys ≡ refuse k → each f (xs ++ ys) ≡ refuse k
each-refuse f [] ys a k e g = g
each-refuse f (x ∷ xs) ys a k e g =
    let s = bind_inv (f x) _ a e in
    let r = bind_inv (each f xs) _ a s.then in
    bind_ok _ _ s.first (ap (λ m. m >>= λ zs. ok (s.value ∷ zs)) (each-refuse f xs ys r.value k r.first g))

-- an entry, made or refused
named : (st r : Bytes) (o l : ℕ) → word16 r 10 ≡ o → word16 r 8 ≡ l → o + l ≤ 65535 → o + l ≤ length st
    → name_entry st r ≡ ok (record { ids = take 8 r; string = part st o l })
unfolding name_entry
named st r o l eo el h h' =
    rw (eo, el) (need-ok 4 (leb (o + l) 65535) _ (le-leb (o + l) 65535 h) (need-ok 4 (leb (o + l) (length st)) _ (le-leb (o + l) (length st) h') refl))

unnamed : (st r : Bytes) (o l : ℕ) → word16 r 10 ≡ o → word16 r 8 ≡ l → both (leb (o + l) 65535) (leb (o + l) (length st)) ≡ false → name_entry st r ≡ refuse 4
unfolding name_entry
unnamed st r o l eo el e = rw (eo, el) (go (leb (o + l) 65535) (leb (o + l) (length st)) _ e)
  where
    go : (t u : Bool) (z : Res NameEntry) → both t u ≡ false → (need 4 t >> (need 4 u >> z)) ≡ refuse 4
    go true true z e = true_false e
    go true false z e = refl
    go false u z e = refl

behind : (a o l n : ℕ) → a ≤ n → leb (a + o + l) n ≡ leb (o + l) (n - a)
behind a o l n h =
    by (leb (o + l) (n - a))
    (λ e. le-leb (a + o + l) n (omega (arith, leb-true (o + l) (n - a) e)) ∙ sym e)
    (λ e. lt-leb (a + o + l) n (omega (arith, leb-false (o + l) (n - a) e)) ∙ sym e)

module _ (b : Bytes) (i : ℕ) where
  -- a row more: an entry more, or none
  pub entries-kept : kept_at b i ≡ true → entries b (i + 1) ≡ entries b i ++ (entry_at b i ∷ [])
  unfolding entries
  entries-kept k = rw (add-one i, k)

  pub entries_skip : kept_at b i ≡ false → entries b (i + 1) ≡ entries b i
  unfolding entries
  entries_skip k = rw (add-one i, k) (append-nil (entries b i))

  kept_more : (m : ℕ) → kept_rows (name_rows (i + suc m) (drop 6 b)) ≡ kept_rows (name_rows i (drop 6 b)) ++ kept_rows (row_at b i ∷ name_rows m (drop (6 + 12 * i + 12) b))
  kept_more m =
      let e : drop 12 (drop (6 + 12 * i) b) ≡ drop (6 + 12 * i + 12) b = drop-drop 12 (6 + 12 * i) b in
      ap kept_rows
      (rows_append i (suc m) (drop 6 b)
      ∙ ap (λ (x : Bytes). name_rows i (drop 6 b) ++ (take 12 x ∷ name_rows m (drop 12 x))) (drop-drop (12 * i) 6 b)
      ∙ ap (λ (x : Bytes). name_rows i (drop 6 b) ++ (row_at b i ∷ name_rows m x)) e)
      ∙ kept_append (name_rows i (drop 6 b)) (row_at b i ∷ name_rows m (drop (6 + 12 * i + 12) b))

-- one row, as the model tests it
module _ (b : Bytes) (i : ℕ) (storage : word16 b 4 ≤ length b) where
  left_over : (o l : ℕ) → leb (word16 b 4 + o + l) (length b) ≡ leb (o + l) (length (drop (word16 b 4) b))
  left_over o l = behind (word16 b 4) o l (length b) storage ∙ ap (λ (n : ℕ). leb (o + l) n) (sym (length-drop (word16 b 4) b))

  pub entry-ok : inside_at b i ≡ true → name_entry (drop (word16 b 4) b) (row_at b i) ≡ ok (entry_at b i)
  unfolding inside_at entry_at string_at
  entry-ok e =
      let o : ℕ = word16 b (6 + 12 * i + 10) in
      let l : ℕ = word16 b (6 + 12 * i + 8) in
      let h = both_true (leb (o + l) 65535) (leb (string_start b i + l) (length b)) e in
      let h1 : o + l ≤ 65535 = leb-true (o + l) 65535 h.0 in
      let h2 : o + l ≤ length (drop (word16 b 4) b) = leb-true (o + l) _ (sym (left_over o l) ∙ h.1) in
      named (drop (word16 b 4) b) (row_at b i) o l (word16-row b i 10 (omega arith)) (word16-row b i 8 (omega arith)) h1 h2
      ∙ ap (λ (x : Bytes). ok (record { ids = take 8 (row_at b i); string = take l x })) (drop-drop o (word16 b 4) b)

  pub entry-refuse : inside_at b i ≡ false → name_entry (drop (word16 b 4) b) (row_at b i) ≡ refuse 4
  unfolding inside_at
  entry-refuse e =
      let o : ℕ = word16 b (6 + 12 * i + 10) in
      let l : ℕ = word16 b (6 + 12 * i + 8) in
      unnamed (drop (word16 b 4) b) (row_at b i) o l (word16-row b i 10 (omega arith)) (word16-row b i 8 (omega arith))
      (ap (λ (t : Bool). both (leb (o + l) 65535) t) (sym (left_over o l)) ∙ e)

  pub tested-kept : kept_at b i ≡ true → inside_at b i ≡ true → tested b i ≡ ok (entries b i) → tested b (i + 1) ≡ ok (entries b (i + 1))
  unfolding tested kept_at
  tested-kept k e t =
      rw (entries-kept b i k, kept_more b i 0, k)
      (each-ok (name_entry (drop (word16 b 4) b)) (kept_rows (name_rows i (drop 6 b))) (row_at b i ∷ []) (entries b i) (entry_at b i ∷ []) t (bind_ok _ _ (entry-ok e) refl))

  pub tested_skip : kept_at b i ≡ false → tested b i ≡ ok (entries b i) → tested b (i + 1) ≡ ok (entries b (i + 1))
  unfolding tested kept_at
  tested_skip k t = rw (entries_skip b i k, kept_more b i 0, k) (ap (each (name_entry (drop (word16 b 4) b))) (append-nil (kept_rows (name_rows i (drop 6 b)))) ∙ t)

  pub tested-stop : (n : ℕ) → i < n → kept_at b i ≡ true → inside_at b i ≡ false → tested b i ≡ ok (entries b i) → tested b n ≡ refuse 4
  unfolding tested kept_at
  tested-stop n h k e t =
      let f : n ≡ i + suc (n - (i + 1)) = omega arith in
      rw (f, kept_more b i (n - (i + 1)), k)
      (each-refuse (name_entry (drop (word16 b 4) b)) (kept_rows (name_rows i (drop 6 b))) (row_at b i ∷ kept_rows (name_rows (n - (i + 1)) (drop (6 + 12 * i + 12) b))) (entries b i) 4 t
      (rw (entry-refuse e)))

-- the header's tests, and what they leave
module _ (b : Bytes) where
  pub tested-zero : tested b 0 ≡ ok (entries b 0)
  unfolding tested entries
  tested-zero = refl

  pub named-short : length b < 6 → name_entries b ≡ refuse 3
  unfolding name_entries
  named-short h = rw (lt-leb 6 (length b) h)

  pub named-cut : 6 ≤ length b → length b < 6 + 12 * word16 b 2 → name_entries b ≡ refuse 3
  unfolding name_entries
  named-cut h h' = rw (le-leb 6 (length b) h, lt-leb (6 + 12 * word16 b 2) (length b) h')

  pub named_past : 6 + 12 * word16 b 2 ≤ length b → length b < word16 b 4 → name_entries b ≡ refuse 3
  unfolding name_entries
  named_past h h' =
      let k : 6 ≤ length b = omega arith in
      rw (le-leb 6 (length b) k, le-leb (6 + 12 * word16 b 2) (length b) h, lt-leb (word16 b 4) (length b) h')

  pub named-rows : 6 + 12 * word16 b 2 ≤ length b → word16 b 4 ≤ length b → name_entries b ≡ tested b (word16 b 2)
  unfolding name_entries tested
  named-rows h h' =
      let k : 6 ≤ length b = omega arith in
      rw (le-leb 6 (length b) k, le-leb (6 + 12 * word16 b 2) (length b) h, le-leb (word16 b 4) (length b) h')

-- backwards: no refusal, so every kept string is in its range, and the entries are those by row numbers
pub record Named (b : Bytes) (es : List NameEntry) : Type 0 where
  pub tested : Tested b
  pub same : es ≡ entries b (word16 b 2)

module _ (b : Bytes) (es : List NameEntry) (storage : word16 b 4 ≤ length b) (n : ℕ) (e : tested b n ≡ ok es) where
  all_tested : (i : ℕ) → i ≤ n → tested b i ≡ ok (entries b i)
  all_tested zero h = tested-zero b
  all_tested (suc i) h =
      let ih = all_tested i (omega arith) in
      rw (← add-one i)
      (by (kept_at b i)
      (λ k. by (inside_at b i) (λ j. tested-kept b i storage k j ih) (λ j. ok-refuse (sym e ∙ tested-stop b i storage n (omega arith) k j ih)))
      (λ k. tested_skip b i storage k ih))

  all-inside : (i : ℕ) → i < n → kept_at b i ≡ true → inside_at b i ≡ true
  all-inside i h k = by (inside_at b i) (λ j. j) (λ j. ok-refuse (sym e ∙ tested-stop b i storage n h k j (all_tested i (omega arith))))

pub inside-made : (b : Bytes) (i : ℕ) → 6 + 12 * word16 b 2 ≤ length b → i < word16 b 2 → inside_at b i ≡ true → Inside b i
unfolding inside_at
inside-made b i h h' e =
    record { row = omega arith; string = leb-true _ _ (both_true (leb (word16 b (6 + 12 * i + 10) + string_length b i) 65535) _ e).1 }

pub named_inv : (b : Bytes) (es : List NameEntry) → name_entries b ≡ ok es → Named b es
named_inv b es e =
    by (leb (6 + 12 * word16 b 2) (length b))
    (λ t. by (leb (word16 b 4) (length b))
    (λ u.
    let h : 6 + 12 * word16 b 2 ≤ length b = leb-true _ _ t in
    let h' : word16 b 4 ≤ length b = leb-true _ _ u in
    let f : tested b (word16 b 2) ≡ ok es = sym (named-rows b h h') ∙ e in
    record {
      tested = record { rows = h; storage = h'; inside = λ i lt k. inside-made b i h lt (all-inside b es h' (word16 b 2) f i lt k) };
      same = ok_inj (sym f ∙ all_tested b es h' (word16 b 2) f (word16 b 2) (omega arith));
    })
    (λ u. ok-refuse (sym e ∙ named_past b (leb-true _ _ t) (leb-false _ _ u))))
    (λ t. by (leb 6 (length b))
    (λ u. ok-refuse (sym e ∙ named-cut b (leb-true _ _ u) (leb-false _ _ t)))
    (λ u. ok-refuse (sym e ∙ named-short b (leb-false _ _ u))))

-- the pass that tests ranges and counts
pub record Counting (b : Bytes) (i n : ℕ) : Type 0 where
  pub ranges : tested b i ≡ ok (entries b i)
  pub count : n ≡ length (entries b i)

module _ (b : Bytes) where
  pub counting-start : Counting b 0 0
  unfolding entries
  counting-start = record { ranges = tested-zero b; count = refl }

  module _ (storage : word16 b 4 ≤ length b) (i n : ℕ) (c : Counting b i n) where
    pub counting_kept : kept_at b i ≡ true → inside_at b i ≡ true → Counting b (i + 1) (n + 1)
    counting_kept k e =
        record {
          ranges = tested-kept b i storage k e c.ranges;
          count = rw (entries-kept b i k, length-append) (ap (λ (x : ℕ). x + 1) c.count);
        }

    pub counting-skip : kept_at b i ≡ false → Counting b (i + 1) n
    counting-skip k = record { ranges = tested_skip b i storage k c.ranges; count = rw (entries_skip b i k) c.count }

    pub counting-stop : (m : ℕ) → i < m → kept_at b i ≡ true → inside_at b i ≡ false → refuse 4 ≡ map_res length (tested b m)
    counting-stop m h k e = rw (tested-stop b i storage m h k e c.ranges)
