-- The new table: which refusal or length each answer stands for, and the records, strings and header put together.
use Rattle.std.proofs.Common.{◌≡◌, ℕ, zero, suc, ◌+◌, ◌*◌, ◌<◌, ◌≤◌, true, false, leb, List, [], ◌∷◌, ◌++◌, map, length, get_or, take, drop, sym, refl, ap, ◌∙◌, ap₂, append_assoc, append-nil, add-zero, add-one, arith, length-append, length-drop, take-append-drop, length-take, length-take-le, take-suc, take-take, drop_at, eq-eqb, ne_eqb, le-leb, leb-false, leb-true}
use mathlib.Core.List.{map-append}
use borrow.Author.Tests.{lt-leb}
use Rattle.model.specs.Res.{Res, refuse, ok, need, map_res, is_ok, value_of, ◌>>=◌, ◌>>◌}
use Rattle.model.specs.Bytes.{Bytes, word16, be16, put, over, part, concat}
use Rattle.model.specs.Name.{NameEntry, new_row, new_name, name_entries, cut_name, offset_of, store}
use Rattle.model.proofs.Res.{ok-refuse, ok_inj, true_false, bind_ok}
use Rattle.model.proofs.Bytes.{put-put, put-zero}
use Rattle.name.specs.Rows.{string_at, kept_at, entry_at, entries, strings, distinct_bytes, new_record, new_records, new_table, Inside, Tested, Roomy, Recorded}
use Rattle.name.proofs.Rows.{by, entries-kept, entries_skip, named_inv}
use Rattle.name.proofs.Order.{length-string}
use Rattle.name.proofs.Strings.{concat-append, string_stays, firsts-strings, firsts-inside}

-- a record, and records row by row
module _ (b : Bytes) (i : ℕ) where
  pub record_is-row : (xs : List Bytes) → Inside b i → new_row xs (entry_at b i) ≡ new_record b i (offset_of (string_at b i) xs)
  unfolding entry_at new_record
  record_is-row xs h =
      ap₂ (λ (p : Bytes) (l : ℕ). p ++ (be16 l ++ be16 (offset_of (string_at b i) xs))) (take-take 8 12 (drop (6 + 12 * i) b) (omega arith)) (length-string b i h)

  pub length_record : (o : ℕ) → 6 + 12 * i + 12 ≤ length b → length (new_record b i o) ≡ 12
  unfolding new_record
  length_record o h = simp (length-append, length-take, length-drop) (omega arith)

  pub records-kept : kept_at b i ≡ true → Inside b i → new_records b (i + 1) ≡ new_records b i ++ new_record b i (offset_of (string_at b i) (strings b (word16 b 2)))
  unfolding new_records
  records-kept k h =
      let s : List Bytes = strings b (word16 b 2) in
      ap (λ es. concat (map (new_row s) es)) (entries-kept b i k)
      ∙ ap concat (map-append (new_row s) (entries b i) (entry_at b i ∷ []))
      ∙ concat-append (map (new_row s) (entries b i)) (new_row s (entry_at b i) ∷ [])
      ∙ ap (λ (r : Bytes). concat (map (new_row s) (entries b i)) ++ r) (append-nil (new_row s (entry_at b i)) ∙ record_is-row s h)

  pub records_skip : kept_at b i ≡ false → new_records b (i + 1) ≡ new_records b i
  unfolding new_records
  records_skip k = ap (λ es. concat (map (new_row (strings b (word16 b 2))) es)) (entries_skip b i k)

pub length-records : (b : Bytes) → Tested b → (n : ℕ) → n ≤ word16 b 2 → length (new_records b n) ≡ 12 * length (entries b n)
length-records b t zero h = unfold new_records entries in refl
length-records b t (suc n) h =
    let ih = length-records b t n (omega arith) in
    rw (← add-one n)
    (by (kept_at b n)
    (λ k.
    let j : Inside b n = t.inside n (omega arith) k in
    rw (records-kept b n k j, entries-kept b n k, length-append, length-append, length_record b n _ j.row, ih) (omega arith))
    (λ k. rw (records_skip b n k, entries_skip b n k) ih))

pub length_table : (b : Bytes) → Tested b → length (new_name (entries b (word16 b 2))) ≡ 6 + 12 * length (entries b (word16 b 2)) + length (concat (strings b (word16 b 2)))
unfolding new_name strings new_records
length_table b t = simp length-append (omega (arith, length-records b t (word16 b 2) (omega arith)))

-- step 7 by cases
module _ (b : Bytes) where
  pub cut_short : length b < 2 → cut_name b ≡ refuse 3
  unfolding cut_name
  cut_short h = rw (lt-leb 2 (length b) h)

  pub cut_other : 2 ≤ length b → (word16 b 0 ≡ 0 → ⊥) → cut_name b ≡ ok b
  unfolding cut_name
  cut_other h v = rw (le-leb 2 (length b) h, ne_eqb (word16 b 0) 0 v)

  cut-zero : 2 ≤ length b → word16 b 0 ≡ 0 → cut_name b ≡ (name_entries b >>= λ es. (need 5 (leb (length (concat (store [] es))) 65535) >> (need 5 (leb (length es) 5460) >> ok (new_name es))))
  unfolding cut_name
  cut-zero h v = rw (le-leb 2 (length b) h, eq-eqb (word16 b 0) 0 v)

  -- of the entries that the tests left
  pub cut-kept : 2 ≤ length b → word16 b 0 ≡ 0 → (es : List NameEntry) → name_entries b ≡ ok es → cut_name b ≡ new_table b
  unfolding new_table strings
  cut-kept h v es e = cut-zero h v ∙ bind_ok _ _ (e ∙ ap ok (named_inv b es e).same) refl

  pub cut-refused : 2 ≤ length b → word16 b 0 ≡ 0 → (k : ℕ) → name_entries b ≡ refuse k → cut_name b ≡ refuse k
  cut-refused h v k e = cut-zero h v ∙ rw e

-- what a count of the entries says of them
pub record Entries (m : Res (List NameEntry)) (n : ℕ) : Type 0 where
  pub value : List NameEntry
  pub made : m ≡ ok value
  pub count : n ≡ length value

pub entries-counted : (m : Res (List NameEntry)) (n : ℕ) → ok n ≡ map_res length m → Entries m n
entries-counted (refuse k) n e = ok-refuse e
entries-counted (ok es) n e = record { value = es; made = refl; count = ok_inj e }

pub entries-refused : (m : Res (List NameEntry)) (k : ℕ) → refuse k ≡ map_res length m → m ≡ refuse k
entries-refused (refuse j) k e = let z : j ≡ k = cc in ap refuse z
entries-refused (ok es) k e = ok-refuse (sym e)

-- the two refusals by 5, and the length
module _ (b : Bytes) where
  pub table_many : 5460 < length (entries b (word16 b 2)) → refuse 5 ≡ map_res length (new_table b)
  unfolding new_table
  table_many h =
      by (leb (length (concat (strings b (word16 b 2)))) 65535)
      (λ e. rw (e, lt-leb (length (entries b (word16 b 2))) 5460 h))
      (λ e. rw e)

  pub table_long : (k : ℕ) → refuse k ≡ distinct_bytes b → refuse k ≡ map_res length (new_table b)
  unfolding new_table distinct_bytes
  table_long k e =
      by (leb (length (concat (strings b (word16 b 2)))) 65535)
      (λ t. ok-refuse (sym (rw t at e)))
      (λ t. rw t (rw t at e))

  pub bytes_small : (n : ℕ) → ok n ≡ distinct_bytes b → (n ≡ length (concat (strings b (word16 b 2)))) × (n ≤ 65535)
  unfolding distinct_bytes
  bytes_small n e =
      by (leb (length (concat (strings b (word16 b 2)))) 65535)
      (λ t.
      let z : n ≡ length (concat (strings b (word16 b 2))) = ok_inj (rw t at e) in
      (z, rw z (leb-true (length (concat (strings b (word16 b 2)))) 65535 t)))
      (λ t. ok-refuse (rw t at e))

  pub table_size : Tested b → (n k : ℕ) → n ≡ length (entries b (word16 b 2)) → n ≤ 5460 → ok k ≡ distinct_bytes b → ok (6 + 12 * n + k) ≡ map_res length (new_table b)
  unfolding new_table
  table_size t n k en few e =
      let z = bytes_small k e in
      let f : length (entries b (word16 b 2)) ≤ 5460 = omega arith in
      let g : length (concat (strings b (word16 b 2))) ≤ 65535 = omega arith in
      let l : 6 + 12 * n + k ≡ length (new_name (entries b (word16 b 2))) = omega (arith, length_table b t) in
      rw (le-leb (length (concat (strings b (word16 b 2)))) 65535 g, le-leb (length (entries b (word16 b 2))) 5460 f, l)

-- bytes put one behind the other
pub put-none : (d : Bytes) (i : ℕ) → put d i [] ≡ d
unfolding put
put-none d i = rw (add-zero i, append-nil (take i d)) (take-append-drop i d)

put_next : (d o x y : Bytes) (at to : ℕ) → at ≤ length d → o ≡ put d at x → to ≡ at + length x → put o to y ≡ put d at (x ++ y)
put_next d o x y at to h e t = rw (e, t) (put-put d x y at h)

behind_six : (h y d : Bytes) → length h ≡ 6 → 6 ≤ length d → put (put d 6 y) 0 h ≡ over (h ++ y) d
unfolding put over
behind_six h y d e l =
    let p : length (take 6 d) ≡ 6 = length-take-le 6 d l in
    let q : drop (length h) (take 6 d ++ y ++ drop (6 + length y) d) ≡ y ++ drop (6 + length y) d =
    rw (e, append_assoc (take 6 d) y (drop (6 + length y) d)) (drop_at (take 6 d) (y ++ drop (6 + length y) d) 6 p) in
    let n : 6 + length y ≡ length (h ++ y) = rw (length-append h y, e) in
    put-zero (put d 6 y) h ∙ ap (λ (x : Bytes). h ++ x) q ∙ sym (append_assoc h y (drop (6 + length y) d)) ∙ ap (λ (m : ℕ). h ++ y ++ drop m d) n

header-put : (x p q r : Bytes) → length p ≡ 2 → length q ≡ 2 → put (put (put x 0 p) 2 q) 4 r ≡ put x 0 (p ++ (q ++ r))
header-put x p q r ep eq =
    let a : put (put x 0 p) 2 q ≡ put x 0 (p ++ q) = put_next x (put x 0 p) p q 0 2 (omega arith) refl (rw ep) in
    let l : 4 ≡ 0 + length (p ++ q) = rw (length-append p q, ep, eq) in
    put_next x (put (put x 0 p) 2 q) (p ++ q) r 0 4 (omega arith) a l ∙ ap (put x 0) (append_assoc p q r)

module _ (b : Bytes) where
  -- a record more
  pub record_next : Tested b → (d o : Bytes) (i n offset : ℕ) → 6 ≤ length d → i < word16 b 2 → kept_at b i ≡ true
      → offset ≡ offset_of (string_at b i) (strings b (i + 1)) → n ≡ length (entries b i) → o ≡ put d 6 (new_records b i)
      → put o (6 + 12 * n) (new_record b i offset) ≡ put d 6 (new_records b (i + 1))
  record_next t d o i n offset h lt k eo en e =
      let l : 6 + 12 * n ≡ 6 + length (new_records b i) = omega (arith, length-records b t i (omega arith)) in
      rw (records-kept b i k (t.inside i lt k), eo, string_stays b i (word16 b 2) lt k)
      (put_next d o (new_records b i) (new_record b i (offset_of (string_at b i) (strings b (word16 b 2)))) 6 (6 + 12 * n) h e l)

  -- a string more
  module _ (rows : List ℕ) (j : ℕ) (h : j < length rows) where
    pub strings-next : concat (map (string_at b) (take (j + 1) rows)) ≡ concat (map (string_at b) (take j rows)) ++ string_at b (get_or rows j 0)
    strings-next =
        rw (add-one j, take-suc rows j 0 h, map-append, concat-append)
        (ap (λ (x : Bytes). concat (map (string_at b) (take j rows)) ++ x) (append-nil (string_at b (get_or rows j 0))))

    pub string-next : (d o : Bytes) (at to : ℕ) → at ≤ length d → to ≡ at + length (concat (map (string_at b) (take j rows)))
        → o ≡ put d at (concat (map (string_at b) (take j rows))) → put o to (string_at b (get_or rows j 0)) ≡ put d at (concat (map (string_at b) (take (j + 1) rows)))
    string-next d o at to l t e = rw strings-next (put_next d o (concat (map (string_at b) (take j rows))) (string_at b (get_or rows j 0)) at to l e t)

    pub string-room : length (concat (map (string_at b) (take j rows))) + length (string_at b (get_or rows j 0)) ≤ length (concat (map (string_at b) rows))
    string-room =
        let e : concat (map (string_at b) rows) ≡ concat (map (string_at b) (take (j + 1) rows)) ++ concat (map (string_at b) (drop (j + 1) rows)) =
        ap (λ (r : List ℕ). concat (map (string_at b) r)) (sym (take-append-drop (j + 1) rows)) ∙ ap concat (map-append (string_at b) (take (j + 1) rows) (drop (j + 1) rows))
        ∙ concat-append (map (string_at b) (take (j + 1) rows)) (map (string_at b) (drop (j + 1) rows)) in
        rw (e, strings-next) (simp length-append (omega arith))

  -- records, strings, then the header
  pub table_written : Tested b → (d o : Bytes) (n : ℕ) (c : Bytes) → 6 ≤ length d → o ≡ put d 6 (new_records b (word16 b 2)) → n ≡ length (entries b (word16 b 2)) → c ≡ concat (strings b (word16 b 2))
      → put (put (put (put o (6 + 12 * n) c) 0 (be16 0)) 2 (be16 n)) 4 (be16 (6 + 12 * n)) ≡ over (new_name (entries b (word16 b 2))) d
  unfolding new_name new_records strings
  table_written t d o n c h e en ec =
      let l : 6 + 12 * n ≡ 6 + length (new_records b (word16 b 2)) = omega (arith, length-records b t (word16 b 2) (omega arith)) in
      let a : put o (6 + 12 * n) c ≡ put d 6 (new_records b (word16 b 2) ++ c) = put_next d o (new_records b (word16 b 2)) c 6 (6 + 12 * n) h e l in
      header-put (put o (6 + 12 * n) c) (be16 0) (be16 n) (be16 (6 + 12 * n)) refl refl
      ∙ ap (λ (x : Bytes). put x 0 (be16 0 ++ (be16 n ++ be16 (6 + 12 * n)))) a
      ∙ behind_six (be16 0 ++ (be16 n ++ be16 (6 + 12 * n))) (new_records b (word16 b 2) ++ c) d refl h
      ∙ rw (en, ec)

-- what a table that may be written holds
table_ok : (b : Bytes) → is_ok (new_table b) ≡ true
    → (length (concat (strings b (word16 b 2))) ≤ 65535) × (length (entries b (word16 b 2)) ≤ 5460) × (value_of [] (new_table b) ≡ new_name (entries b (word16 b 2)))
unfolding new_table
table_ok b e =
    by (leb (length (concat (strings b (word16 b 2)))) 65535)
    (λ t. by (leb (length (entries b (word16 b 2))) 5460)
    (λ u. (leb-true (length (concat (strings b (word16 b 2)))) 65535 t, leb-true (length (entries b (word16 b 2))) 5460 u, rw (t, u)))
    (λ u. true_false (sym (rw (t, u) at e))))
    (λ t. true_false (sym (rw t at e)))

pub record Valued (b : Bytes) : Type 0 where
  pub room : Roomy b 5460
  pub small : length (concat (strings b (word16 b 2))) ≤ 65535
  pub value : value_of [] (cut_name b) ≡ new_name (entries b (word16 b 2))

module _ (b : Bytes) (w : is_ok (cut_name b) ≡ true) where
  pub ok-long : 2 ≤ length b
  ok-long =
      by (leb 2 (length b))
      (λ e. leb-true 2 (length b) e)
      (λ e. true_false (sym w ∙ ap is_ok (cut_short b (leb-false 2 (length b) e))))

  pub ok_other : (word16 b 0 ≡ 0 → ⊥) → value_of [] (cut_name b) ≡ b
  ok_other v = ap (value_of []) (cut_other b ok-long v)

  pub ok-zero : word16 b 0 ≡ 0 → Valued b
  ok-zero v = go (name_entries b) refl
    where
      go : (m : Res (List NameEntry)) → name_entries b ≡ m → Valued b
      go (refuse k) e = true_false (sym w ∙ ap is_ok (cut-refused b ok-long v k e))
      go (ok es) e =
          let c = cut-kept b ok-long v es e in
          let k = table_ok b (rw c at w) in
          record {
            room = record { tested = (named_inv b es e).tested; room = k.1; few = k.1 };
            small = k.0;
            value = rw c k.2;
          }

-- before the first row
pub records-none : (b d : Bytes) → d ≡ put d 6 (new_records b 0)
records-none b d = unfold new_records entries in sym (put-none d 6)

pub entries_none : (b : Bytes) → 0 ≡ length (entries b 0)
unfolding entries
entries_none b = refl

pub entries_next : (b : Bytes) (i n : ℕ) → kept_at b i ≡ true → n ≡ length (entries b i) → n + 1 ≡ length (entries b (i + 1))
entries_next b i n k e = rw (entries-kept b i k, length-append) (ap (λ (m : ℕ). m + 1) e)

-- a record in three parts
pub length_ids : (b : Bytes) (i : ℕ) → 6 + 12 * i + 12 ≤ length b → length (part b (6 + 12 * i) 8) ≡ 8
length_ids b i h = simp (length-take, length-drop) (omega arith)

pub record_put : (d : Bytes) (at : ℕ) (p : Bytes) (l o : ℕ) → at ≤ length d → length p ≡ 8
    → put (put (put d at p) (at + 8) (be16 l)) (at + 10) (be16 o) ≡ put d at (p ++ (be16 l ++ be16 o))
record_put d at p l o h e =
    let a : put (put d at p) (at + 8) (be16 l) ≡ put d at (p ++ be16 l) = put_next d (put d at p) p (be16 l) at (at + 8) h refl (rw e) in
    let n : at + 10 ≡ at + length (p ++ be16 l) = rw (length-append p (be16 l), e) in
    put_next d (put (put d at p) (at + 8) (be16 l)) (p ++ be16 l) (be16 o) at (at + 10) h a n ∙ ap (put d at) (append_assoc p (be16 l) (be16 o))

-- what the records' pass leaves to the strings' pass
module _ {b firsts out out₀ : Bytes} {kept used : ℕ} (t : Tested b) (r : Recorded b firsts out out₀ kept used) where
  pub recorded_strings : concat (map (string_at b) (take used firsts)) ≡ concat (strings b (word16 b 2))
  recorded_strings = ap (λ xs. concat (map (string_at b) xs)) r.rows ∙ ap concat (firsts-strings b (word16 b 2))

  pub recorded_inside : (j : ℕ) → j < length (take used firsts) → Inside b (get_or (take used firsts) j 0)
  recorded_inside = rw r.rows (firsts-inside b (word16 b 2) t.inside)
