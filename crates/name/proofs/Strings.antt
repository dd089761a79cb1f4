-- The distinct strings row by row: a kept string is one of them already, or becomes the last; what is stored keeps its offset.
use Rattle.std.proofs.Common.{◌≡◌, ℕ, zero, suc, ◌+◌, ◌-◌, ◌<◌, ◌≤◌, true, false, eqb, ltb, List, [], ◌∷◌, ◌++◌, map, length, get_or, take, set, sym, refl, ap, ◌∙◌, ap₂, append_assoc, append-nil, zero-add, add-one, arith, length-append, length-set, length-take-le, get_or-set_other, get_or-take, get_or-set_same, take-suc-set, ltb-false, ltb-true, eq-eqb, eqb-true, le-leb}
use mathlib.Core.List.{map-append}
use lib.ListN.{get_or-append}
use lib.Seq.{get_or_at}
use borrow.Author.Tests.{lt-leb}
use Rattle.model.specs.Res.{refuse, ok, pick}
use Rattle.model.specs.Bytes.{Bytes, word16, concat, same_bytes}
use Rattle.model.specs.Name.{NameEntry, stored?, store, offset_of}
use Rattle.model.proofs.Res.{both_true, true_false}
use Rattle.name.specs.Rows.{string_length, string_at, kept_at, entry_at, entries, strings, first_rows, distinct_bytes, Between, Ordered, Inserted, Buckets, Cleared, Apart, Linked, Arranged, Inside, Searchable, Walkable, Sortable, Uses, Roomy, Notable}
use Rattle.name.specs.Hashed.{bucket_of}
use Rattle.name.proofs.Rows.{by, entries-kept, entries_skip}
use Rattle.name.proofs.Links.{linked-more}
use Rattle.name.proofs.Order.{length-string, between-absent, ordered-more}

pub concat-append : (xs ys : List Bytes) → concat (xs ++ ys) ≡ concat xs ++ concat ys
concat-append [] ys = refl
concat-append (x ∷ xs) ys = ap (λ (r : Bytes). x ++ r) (concat-append xs ys) ∙ sym (append_assoc x (concat xs) (concat ys))

-- equal bytes
pub same_refl : (x : Bytes) → same_bytes x x ≡ true
same_refl [] = refl
same_refl (a ∷ x) = simp (eq-eqb a a refl, same_refl x)

same_eq : (x s : Bytes) → same_bytes x s ≡ true → x ≡ s
same_eq [] [] e = refl
same_eq [] (b ∷ s) e = true_false (sym e)
same_eq (a ∷ x) [] e = true_false (sym e)
same_eq (a ∷ x) (b ∷ s) e =
    let q = both_true (eqb a b) (same_bytes x s) e in
    ap₂ (λ (c : ℕ) (r : Bytes). c ∷ r) (eqb-true a b q.0) (same_eq x s q.1)

-- what is stored, and where
pub store_snoc : (xs : List Bytes) (es : List NameEntry) (e : NameEntry)
    → store xs (es ++ (e ∷ [])) ≡ pick (stored? e.string (store xs es)) (store xs es) (store xs es ++ (e.string ∷ []))
store_snoc xs [] e = refl
store_snoc xs (x ∷ es) e = store_snoc (pick (stored? x.string xs) xs (xs ++ (x.string ∷ []))) es e

pub offset_grow : (s : Bytes) (xs ys : List Bytes) → stored? s xs ≡ true → offset_of s (xs ++ ys) ≡ offset_of s xs
offset_grow s [] ys e = true_false (sym e)
offset_grow s (x ∷ xs) ys e =
    by (same_bytes x s) (λ f. simp f) (λ f. simp (f, offset_grow s xs ys (simp f at e)))

pub offset-last : (s : Bytes) (xs : List Bytes) → stored? s xs ≡ false → offset_of s (xs ++ (s ∷ [])) ≡ length (concat xs)
offset-last s [] e = simp (same_refl s)
offset-last s (x ∷ xs) e =
    by (same_bytes x s) (λ f. true_false (simp f at e)) (λ f. simp (f, offset-last s xs (simp f at e), length-append))

pub stored_last : (s : Bytes) (xs : List Bytes) → stored? s (xs ++ (s ∷ [])) ≡ true
stored_last s [] = simp (same_refl s)
stored_last s (x ∷ xs) = by (same_bytes x s) (λ f. simp f) (λ f. simp (f, stored_last s xs))

pub offset-le : (s : Bytes) (xs : List Bytes) → offset_of s xs ≤ length (concat xs)
offset-le s [] = omega arith
offset-le s (x ∷ xs) =
    by (same_bytes x s) (λ f. simp f (omega arith)) (λ f. simp (f, length-append) (omega (arith, offset-le s xs)))

-- the string of each of some rows is stored, one that no row has is not
stored_at : (b : Bytes) (rows : List ℕ) (j : ℕ) → j < length rows → stored? (string_at b (get_or rows j 0)) (map (string_at b) rows) ≡ true
stored_at b [] j h = absurd (omega arith)
stored_at b (r ∷ rs) zero h = simp (same_refl (string_at b r))
stored_at b (r ∷ rs) (suc j) h =
    by (same_bytes (string_at b r) (string_at b (get_or rs j 0))) (λ f. simp f) (λ f. simp (f, stored_at b rs j (omega arith)))

stored-none : (b s : Bytes) (rows : List ℕ) → ((j : ℕ) → j < length rows → string_at b (get_or rows j 0) ≡ s → ⊥) → stored? s (map (string_at b) rows) ≡ false
stored-none b s [] h = refl
stored-none b s (r ∷ rs) h =
    by (same_bytes (string_at b r) s)
    (λ f. absurd (h 0 (omega arith) (same_eq (string_at b r) s f)))
    (λ f. simp (f, stored-none b s rs (λ j l. h (suc j) (omega arith))))

-- a row more, in the strings and in the rows of first uses
module _ (b : Bytes) (i : ℕ) where
  strings-pick : kept_at b i ≡ true → strings b (i + 1) ≡ pick (stored? (string_at b i) (strings b i)) (strings b i) (strings b i ++ (string_at b i ∷ []))
  unfolding strings entry_at
  strings-pick k = ap (store []) (entries-kept b i k) ∙ store_snoc [] (entries b i) (entry_at b i)

  pub strings-old : kept_at b i ≡ true → stored? (string_at b i) (strings b i) ≡ true → strings b (i + 1) ≡ strings b i
  strings-old k e = strings-pick k ∙ rw e

  pub strings-new : kept_at b i ≡ true → stored? (string_at b i) (strings b i) ≡ false → strings b (i + 1) ≡ strings b i ++ (string_at b i ∷ [])
  strings-new k e = strings-pick k ∙ rw e

  pub strings_skip : kept_at b i ≡ false → strings b (i + 1) ≡ strings b i
  unfolding strings
  strings_skip k = ap (store []) (entries_skip b i k)

  pub firsts-old : stored? (string_at b i) (map (string_at b) (first_rows b i)) ≡ true → first_rows b (i + 1) ≡ first_rows b i
  unfolding first_rows
  firsts-old e = rw (add-one i, e) (by (kept_at b i) (λ k. rw k (append-nil (first_rows b i))) (λ k. rw k (append-nil (first_rows b i))))

  pub firsts-new : kept_at b i ≡ true → stored? (string_at b i) (map (string_at b) (first_rows b i)) ≡ false → first_rows b (i + 1) ≡ first_rows b i ++ (i ∷ [])
  unfolding first_rows
  firsts-new k e = rw (add-one i, k, e)

  pub firsts_skip : kept_at b i ≡ false → first_rows b (i + 1) ≡ first_rows b i
  unfolding first_rows
  firsts_skip k = rw (add-one i, k) (append-nil (first_rows b i))

-- the strings of the first uses are the distinct strings
module _ (b : Bytes) where
  pub firsts-strings : (n : ℕ) → map (string_at b) (first_rows b n) ≡ strings b n
  firsts-strings zero = unfold first_rows strings entries in refl
  firsts-strings (suc n) =
      let ih = firsts-strings n in
      rw (← add-one n)
      (by (kept_at b n)
      (λ k. by (stored? (string_at b n) (strings b n))
      (λ e. ap (map (string_at b)) (firsts-old b n (rw ih e)) ∙ ih ∙ sym (strings-old b n k e))
      (λ e. ap (map (string_at b)) (firsts-new b n k (rw ih e)) ∙ map-append (string_at b) (first_rows b n) (n ∷ []) ∙ ap (λ r. r ++ (string_at b n ∷ [])) ih ∙ sym (strings-new b n k e)))
      (λ k. ap (map (string_at b)) (firsts_skip b n k) ∙ ih ∙ sym (strings_skip b n k)))

  -- there are no more first uses than kept rows, and no more kept rows than rows
  pub length-firsts : (n : ℕ) → length (first_rows b n) ≤ length (entries b n)
  unfolding first_rows entries
  length-firsts zero = omega arith
  length-firsts (suc n) =
      simp length-append
      (by (kept_at b n)
      (λ k. by (stored? (string_at b n) (map (string_at b) (first_rows b n))) (λ e. simp (k, e) (omega (arith, length-firsts n))) (λ e. simp (k, e) (omega (arith, length-firsts n))))
      (λ k. simp k (omega (arith, length-firsts n))))

  pub length-entries : (n : ℕ) → length (entries b n) ≤ n
  unfolding entries
  length-entries zero = omega arith
  length-entries (suc n) =
      simp length-append
      (by (kept_at b n) (λ k. simp k (omega (arith, length-entries n))) (λ k. simp k (omega (arith, length-entries n))))

  entries_grow : (m n : ℕ) → length (entries b n) ≤ length (entries b (m + n))
  unfolding entries
  entries_grow zero n = rw (zero-add n) (omega arith)
  entries_grow (suc m) n =
      let e : suc m + n ≡ suc (m + n) = omega arith in
      rw e (simp length-append (omega (arith, entries_grow m n)))

  -- before a kept row there are fewer kept rows than in all
  pub entries-before : (i n : ℕ) → i < n → kept_at b i ≡ true → length (entries b i) < length (entries b n)
  entries-before i n h k =
      let e : n ≡ n - (i + 1) + (i + 1) = omega arith in
      let g : length (entries b (i + 1)) ≤ length (entries b n) = rw e (entries_grow (n - (i + 1)) (i + 1)) in
      let f : length (entries b (i + 1)) ≡ length (entries b i) + 1 = rw (entries-kept b i k, length-append) in
      omega arith

-- what holds at each place of a list, and of one more, holds at each place of both
snoc_each : (P : ℕ → Type 0) (xs : List ℕ) (x : ℕ) → ((j : ℕ) → j < length xs → P (get_or xs j 0)) → P x
    → (j : ℕ) → j < length (xs ++ (x ∷ [])) → P (get_or (xs ++ (x ∷ [])) j 0)
snoc_each P xs x p q j h =
    by (ltb j (length xs))
    (λ e. let k : j < length xs = ltb-true j (length xs) e in rw (get_or-append xs (x ∷ []) 0 j k) (p j k))
    (λ e.
    let n : j < length xs + 1 = simp length-append at h in
    let k : j ≡ length xs = omega (arith, ltb-false j (length xs) e) in
    rw (get_or_at xs x [] 0 j (sym k)) q)

-- the rows of first uses are kept rows, so their strings lie in the table
pub firsts-inside : (b : Bytes) (n : ℕ) → ((i : ℕ) → i < n → kept_at b i ≡ true → Inside b i) → (j : ℕ) → j < length (first_rows b n) → Inside b (get_or (first_rows b n) j 0)
firsts-inside b zero t = unfold first_rows in λ j h. absurd (omega arith)
firsts-inside b (suc n) t =
    let ih = firsts-inside b n (λ i h k. t i (omega arith) k) in
    rw (← add-one n)
    (by (kept_at b n)
    (λ k. by (stored? (string_at b n) (map (string_at b) (first_rows b n)))
    (λ e. rw (firsts-old b n e) ih)
    (λ e. rw (firsts-new b n k e) (snoc_each (Inside b) (first_rows b n) n ih (t n (omega arith) k))))
    (λ k. rw (firsts_skip b n k) ih))

-- what holds of arrays of one length, and of first uses in order
pub buckets-same : (heads new : List ℕ) → Buckets heads → length new ≡ length heads → Buckets new
buckets-same heads new c e = record { some = omega (arith, c.some); few = omega (arith, c.few) }

-- the arrays have room for what can be noted
pub record Lent (b : Bytes) (firsts offsets order : List ℕ) : Type 0 where
  pub room : Roomy b (length firsts)
  pub second : length offsets ≡ length firsts
  pub third : length order ≡ length firsts

pub record Notable_in (b : Bytes) (i : ℕ) (firsts offsets order : List ℕ) (used end : ℕ) : Type 0 where
  pub lent : Lent b firsts offsets order
  pub row : i < word16 b 2
  pub kept : kept_at b i ≡ true
  pub uses : Uses b i firsts offsets used end
  pub small : end ≤ 65535

pub notable_in : {b : Bytes} {i places : ℕ} {firsts offsets : List ℕ} {used end : ℕ} (order : List ℕ) → Notable b i places firsts offsets used end
    → length firsts ≡ places → length offsets ≡ places → length order ≡ places → Notable_in b i firsts offsets order used end
notable_in order n e f g =
    record {
      lent = record { room = rw e n.room; second = f ∙ sym e; third = g ∙ sym e };
      row = n.row;
      kept = n.kept;
      uses = n.uses;
      small = n.small;
    }

-- a kept row's string is noted: the first uses and their bytes so far, before and after
module _ {b : Bytes} {firsts offsets order : List ℕ} {used end row : ℕ} (n : Notable_in b row firsts offsets order used end) where
  pub used-few : used < length (entries b (word16 b 2))
  used-few =
      let l : length (first_rows b row) ≡ used = ap length (sym n.uses.rows) ∙ length-take-le used firsts n.uses.room in
      omega (arith, length-firsts b row, entries-before b row (word16 b 2) n.row n.kept)

  pub used-room : used < length firsts
  used-room = omega (arith, used-few, n.lent.room.room)

  pub row_inside : Inside b row
  row_inside = n.lent.room.tested.inside row n.row n.kept

  used-inside : (j : ℕ) → j < used → Inside b (get_or firsts j 0)
  used-inside j h =
      let q : (j : ℕ) → j < length (take used firsts) → Inside b (get_or (take used firsts) j 0) =
      rw n.uses.rows (firsts-inside b row (λ i l k. n.lent.room.tested.inside i (omega (arith, n.row)) k)) in
      rw (get_or-take used firsts j 0 h) at (q j (rw (length-take-le used firsts n.uses.room) h))

  pub used_searchable : Ordered b firsts order used → Searchable b firsts order used row
  used_searchable o =
      record {
        sought = row_inside;
        among = used-inside;
        ordered = o;
        rows = n.uses.room;
        places = omega (arith, n.uses.room, n.lent.third);
      }

  pub used_walkable : (heads : List ℕ) (bucket : ℕ) → Linked b firsts order heads used → bucket < length heads → bucket ≡ bucket_of (string_at b row) (length heads)
      → Walkable b firsts order heads bucket row
  used_walkable heads bucket l h e =
      record {
        used = used;
        sought = row_inside;
        among = used-inside;
        rows = n.uses.room;
        places = omega (arith, n.uses.room, n.lent.third);
        linked = l;
        within = h;
        its = e;
      }

  pub used_sortable : Apart b firsts used → Sortable b firsts order used
  used_sortable a =
      record {
        among = used-inside;
        rows = n.uses.room;
        places = omega (arith, n.uses.room, n.lent.third);
        few = omega (arith, used-few, n.lent.room.few);
        apart = a;
      }

  -- the strings of the noted rows are the distinct strings so far
  noted_strings : map (string_at b) (take used firsts) ≡ strings b row
  noted_strings = ap (map (string_at b)) n.uses.rows ∙ firsts-strings b row

  noted_stored : (j : ℕ) → j < used → stored? (string_at b (get_or firsts j 0)) (strings b row) ≡ true
  noted_stored j h =
      rw (noted_strings, get_or-take used firsts j 0 h) at (stored_at b (take used firsts) j (rw (length-take-le used firsts n.uses.room) h))

  pub noted_old : (j o : ℕ) → j < used → string_at b (get_or firsts j 0) ≡ string_at b row → o ≡ get_or offsets j 0
      → Uses b (row + 1) firsts offsets used end × (o ≡ offset_of (string_at b row) (strings b (row + 1)))
  noted_old j o h e eo =
      let t : stored? (string_at b row) (strings b row) ≡ true = rw e at (noted_stored j h) in
      let q = strings-old b row n.kept t in (
        record {
          rows = n.uses.rows ∙ sym (firsts-old b row (rw (firsts-strings b row) t));
          room = n.uses.room;
          bytes = n.uses.bytes ∙ ap (λ xs. length (concat xs)) (sym q);
          starts = rw q n.uses.starts;
        },
        eo ∙ n.uses.starts j h ∙ ap (λ (x : Bytes). offset_of x (strings b row)) e ∙ ap (offset_of (string_at b row)) (sym q),
      )

  module _ (absent : (j : ℕ) → j < used → string_at b (get_or firsts j 0) ≡ string_at b row → ⊥) where
    not-stored : stored? (string_at b row) (strings b row) ≡ false
    not-stored =
        rw noted_strings
        at (stored-none b (string_at b row) (take used firsts) (λ j h e.
        let l : j < used = rw (length-take-le used firsts n.uses.room) at h in
        absent j l (rw (get_or-take used firsts j 0 l) at e)))

    starts-new : (j : ℕ) → j < used + 1 → get_or (set offsets used end) j 0 ≡ offset_of (string_at b (get_or (set firsts used row) j 0)) (strings b row ++ (string_at b row ∷ []))
    starts-new j h =
        by (ltb j used)
        (λ e.
        let l : j < used = ltb-true j used e in
        let d : j ≡ used → ⊥ = λ q. omega arith in
        rw (get_or-set_other offsets used j end 0 d, get_or-set_other firsts used j row 0 d)
        (n.uses.starts j l ∙ sym (offset_grow (string_at b (get_or firsts j 0)) (strings b row) (string_at b row ∷ []) (noted_stored j l))))
        (λ e.
        let q : j ≡ used = omega (arith, ltb-false j used e) in
        rw (q, get_or-set_same offsets used end 0 (omega (arith, used-room, n.lent.second)), get_or-set_same firsts used row 0 used-room)
        (n.uses.bytes ∙ sym (offset-last (string_at b row) (strings b row) not-stored)))

    pub noted_new : (l : ℕ) → l ≡ string_length b row
        → Uses b (row + 1) (set firsts used row) (set offsets used end) (used + 1) (end + l) × (end ≡ offset_of (string_at b row) (strings b (row + 1)))
    noted_new l el =
        let q = strings-new b row n.kept not-stored in
        let len : length (string_at b row) ≡ l = length-string b row (n.lent.room.tested.inside row n.row n.kept) ∙ sym el in (
          record {
            rows =
                rw (add-one used) (take-suc-set firsts used row used-room
                ∙ ap (λ xs. xs ++ (row ∷ [])) n.uses.rows
                ∙ sym (firsts-new b row n.kept (rw (firsts-strings b row) not-stored)));
            room = rw length-set (omega (arith, used-room));
            bytes = rw (q, concat-append, length-append, append-nil, len) (ap (λ (x : ℕ). x + l) n.uses.bytes);
            starts = rw q starts-new;
          },
          n.uses.bytes ∙ sym (rw q (offset-last (string_at b row) (strings b row) not-stored)),
        )

  -- in order: a place in the order is given
  pub placed-absent : (p : ℕ) → Ordered b firsts order used → Between b firsts order used (string_at b row) p p → (j : ℕ) → j < used → string_at b (get_or firsts j 0) ≡ string_at b row → ⊥
  placed-absent p o w = between-absent b firsts order used (string_at b row) o p p w refl

  pub placed-ordered : (new : List ℕ) (p : ℕ) → Ordered b firsts order used → Between b firsts order used (string_at b row) p p → Inserted order new used p
      → Ordered b (set firsts used row) new (used + 1)
  placed-ordered new p o w i =
      ordered-more b firsts (set firsts used row) order new used row p (λ j h. get_or-set_other firsts used j row 0 (λ e. omega arith)) (get_or-set_same firsts used row 0 used-room) o w i

  -- linked: a new first use is the last of its bucket
  pub used-found : (heads : List ℕ) (bucket j : ℕ) → Linked b firsts order heads used → bucket < length heads → j < get_or heads bucket 0 → j < used
  used-found heads bucket j l h t = omega (arith, (l.last bucket h).within)

  pub arranged_new : (heads : List ℕ) (bucket : ℕ) → Buckets heads → Linked b firsts order heads used → bucket < length heads → bucket ≡ bucket_of (string_at b row) (length heads)
      → ((j : ℕ) → j < used → string_at b (get_or firsts j 0) ≡ string_at b row → ⊥)
      → Arranged b (set firsts used row) (set order used (get_or heads bucket 0)) (set heads bucket (used + 1)) (used + 1) false
  arranged_new heads bucket c l h e a =
      record {
        buckets = buckets-same heads (set heads bucket (used + 1)) c (length-set heads bucket (used + 1));
        ordered = λ q. true_false (sym q);
        linked = λ q. linked-more b firsts order heads used row bucket l used-room (omega (arith, used-room, n.lent.third)) h e a;
      }

-- later rows add strings behind
pub record Begins (xs ys : List Bytes) : Type 0 where
  pub rest : List Bytes
  pub joined : ys ≡ xs ++ rest

module _ (b : Bytes) where
  begins_next : (n : ℕ) → Begins (strings b n) (strings b (n + 1))
  begins_next n =
      by (kept_at b n)
      (λ k. by (stored? (string_at b n) (strings b n))
      (λ e. record { rest = []; joined = strings-old b n k e ∙ sym (append-nil (strings b n)) })
      (λ e. record { rest = string_at b n ∷ []; joined = strings-new b n k e }))
      (λ k. record { rest = []; joined = strings_skip b n k ∙ sym (append-nil (strings b n)) })

  begins_add : (m n : ℕ) → Begins (strings b n) (strings b (m + n))
  begins_add zero n = record { rest = []; joined = rw (zero-add n) (sym (append-nil (strings b n))) }
  begins_add (suc m) n =
      let e : suc m + n ≡ m + n + 1 = omega arith in
      let f = begins_add m n in
      let g = begins_next (m + n) in
      record { rest = f.rest ++ g.rest; joined = rw e (g.joined ∙ ap (λ xs. xs ++ g.rest) f.joined ∙ append_assoc (strings b n) f.rest g.rest) }

  pub strings-begin : (n m : ℕ) → n ≤ m → Begins (strings b n) (strings b m)
  strings-begin n m h =
      let e : m - n + n ≡ m = omega arith in
      rw e at (begins_add (m - n) n)

  pub bytes_grow : (n m : ℕ) → n ≤ m → length (concat (strings b n)) ≤ length (concat (strings b m))
  bytes_grow n m h =
      let g = strings-begin n m h in
      rw (g.joined, concat-append, length-append) (omega arith)

  -- the pass that adds up the bytes: its start, a row that is not kept, its stop, its end
  pub uses-start : (firsts offsets : List ℕ) → Uses b 0 firsts offsets 0 0
  unfolding first_rows strings entries
  uses-start firsts offsets =
      record {
        rows = refl;
        room = omega arith;
        bytes = refl;
        starts = λ j h. absurd (omega arith);
      }

  pub arranged_start : (firsts links heads : List ℕ) → Cleared heads → Arranged b firsts links heads 0 false
  arranged_start firsts links heads c =
      record {
        buckets = c.buckets;
        ordered = λ e. true_false (sym e);
        linked = λ e.
            record {
              last = λ h l.
                  record {
                    within = omega (arith, c.zero h l);
                    keyed = λ n q. absurd (omega (arith, c.zero h l));
                    none = λ j t. absurd (omega arith);
                  };
              before = λ u h. absurd (omega arith);
              apart = record { differ = λ j k h t. absurd (omega arith) };
            };
      }

  pub uses_skip : (firsts offsets : List ℕ) (used end i : ℕ) → kept_at b i ≡ false → Uses b i firsts offsets used end → Uses b (i + 1) firsts offsets used end
  uses_skip firsts offsets used end i k u =
      record {
        rows = u.rows ∙ sym (firsts_skip b i k);
        room = u.room;
        bytes = u.bytes ∙ ap (λ xs. length (concat xs)) (sym (strings_skip b i k));
        starts = rw (strings_skip b i k) u.starts;
      }

  pub bytes-over : (n e : ℕ) → n ≤ word16 b 2 → e ≡ length (concat (strings b n)) → 65535 < e → refuse 5 ≡ distinct_bytes b
  unfolding distinct_bytes
  bytes-over n e h q o =
      let l : 65535 < length (concat (strings b (word16 b 2))) = omega (arith, bytes_grow n (word16 b 2) h) in
      rw (lt-leb (length (concat (strings b (word16 b 2)))) 65535 l)

  pub bytes-all : (n e : ℕ) → n ≡ word16 b 2 → e ≡ length (concat (strings b n)) → e ≤ 65535 → ok e ≡ distinct_bytes b
  unfolding distinct_bytes
  bytes-all n e h q o =
      let f : length (concat (strings b (word16 b 2))) ≡ e = ap (λ (n : ℕ). length (concat (strings b n))) (sym h) ∙ sym q in
      rw (f, le-leb e 65535 o)

  -- room for so many rows is room enough
  pub roomy_rows : (places rows : ℕ) → Roomy b places → word16 b 2 ≤ rows → Roomy b rows
  roomy_rows places rows r h = record { tested = r.tested; room = omega (arith, length-entries b (word16 b 2)); few = r.few }

  -- a kept row's string is stored, where it stays
  pub string_stays : (i n : ℕ) → i < n → kept_at b i ≡ true → offset_of (string_at b i) (strings b (i + 1)) ≡ offset_of (string_at b i) (strings b n)
  string_stays i n h k =
      let g = strings-begin (i + 1) n (omega arith) in
      let t : stored? (string_at b i) (strings b (i + 1)) ≡ true =
      by (stored? (string_at b i) (strings b i))
      (λ e. rw (strings-old b i k e) e)
      (λ e. rw (strings-new b i k e) (stored_last (string_at b i) (strings b i))) in
      sym (rw g.joined (offset_grow (string_at b i) (strings b (i + 1)) g.rest t))

  pub offset-small : (i n : ℕ) → i < n → kept_at b i ≡ true → length (concat (strings b n)) ≤ 65535 → offset_of (string_at b i) (strings b (i + 1)) ≤ 65535
  offset-small i n h k l = rw (string_stays i n h k) (omega (arith, offset-le (string_at b i) (strings b n)))
