-- name: the records written are all kept, in order, and each leads to its string; so cutting a name table that was cut changes nothing.
use mathlib.Core.Path.{◌≡◌, refl, sym, ap, ap₂, ◌∙◌, subst}
use mathlib.Core.Bool.{true}
use mathlib.Core.List.{List, [], ◌∷◌, ◌++◌, map, append_assoc}
use Prim.Native.Nat.{ℕ, zero, suc, ◌+◌, ◌*◌, ◌≤◌, ◌<◌}
use native.Mathlib.Omega.{arith}
use lib.Dec.{leb, eqb}
use lib.ListN.{length, take, drop, length-append, length-take, length-drop}
use lib.Seq.{take_at, drop_at, length-take-le, drop-append-add, drop-drop}
use borrow.Author.Tests.{le-leb, leb-true, eqb-true, eq-eqb}
use Rattle.model.specs.Res.{ok, pick, both, each}
use Rattle.model.specs.Bytes.{Bytes, word16, be16, holds, part, concat, same_bytes}
use Rattle.model.proofs.Res.{need-ok, bind_ok, pick_true, both_true, true_false, need_inv, bind_inv, ok_inj}
use Rattle.model.proofs.Bytes.{word16-be16, word16-drop}
use Rattle.model.proofs.Words.{word16-take, word16-front}
use Rattle.model.proofs.Members.{by}
use Rattle.model.specs.Name.{NameEntry, name_rows, is_kept, kept_ids, kept_rows, name_entry, name_entries, stored?, store, offset_of, new_row, new_name, cut_name}

-- Strings in the new storage
same_eq : (x s : Bytes) → same_bytes x s ≡ true → x ≡ s
same_eq [] [] e = refl
same_eq [] (y ∷ s) e = true_false (sym e)
same_eq (x ∷ xs) [] e = true_false (sym e)
same_eq (x ∷ xs) (y ∷ ys) e =
    let q = both_true (eqb x y) (same_bytes xs ys) e in
    ap₂ (λ (a : ℕ) (b : Bytes). a ∷ b) (eqb-true x y q.0) (same_eq xs ys q.1)

same_refl : (x : Bytes) → same_bytes x x ≡ true
same_refl [] = refl
same_refl (x ∷ xs) = ap₂ both (eq-eqb x x refl) (same_refl xs)

record Stored (s : Bytes) (xs : List Bytes) : Type 0 where
  inside : offset_of s xs + length s ≤ length (concat xs)
  content : part (concat xs) (offset_of s xs) (length s) ≡ s

stored : (s : Bytes) (xs : List Bytes) → stored? s xs ≡ true → Stored s xs
stored s [] e = true_false (sym e)
stored s (x ∷ xs) e =
    by (same_bytes x s)
    (λ q.
    let is = same_eq x s q in
    record {
      inside = rw q (omega (arith, length-append x (concat xs), ap length is));
      content = rw q (take_at x (concat xs) (length s) (ap length is) ∙ is);
    })
    (λ q.
    let r = stored s xs (rw q at e) in
    record {
      inside = rw q (omega (arith, length-append x (concat xs), r.inside));
      content = rw q (ap (take (length s)) (drop-append-add x (concat xs) (offset_of s xs)) ∙ r.content);
    })

stored-append : (s : Bytes) (xs ys : List Bytes) → stored? s xs ≡ true → stored? s (xs ++ ys) ≡ true
stored-append s [] ys e = true_false (sym e)
stored-append s (x ∷ xs) ys e = by (same_bytes x s) (λ q. rw q) (λ q. rw q (stored-append s xs ys (rw q at e)))

stored-new : (s : Bytes) (xs : List Bytes) → stored? s (xs ++ (s ∷ [])) ≡ true
stored-new s [] = rw (same_refl s)
stored-new s (x ∷ xs) = by (same_bytes x s) (λ q. rw q) (λ q. rw q (stored-new s xs))

-- every string of a table is stored
store_keeps : (s : Bytes) (xs : List Bytes) (es : List NameEntry) → stored? s xs ≡ true → stored? s (store xs es) ≡ true
store_keeps s xs [] e = e
store_keeps s xs (x ∷ es) e =
    by (stored? x.string xs)
    (λ q. rw q (store_keeps s xs es e))
    (λ q. rw q (store_keeps s (xs ++ (x.string ∷ [])) es (stored-append s xs (x.string ∷ []) e)))

store_has : (e : NameEntry) (xs : List Bytes) (es : List NameEntry) → stored? e.string (store xs (e ∷ es)) ≡ true
store_has e xs es =
    by (stored? e.string xs)
    (λ q. rw q (store_keeps e.string xs es q))
    (λ q. rw q (store_keeps e.string (xs ++ (e.string ∷ [])) es (stored-new e.string xs)))

abbrev AllIn : List Bytes → List NameEntry → Type 0
AllIn xs [] = Unit {0}
AllIn xs (e ∷ es) = (stored? e.string xs ≡ true) × AllIn xs es

all_in : (xs : List Bytes) (es : List NameEntry) → AllIn (store xs es) es
all_in xs [] = tt
all_in xs (e ∷ es) = (store_has e xs es, all_in (pick (stored? e.string xs) xs (xs ++ (e.string ∷ []))) es)

-- Kept records
record KeptEntry (e : NameEntry) : Type 0 where
  eight : length e.ids ≡ 8
  kept : is_kept e.ids ≡ true
  short : length e.string < 65536

abbrev AllKept : List NameEntry → Type 0
AllKept [] = Unit {0}
AllKept (e ∷ es) = KeptEntry e × AllKept es

abbrev Rows : List Bytes → Type 0
Rows [] = Unit {0}
Rows (r ∷ rs) = (12 ≤ length r) × (is_kept r ≡ true) × Rows rs

-- a test on the first eight bytes
kept-eight : (r s : Bytes) → ((i : ℕ) → i ≤ 6 → word16 r i ≡ word16 s i) → is_kept r ≡ is_kept s
kept-eight r s h = λ i. kept_ids (h 0 (omega arith) i) (h 2 (omega arith) i) (h 6 (omega arith) i)

rows-kept : (n : ℕ) (b : Bytes) → 12 * n ≤ length b → Rows (kept_rows (name_rows n b))
rows-kept zero b h = tt
rows-kept (suc n) b h =
    let ih = rows-kept n (drop 12 b) (omega (arith, length-drop 12 b)) in
    by (is_kept (take 12 b)) (λ e. rw e (omega (arith, length-take-le 12 b (omega arith)), e, ih)) (λ e. rw e ih)

entry_kept : (storage r : Bytes) (e : NameEntry) → 12 ≤ length r → is_kept r ≡ true → name_entry storage r ≡ ok e → KeptEntry e
unfolding name_entry
entry_kept storage r e h k q =
    let s₁ = need_inv 4 (leb (word16 r 10 + word16 r 8) 65535) _ e q in
    let s₂ = need_inv 4 (holds storage (word16 r 10) (word16 r 8)) _ e s₁.1 in
    let small = leb-true (word16 r 10 + word16 r 8) 65535 s₁.0 in
    subst KeptEntry (ok_inj s₂.1)
    (record {
      eight = length-take-le 8 r (omega arith);
      kept = kept-eight (take 8 r) r (λ i l. word16-take 8 r i (omega arith)) ∙ k;
      short = omega (arith, length-take (word16 r 8) (drop (word16 r 10) storage));
    })

all-kept : (storage : Bytes) (rs : List Bytes) (es : List NameEntry) → Rows rs → each (name_entry storage) rs ≡ ok es → AllKept es
all-kept storage [] es k q = subst AllKept (ok_inj q) tt
all-kept storage (r ∷ rs) es k q =
    let s₁ = bind_inv (name_entry storage r) _ es q in
    let s₂ = bind_inv (each (name_entry storage) rs) _ es s₁.then in
    subst AllKept (ok_inj s₂.then) (entry_kept storage r s₁.value k.0 k.1 s₁.first, all-kept storage rs s₂.value k.2 s₂.first)

entries-kept : (b : Bytes) (es : List NameEntry) → name_entries b ≡ ok es → AllKept es
unfolding name_entries
entries-kept b es q =
    let s₁ = need_inv 3 (holds b 0 6) _ es q in
    let s₂ = need_inv 3 (holds b 6 (12 * word16 b 2)) _ es s₁.1 in
    let s₃ = need_inv 3 (leb (word16 b 4) (length b)) _ es s₂.1 in
    let room = leb-true (6 + 12 * word16 b 2) (length b) s₂.0 in
    all-kept (drop (word16 b 4) b) (kept_rows (name_rows (word16 b 2) (drop 6 b))) es (rows-kept (word16 b 2) (drop 6 b) (omega (arith, length-drop 6 b))) s₃.1

-- Reading back, where xs is the storage
module _ (xs : List Bytes) where
  abbrev tail : NameEntry → Bytes
  tail e = be16 (length e.string) ++ be16 (offset_of e.string xs)

  length_new_row : (e : NameEntry) → KeptEntry e → length (new_row xs e) ≡ 12
  length_new_row e k = omega (arith, length-append e.ids (tail e), k.eight)

  rows_back : (es : List NameEntry) (r : Bytes) → AllKept es → name_rows (length es) (concat (map (new_row xs) es) ++ r) ≡ map (new_row xs) es
  rows_back [] r k = refl
  rows_back (e ∷ es) r k =
      let row = new_row xs e in
      let rest = concat (map (new_row xs) es) ++ r in
      let assoc = append_assoc row (concat (map (new_row xs) es)) r in
      ap₂ (λ (x : Bytes) (b : Bytes). x ∷ name_rows (length es) b)
      (ap (take 12) assoc ∙ take_at row rest 12 (length_new_row e k.0))
      (ap (drop 12) assoc ∙ drop_at row rest 12 (length_new_row e k.0))
      ∙ ap (λ (l : List Bytes). row ∷ l) (rows_back es r k.1)

  kept_back : (es : List NameEntry) → AllKept es → kept_rows (map (new_row xs) es) ≡ map (new_row xs) es
  kept_back [] k = refl
  kept_back (e ∷ es) k =
      let l = k.0.eight in
      pick_true _ _ _ (kept-eight (new_row xs e) e.ids (λ i h. word16-front e.ids (tail e) i (omega arith)) ∙ k.0.kept)
      (ap (λ (l : List Bytes). new_row xs e ∷ l) (kept_back es k.1))

  entry-back : (e : NameEntry) → KeptEntry e → stored? e.string xs ≡ true → length (concat xs) ≤ 65535 → name_entry (concat xs) (new_row xs e) ≡ ok e
  unfolding name_entry
  entry-back e k s total =
      let st = stored e.string xs s in
      let row = new_row xs e in
      let behind : drop 8 row ≡ tail e = drop_at e.ids (tail e) 8 k.eight in
      let len : word16 row 8 ≡ length e.string =
      sym (word16-drop row 8 0) ∙ ap (λ (b : Bytes). word16 b 0) behind ∙ word16-be16 (length e.string) [] k.short in
      let off : word16 row 10 ≡ offset_of e.string xs =
      sym (word16-drop row 8 2) ∙ ap (λ (b : Bytes). word16 b 2) behind ∙ word16-be16 (offset_of e.string xs) [] (omega (arith, st.inside)) in
      need-ok _ _ _ (le-leb (word16 row 10 + word16 row 8) 65535 (omega (arith, st.inside)))
      (need-ok _ _ _ (le-leb (word16 row 10 + word16 row 8) (length (concat xs)) (omega (arith, st.inside)))
      (λ i.
      ok
      (record {
        ids = take_at e.ids (tail e) 8 k.eight i;
        string = (ap₂ (λ (a b : ℕ). part (concat xs) a b) off len ∙ st.content) i;
      })))

  each_back : (es : List NameEntry) → AllKept es → AllIn xs es → length (concat xs) ≤ 65535 → each (name_entry (concat xs)) (map (new_row xs) es) ≡ ok es
  each_back [] k a t = refl
  each_back (e ∷ es) k a t = bind_ok _ _ (entry-back e k.0 a.0 t) (bind_ok _ _ (each_back es k.1 a.1 t) refl)

  length-rows : (es : List NameEntry) → AllKept es → length (concat (map (new_row xs) es)) ≡ 12 * length es
  length-rows [] k = refl
  length-rows (e ∷ es) k = omega (arith, length-append (new_row xs e) (concat (map (new_row xs) es)), length_new_row e k.0, length-rows es k.1)

-- a table that was written
module _ (es : List NameEntry) (k : AllKept es) (total : length (concat (store [] es)) ≤ 65535) (few : length es ≤ 5460) where
  abbrev rows : Bytes
  rows = concat (map (new_row (store [] es)) es)

  abbrev strings : Bytes
  strings = concat (store [] es)

  abbrev b : Bytes
  b = new_name es

  length-name : length b ≡ 6 + 12 * length es + length strings
  unfolding new_name
  length-name = omega (arith, length-append rows strings, length-rows (store [] es) es k)

  count-is : word16 b 2 ≡ length es
  unfolding new_name
  count-is = word16-be16 (length es) [] (omega arith)

  start_is : word16 b 4 ≡ 6 + 12 * length es
  unfolding new_name
  start_is = word16-be16 (6 + 12 * length es) [] (omega arith)

  rows_are : drop 6 b ≡ rows ++ strings
  unfolding new_name
  rows_are = refl

  storage-is : drop (6 + 12 * length es) b ≡ strings
  storage-is =
      sym (drop-drop (12 * length es) 6 b) ∙ ap (drop (12 * length es)) rows_are ∙ drop_at rows strings (12 * length es) (length-rows (store [] es) es k)

  entries-back : name_entries b ≡ ok es
  unfolding name_entries
  entries-back =
      need-ok _ _ _ (le-leb (0 + 6) (length b) (omega (arith, length-name)))
      (need-ok _ _ _ (le-leb (6 + 12 * word16 b 2) (length b) (omega (arith, length-name, count-is)))
      (need-ok _ _ _ (le-leb (word16 b 4) (length b) (omega (arith, length-name, start_is)))
      (ap₂ (λ (a : Bytes) (b : List Bytes). each (name_entry a) (kept_rows b))
      (ap (λ (n : ℕ). drop n b) start_is ∙ storage-is)
      (ap₂ (λ (n : ℕ) (b : Bytes). name_rows n b) count-is rows_are ∙ rows_back (store [] es) es strings k)
      ∙ ap (each (name_entry strings)) (kept_back (store [] es) es k)
      ∙ each_back (store [] es) es k (all_in [] es) total)))

  name-again : cut_name b ≡ ok b
  unfolding cut_name new_name
  name-again =
      need-ok _ _ _ (le-leb (0 + 2) (length b) (omega (arith, length-name)))
      (bind_ok _ _ entries-back (need-ok _ _ _ (le-leb _ 65535 total) (need-ok _ _ _ (le-leb _ 5460 few) refl)))

pub name-twice : (b c : Bytes) → cut_name b ≡ ok c → cut_name c ≡ ok c
unfolding cut_name
name-twice b c q =
    let s₁ = need_inv 3 (holds b 0 2) _ c q in
    by (eqb (word16 b 0) 0)
    (λ e.
    let s₂ = bind_inv (name_entries b) _ c (rw e at s₁.1) in
    let es = s₂.value in
    let s₃ = need_inv 5 (leb (length (concat (store [] es))) 65535) _ c s₂.then in
    let s₄ = need_inv 5 (leb (length es) 5460) _ c s₃.1 in
    subst (λ (c : Bytes). cut_name c ≡ ok c) (ok_inj s₄.1)
    (name-again es (entries-kept b es s₂.first) (leb-true _ 65535 s₃.0) (leb-true _ 5460 s₄.0)))
    (λ e. let d : ok b ≡ ok c = rw e at s₁.1 in subst (λ (c : Bytes). cut_name c ≡ ok c) (ok_inj d) (q ∙ sym d))
