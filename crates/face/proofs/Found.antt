-- The places that the records leave are what `find` finds among the usable tables: record by record, for each of the eleven tags.
use mathlib.Core.Path.{◌≡◌, refl, sym, ap, ap₂, ◌∙◌, subst}
use mathlib.Core.Bool.{true, false}
use mathlib.Core.Option.{Option, none, some}
use mathlib.Core.List.{List, [], ◌∷◌}
use Prim.Native.Nat.{ℕ, zero, suc, ◌+◌, ◌*◌, ◌≤◌, ◌<◌}
use native.Mathlib.Omega.{arith}
use lib.Dec.{leb, eqb}
use lib.ListN.{length, get_or, set, drop, length-set, get_or-replicate, drop_of_length-le}
use lib.Seq.{get_or-set_same, get_or-set_other, get_or-drop, drop-cons}
use native.Mathlib.Numerals.{add-one}
use borrow.Author.Tests.{le-leb, lt-leb, leb-true, eq-eqb, eqb-true, eqb-false, ne_eqb}
use Rattle.model.specs.Res.{pick}
use Rattle.model.specs.Bytes.{Bytes, word32, holds, part, place}
use Rattle.model.specs.Font.{Row, usable, find, row_of, rows}
use Rattle.model.proofs.Res.{pick_true}
use Rattle.model.proofs.Members.{by}
use Rattle.model.proofs.Font.{length-rows, get_d_rows}
use Rattle.face.proofs.Tags.{no_row, another, numbered}
use Rattle.model.proofs.Places.{place-get, get-found}
use Rattle.places.specs.declared.Place.{Place}
use Rattle.places.specs.declared.Tables.{Tables as Places}
use Rattle.places.specs.Places.{tag_words, missing, present_at, content_at, option_at, nowhere, Within}
use Rattle.std.specs.Prelude.{Option as Maybe, Some, None, is_some, position, nat_eq}
use Rattle.std.specs.Option.{unwrap_or}
use Rattle.std.specs.Cmp.Lexicographic.{pointwise}
use Rattle.places.specs.declared.TheConstants.{TAGS}
use Rattle.face.specs.Opening.{row_place, noted_row, noted_rows}

-- what stands for table number k
abbrev slot : Places → ℕ → Maybe Place
slot t k = get_or t.places k None

-- the code's three ways with a record
module _ (font b : Bytes) (t : Places) (small : (i : ℕ) → get_or b i 0 < 256) (room : 16 ≤ length b) (tag : List ℕ) (o : Maybe ℕ)
    (e : tag ≡ part b 0 4) (f : o ≡ position (λ t. pointwise nat_eq t tag) TAGS) where
  pub noted_other : o ≡ None → t ≡ noted_row font (row_of b) t
  unfolding noted_row
  noted_other n = sym (pick_true _ _ _ (le-leb 11 (place tag_words (word32 b 0)) (another b small room tag o e f n)) refl)

  module _ (k : ℕ) (is : o ≡ Some k) where
    pub noted_old : present_at t k ≡ true → t ≡ noted_row font (row_of b) t
    unfolding noted_row
    noted_old p =
        let n = numbered b small room tag o e f k is in
        rw (← n.1, lt-leb 11 k n.0, p)

    pub noted_new : present_at t k ≡ false → (q : Maybe Place) → q ≡ row_place font (row_of b) → record { places = set t.places k q } ≡ noted_row font (row_of b) t
    unfolding noted_row
    noted_new p q h =
        let n = numbered b small room tag o e f k is in
        rw (← n.1, lt-leb 11 k n.0, p, h)

-- the records from i on
pub noted_on : (font : Bytes) (n : ℕ) (b : Bytes) (i : ℕ) (t : Places) → i < n
    → noted_rows font (drop i (rows n b)) t ≡ noted_rows font (drop (i + 1) (rows n b)) (noted_row font (row_of (drop (16 * i) b)) t)
unfolding noted_rows
noted_on font n b i t h =
    ap (λ (rs : List Row). noted_rows font rs t) (drop-cons (rows n b) i no_row (omega (arith, length-rows n b)))
    ∙ ap₂ (λ (k : ℕ) (r : Row). noted_rows font (drop k (rows n b)) (noted_row font r t)) (sym (add-one i)) (get_d_rows n b i no_row h)

pub noted_end : (font : Bytes) (n : ℕ) (b : Bytes) (i : ℕ) (t : Places) → n ≤ i → noted_rows font (drop i (rows n b)) t ≡ t
unfolding noted_rows
noted_end font n b i t h = ap (λ (rs : List Row). noted_rows font rs t) (drop_of_length-le (rows n b) {i = i} (omega (arith, length-rows n b)))

-- the first that is there
abbrev or_else : Option Bytes → Option Bytes → Option Bytes
or_else none b = b
or_else (some a) b = some a

or_else_assoc : (a b c : Option Bytes) → or_else (or_else a b) c ≡ or_else a (or_else b c)
or_else_assoc none b c = refl
or_else_assoc (some a) b c = refl

or_else_none : (a : Option Bytes) → or_else a none ≡ a
or_else_none none = refl
or_else_none (some a) = refl

-- one usable table, or none, of a record
abbrev one : Bytes → Row → ℕ → Option Bytes
one font r w = pick (holds font r.offset r.size) (pick (eqb r.tag w) (some (part font r.offset r.size)) none) none

find_first : (font : Bytes) (r : Row) (rs : List Row) (w : ℕ) → find w (usable font (r ∷ rs)) ≡ or_else (one font r w) (find w (usable font rs))
find_first font r rs w =
    by (holds font r.offset r.size)
    (λ e. rw e (by (eqb r.tag w) (λ q. rw q) (λ q. rw q)))
    (λ e. rw e)

none_other : (font : Bytes) (r : Row) (w : ℕ) → eqb r.tag w ≡ false → one font r w ≡ none
none_other font r w e = rw e (by (holds font r.offset r.size) (λ q. rw q) (λ q. rw q))

-- each of the eleven tags stands at its own number
tag-place : (k : ℕ) → k < 11 → place tag_words (get_or tag_words k 0) ≡ k
tag-place k h = place-get tag_words k (refl, (refl, (refl, (refl, (refl, (refl, (refl, (refl, (refl, (refl, (refl, tt))))))))))) h

module _ (font : Bytes) (r : Row) (t : Places) (eleven : length t.places ≡ 11) where
  pub eleven_noted : length (noted_row font r t).places ≡ 11
  unfolding noted_row
  eleven_noted =
      by (leb 11 (place tag_words r.tag))
      (λ e. rw e eleven)
      (λ e. rw e (by (present_at t (place tag_words r.tag)) (λ q. rw q eleven) (λ q. rw q (simp length-set eleven))))

  -- a table that the record isn't of stays as it was
  other_stays : (k : ℕ) → (place tag_words r.tag ≡ k → ⊥) → slot (noted_row font r t) k ≡ slot t k
  unfolding noted_row
  other_stays k n =
      by (leb 11 (place tag_words r.tag))
      (λ e. rw e)
      (λ e. rw e (by (present_at t (place tag_words r.tag)) (λ q. rw q) (λ q. rw q (get_or-set_other t.places (place tag_words r.tag) k (row_place font r) None (λ q. n (sym q))))))

  -- the table it is of: the old place, or the record's
  own-place : place tag_words r.tag < 11 → slot (noted_row font r t) (place tag_words r.tag) ≡ pick (is_some (slot t (place tag_words r.tag))) (slot t (place tag_words r.tag)) (row_place font r)
  unfolding noted_row
  own-place h =
      rw (lt-leb 11 (place tag_words r.tag) h)
      (by (present_at t (place tag_words r.tag))
      (λ q. rw q)
      (λ q. rw q (get_or-set_same t.places (place tag_words r.tag) (row_place font r) None (omega (arith, eleven)))))

-- what a place gives
abbrev given : Bytes → Maybe Place → Option Bytes
given font None = none
given font (Some p) = some (part font p.offset p.length)

given-at : (font : Bytes) (o : Maybe Place) → pick (is_some o) (some (part font (unwrap_or o missing).offset (unwrap_or o missing).length)) none ≡ given font o
given-at font None = refl
given-at font (Some p) = refl

pub option-given : (font : Bytes) (t : Places) (k : ℕ) → option_at font t k ≡ given font (slot t k)
unfolding option_at content_at
option-given font t k = given-at font (slot t k)

given-row : (font : Bytes) (r : Row) → given font (row_place font r) ≡ one font r r.tag
unfolding row_place
given-row font r = by (holds font r.offset r.size) (λ e. rw (e, eq-eqb r.tag r.tag refl)) (λ e. rw e)

given-either : (font : Bytes) (p q : Maybe Place) → given font (pick (is_some p) p q) ≡ or_else (given font p) (given font q)
given-either font None q = refl
given-either font (Some p) q = refl

noted_finds : (font : Bytes) (r : Row) (t : Places) → length t.places ≡ 11 → (k : ℕ) → k < 11
    → given font (slot (noted_row font r t) k) ≡ or_else (given font (slot t k)) (one font r (get_or tag_words k 0))
noted_finds font r t eleven k h =
    by (eqb (place tag_words r.tag) k)
    (λ e. let q = eqb-true (place tag_words r.tag) k e in
    let w : get_or tag_words k 0 ≡ r.tag = ap (λ (j : ℕ). get_or tag_words j 0) (sym q) ∙ get-found tag_words r.tag (omega (arith, q)) in
    ap (λ (j : ℕ). given font (slot (noted_row font r t) j)) (sym q)
    ∙ ap (given font) (own-place font r t eleven (omega (arith, q)))
    ∙ given-either font (slot t (place tag_words r.tag)) (row_place font r)
    ∙ ap₂ (λ (j : ℕ) (b : Option Bytes). or_else (given font (slot t j)) b) q (given-row font r ∙ ap (one font r) (sym w)))
    (λ e. let n = eqb-false (place tag_words r.tag) k e in
    ap (given font) (other_stays font r t eleven k n)
    ∙ sym (or_else_none (given font (slot t k)))
    ∙ ap (or_else (given font (slot t k)))
    (sym (none_other font r (get_or tag_words k 0) (ne_eqb r.tag (get_or tag_words k 0) (λ q. n (ap (place tag_words) q ∙ tag-place k h))))))

-- all records
all_found : (font : Bytes) (rs : List Row) (t : Places) → length t.places ≡ 11 → (k : ℕ) → k < 11
    → given font (slot (noted_rows font rs t) k) ≡ or_else (given font (slot t k)) (find (get_or tag_words k 0) (usable font rs))
unfolding noted_rows
all_found font [] t eleven k h = sym (or_else_none (given font (slot t k)))
all_found font (r ∷ rs) t eleven k h =
    all_found font rs (noted_row font r t) (eleven_noted font r t eleven) k h
    ∙ ap (λ (a : Option Bytes). or_else a (find (get_or tag_words k 0) (usable font rs))) (noted_finds font r t eleven k h)
    ∙ or_else_assoc (given font (slot t k)) (one font r (get_or tag_words k 0)) (find (get_or tag_words k 0) (usable font rs))
    ∙ ap (or_else (given font (slot t k))) (sym (find_first font r rs (get_or tag_words k 0)))

pub found : (font : Bytes) (rs : List Row) (k : ℕ) → k < 11 → option_at font (noted_rows font rs nowhere) k ≡ find (get_or tag_words k 0) (usable font rs)
found font rs k h =
    option-given font (noted_rows font rs nowhere) k
    ∙ all_found font rs nowhere refl k h
    ∙ ap (λ (p : Maybe Place). or_else (given font p) (find (get_or tag_words k 0) (usable font rs))) (get_or-replicate 11 k None None h)

-- every place stays in the file
abbrev Fine : Bytes → Maybe Place → Type 0
Fine font o = ((unwrap_or o missing).offset + (unwrap_or o missing).length ≤ length font) × ((unwrap_or o missing).length ≤ 4294967295)

row_within : (font b : Bytes) → ((i : ℕ) → get_or b i 0 < 256) → Fine font (row_place font (row_of b))
unfolding row_place
row_within font b small =
    by (holds font (word32 b 8) (word32 b 12))
    (λ e. rw e (leb-true (word32 b 8 + word32 b 12) (length font) e, omega (arith, small 12, small 13, small 14, small 15)))
    (λ e. rw e (omega arith, omega arith))

noted_within : (font b : Bytes) (t : Places) → ((i : ℕ) → get_or b i 0 < 256) → length t.places ≡ 11 → Within font t → Within font (noted_row font (row_of b) t)
noted_within font b t small eleven w k h =
    by (eqb (place tag_words (word32 b 0)) k)
    (λ e. let q = eqb-true (place tag_words (word32 b 0)) k e in
    subst (Fine font) (ap (slot (noted_row font (row_of b) t)) q)
    (subst (Fine font) (sym (own-place font (row_of b) t eleven (omega (arith, q))))
    (by (is_some (slot t (place tag_words (word32 b 0))))
    (λ p. rw p (w (place tag_words (word32 b 0)) (omega (arith, q))))
    (λ p. rw p (row_within font b small)))))
    (λ e. subst (Fine font) (sym (other_stays font (row_of b) t eleven k (eqb-false (place tag_words (word32 b 0)) k e))) (w k h))

all-within : (font : Bytes) (n : ℕ) (b : Bytes) (t : Places) → ((i : ℕ) → get_or b i 0 < 256) → length t.places ≡ 11 → Within font t → Within font (noted_rows font (rows n b) t)
unfolding noted_rows
all-within font zero b t small eleven w = w
all-within font (suc n) b t small eleven w =
    all-within font n (drop 16 b) (noted_row font (row_of b) t) (λ i. subst (λ (x : ℕ). x < 256) (sym (get_or-drop 16 b i 0)) (small (16 + i)))
    (eleven_noted font (row_of b) t eleven) (noted_within font b t small eleven w)

nowhere-within : (font : Bytes) → Within font nowhere
nowhere-within font k h = subst (Fine font) (sym (get_or-replicate 11 k None None h)) (omega arith, omega arith)

pub places-within : (font : Bytes) (n : ℕ) (b : Bytes) → ((i : ℕ) → get_or b i 0 < 256) → Within font (noted_rows font (rows n b) nowhere)
places-within font n b small = all-within font n b nowhere small refl (nowhere-within font)
