-- The roster's outlines, place by place: what each is, how long it is, and that the scratch has the numbers it needs.
use Rattle.std.proofs.Common.{◌≡◌, refl, sym, ap, ap₂, ◌∙◌, Bool, true, false, List, [], ◌∷◌, ◌++◌, map, None, Some, ℕ, zero, suc, ◌+◌, ◌*◌, ◌-◌, ◌/◌, ◌%◌, ◌≤◌, ◌<◌, arith, add-sub_cancel, leb, eqb, length, take, drop, get_or, length-take, eq-eqb}
use native.Mathlib.Nat.{min-le_right}
use Rattle.model.specs.Res.{Res, refuse, ok, either, need, map_res, each, is_ok, value_of, ◌>>=◌, ◌>>◌}
use Rattle.model.specs.Bytes.{Bytes, part, member, place}
use Rattle.model.specs.Font.{Tables}
use Rattle.model.specs.Glyf.{Width, short, long, width_of, entry_size, entry, glyphs, glyph_bytes}
use Rattle.model.specs.Outline.{Outline, empty, simple, composite, outline, components, id_of, renumber_record, renumber, written}
use Rattle.model.specs.Cut.{count, outline_of, piece_of}
use Rattle.model.proofs.Res.{true_false, EachOk, each_inv}
use Rattle.outline.specs.Places.{span_at, span_bytes, span_of, kept_length}
use Rattle.outline.specs.declared.Span.{Span}
use Rattle.outline.proofs.Cases.{entry-long, entry-short}
use Rattle.outline.proofs.Records.{map-map}
use Rattle.outline.proofs.Glyphs.{span_reads, kept-renumbered, kept-within}
use Rattle.glyf.specs.Pieces.{outline_at, piece, pieces, length_at, new_from, Readable, Numbered}

-- the model's pieces
pub piece_of_lem : (t : Tables) (new : ℕ → ℕ) (g : ℕ) → piece_of t new g ≡ piece (width_of t.head) (count t) t.loca t.glyf new g
unfolding piece_of outline_of piece outline_at
piece_of_lem t new g = refl

pub each-piece_of : (t : Tables) (new : ℕ → ℕ) (xs : List ℕ) → each (piece_of t new) xs ≡ each (piece (width_of t.head) (count t) t.loca t.glyf new) xs
each-piece_of t new [] = refl
each-piece_of t new (x ∷ xs) =
    ap₂ (λ a m. a >>= λ y. m >>= λ ys. ok (y ∷ ys)) (piece_of_lem t new x) (each-piece_of t new xs)

-- a font with glyphs has an entry more
pub entries-all : (w : Width) (loca : Bytes) → 0 < glyphs w loca → entry_size w * (glyphs w loca + 1) ≤ length loca
entries-all short loca h = omega (arith, min-le_right 65536 (length loca / 2 - 1))
entries-all long loca h = omega (arith, min-le_right 65536 (length loca / 4 - 1))

pub value_of_lem : {A : Type 0} (z : A) (m : Res A) → is_ok m ≡ true → m ≡ ok (value_of z m)
value_of_lem z (refuse k) h = true_false (sym h)
value_of_lem z (ok a) h = refl

pub member-at : (xs : List ℕ) (i : ℕ) → i < length xs → member (get_or xs i 0) xs ≡ true
member-at [] i h = absurd (omega arith)
member-at (x ∷ xs) zero h = ap (λ (t : Bool). either t (member x xs)) (eq-eqb x x refl)
member-at (x ∷ xs) (suc i) h = there (eqb (get_or xs i 0) x) (member-at xs i (omega arith))
  where
    there : (t : Bool) → member (get_or xs i 0) xs ≡ true → either t (member (get_or xs i 0) xs) ≡ true
    there true e = refl
    there false e = e

module _ (w : Width) (n : ℕ) (loca glyf : Bytes) where
  -- a glyph's outline, by where it stands
  pub outline-there : (g : ℕ) {s : Span} → span_at w loca glyf g ≡ Some s → outline_at w n loca glyf g ≡ outline n (span_bytes glyf s)
  unfolding outline_at
  outline-there g e = ap (λ m. m >>= λ b. outline n b) (sym (span_reads w loca glyf g) ∙ ap (span_of glyf) e)

  pub outline-nowhere : (g : ℕ) → span_at w loca glyf g ≡ None → outline_at w n loca glyf g ≡ refuse 3
  unfolding outline_at
  outline-nowhere g e = ap (λ m. m >>= λ b. outline n b) (sym (span_reads w loca glyf g) ∙ ap (span_of glyf) e)

  pub length-there : (g : ℕ) {s : Span} → span_at w loca glyf g ≡ Some s → length_at w n loca glyf g ≡ kept_length n (span_bytes glyf s)
  unfolding length_at kept_length
  length-there g e = ap (λ m. value_of 0 (map_res (λ (o : Outline). length (written o)) m)) (outline-there g e)

  pub length-nowhere : (g : ℕ) → span_at w loca glyf g ≡ None → length_at w n loca glyf g ≡ 0
  unfolding length_at
  length-nowhere g e = ap (λ m. value_of 0 (map_res (λ (o : Outline). length (written o)) m)) (outline-nowhere g e)

  -- a piece is as long as was measured, whatever the new numbers
  pub length-piece : (new : ℕ → ℕ) (g : ℕ) → map_res (λ (b : Bytes). length b) (piece w n loca glyf new g) ≡ map_res (λ (o : Outline). length (written o)) (outline_at w n loca glyf g)
  unfolding piece outline_at
  length-piece new g = map-map (λ (o : Outline). written (renumber new o)) (λ (b : Bytes). length b) (glyph_bytes w loca glyf g >>= λ b. outline n b) ∙ go (glyph_bytes w loca glyf g)
    where
      go : (m : Res Bytes) → map_res (λ (o : Outline). length (written (renumber new o))) (m >>= λ b. outline n b) ≡ map_res (λ (o : Outline). length (written o)) (m >>= λ b. outline n b)
      go (refuse k) = refl
      go (ok b) = kept-renumbered n b new

  pub length-read : (new : ℕ → ℕ) (g : ℕ) (b : Bytes) → piece w n loca glyf new g ≡ ok b → length b ≡ length_at w n loca glyf g
  unfolding length_at
  length-read new g b e = ap (value_of 0) (sym (ap (map_res (λ (b : Bytes). length b)) e) ∙ length-piece new g)

  -- lengths are differences of 32-bit offsets
  module _ (small : (i : ℕ) → get_or loca i 0 < 256) where
    entry-small : (w : Width) (i : ℕ) → entry w loca i < 4294967296
    entry-small short i = rw (entry-short loca i) (omega (arith, small (2 * i), small (2 * i + 1)))
    entry-small long i = rw (entry-long loca i) (omega (arith, small (4 * i), small (4 * i + 1), small (4 * i + 2), small (4 * i + 2 + 1)))

    pub length-small : (g : ℕ) → length_at w n loca glyf g < 4294967296
    unfolding length_at outline_at glyph_bytes
    length-small g = go (leb (entry w loca g) (entry w loca (suc g))) (leb (entry w loca (suc g)) (length glyf))
      where
        here : Bytes
        here = part glyf (entry w loca g) (entry w loca (suc g) - entry w loca g)

        go : (up in-glyf : Bool)
            → value_of 0 (map_res (λ (o : Outline). length (written o)) ((need 3 up >> (need 3 in-glyf >> ok here)) >>= λ b. outline n b)) < 4294967296
        go false in-glyf = omega arith
        go true false = omega arith
        go true true = unfold kept_length in omega (arith, kept-within n here, length-take (entry w loca (suc g) - entry w loca g) (drop (entry w loca g) glyf), entry-small w (suc g))

-- the roster's pieces
module _ {w : Width} {n : ℕ} {loca glyf : Bytes} {roster : List ℕ} (r : Readable w n loca glyf roster) where
  read-each : EachOk (piece w n loca glyf (place roster)) roster (pieces w n loca glyf roster) 0 []
  read-each = each_inv (piece w n loca glyf (place roster)) roster (pieces w n loca glyf roster) 0 [] read_all
    where
      read_all : each (piece w n loca glyf (place roster)) roster ≡ ok (pieces w n loca glyf roster)
      read_all = unfold pieces in value_of_lem [] (each (piece w n loca glyf (place roster)) roster) r.read

  pub length-pieces : length (pieces w n loca glyf roster) ≡ length roster
  length-pieces = read-each.same_length

  module _ (i : ℕ) (h : i < length roster) where
    pub within-pieces : i < length (pieces w n loca glyf roster)
    within-pieces = rw length-pieces h

    pub piece-at : piece w n loca glyf (place roster) (get_or roster i 0) ≡ ok (get_or (pieces w n loca glyf roster) i [])
    piece-at = read-each.at i h

    pub length-piece-at : length_at w n loca glyf (get_or roster i 0) ≡ length (get_or (pieces w n loca glyf roster) i [])
    length-piece-at = sym (length-read w n loca glyf (place roster) (get_or roster i 0) (get_or (pieces w n loca glyf roster) i []) piece-at)

    -- both its offsets are in loca
    pub entries_at : entry_size w * (get_or roster i 0 + 2) ≤ length loca
    entries_at = go w r.entries (r.low (get_or roster i 0) (member-at roster i h))
      where
        go : (w : Width) → entry_size w * (n + 1) ≤ length loca → get_or roster i 0 < n → entry_size w * (get_or roster i 0 + 2) ≤ length loca
        go short a b = omega arith
        go long a b = omega arith

-- two numberings that agree on the components
module _ (new other : ℕ → ℕ) where
  records_agree : (rs : List Bytes) → ((id : ℕ) → member id (map id_of rs) ≡ true → new id ≡ other id) → map (renumber_record new) rs ≡ map (renumber_record other) rs
  records_agree [] h = refl
  records_agree (r ∷ rs) h =
      ap₂ (λ (a : ℕ) (l : List Bytes). (take 2 r ++ (a / 256 % 256 ∷ a % 256 ∷ [] ++ drop 4 r)) ∷ l)
      (h (id_of r) (ap (λ (t : Bool). either t (member (id_of r) (map id_of rs))) (eq-eqb (id_of r) (id_of r) refl)))
      (records_agree rs (λ id e. h id (there (eqb id (id_of r)) id e)))
    where
      there : (t : Bool) (id : ℕ) → member id (map id_of rs) ≡ true → either t (member id (map id_of rs)) ≡ true
      there true id e = refl
      there false id e = e

  outline_agree : (o : Outline) → ((id : ℕ) → member id (components o) ≡ true → new id ≡ other id) → renumber new o ≡ renumber other o
  outline_agree empty h = refl
  outline_agree (simple b) h = refl
  outline_agree (composite b rs t) h = ap (λ (l : List Bytes). composite b l t) (records_agree rs h)

  outlines_agree : (m : Res Outline) → ((id : ℕ) → member id (value_of [] (map_res components m)) ≡ true → new id ≡ other id)
      → map_res (λ (o : Outline). written (renumber new o)) m ≡ map_res (λ (o : Outline). written (renumber other o)) m
  outlines_agree (refuse k) h = refl
  outlines_agree (ok o) h = ap (λ (o : Outline). ok (written o)) (outline_agree o h)

-- the scratch's numbers are the roster's
pub piece_agree : {w : Width} {n : ℕ} {loca glyf : Bytes} {scratch : List ℕ} {kept : ℕ} → Numbered w n loca glyf scratch kept
    → (g : ℕ) → member g (take kept scratch) ≡ true → piece w n loca glyf (new_from n scratch) g ≡ piece w n loca glyf (place (take kept scratch)) g
unfolding piece
piece_agree {w} {n} {loca} {glyf} {scratch} {kept} h g e =
    outlines_agree (new_from n scratch) (place (take kept scratch)) (outline_at w n loca glyf g)
    (λ id f. ap (λ (x : ℕ). x - 1) (h.numbers id (h.closed g id e f)) ∙ add-sub_cancel (place (take kept scratch) id) 1)
