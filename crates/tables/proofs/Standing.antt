-- The layout's places are those of the new tables: each is marked if it is there, is as long as its bytes, and has its room in the output.
use mathlib.Core.Path.{◌≡◌, refl, sym, ap, ap₂, ◌∙◌, subst}
use mathlib.Core.Bool.{true, false}
use mathlib.Core.Option.{Option, none, some}
use mathlib.Core.List.{List, []}
use Prim.Native.Nat.{ℕ, ◌+◌, ◌-◌, ◌%◌, ◌≤◌, ◌<◌}
use native.Mathlib.Omega.{arith}
use lib.Dec.{lit<}
use lib.ListN.{length, get_or, take, drop, replicate, length-append, length-take, length-drop, get_or-map}
use borrow.Rule.Slice.PartMut.{put_mid}
use Rattle.model.specs.Bytes.{Bytes, place, put, over, pad4}
use Rattle.model.specs.Res.{each, value_of}
use Rattle.model.specs.Font.{Tables}
use Rattle.model.specs.Glyf.{size, new_width}
use Rattle.model.specs.Cut.{piece_of}
use Rattle.model.specs.File.{entries, file}
use Rattle.model.proofs.Bytes.{length-put, length_over}
use Rattle.model.proofs.Puts.{put-swap}
use Rattle.model.proofs.Parts.{put_back}
use Rattle.places.specs.Places.{place_at, present_at}
use Rattle.construct.specs.declared.Layout.{Layout}
use Rattle.construct.specs.Construct.{raised, laid_out, laid, content_of, body_of, marks, Marked, Sized, Placed, Ready, Written, write_at, write_to}
use Rattle.construct.proofs.Files.{length-pad4, raised-room}
use Rattle.construct.proofs.Placing.{layout-placed, layout-length, layout-present}
use Rattle.construct.proofs.Readiness.{pad_room, place-room}
use Rattle.construct.proofs.Written.{write_there, written_to, written-ready, length_cut, finish-cut}
use Rattle.plan.specs.declared.Source.{Source}
use Rattle.plan.specs.declared.Plan.{Plan}
use Rattle.plan.specs.Steps.{renewed, tables_of, there?, bytes_in}
use Rattle.plan.specs.Sources.{font_of, Found}
use Rattle.glyf.proofs.Puts.{put-lent}
use Rattle.tables.specs.Writing.{body_from, others_to, WritesFrom, FitsFrom, OutlinesFitFrom}
use Rattle.tables.proofs.Lengths.{length-new_head}
use Rattle.tables.proofs.Order.{ends-before, in_tag_order}

-- the tables by number, as the measures and as the layout have them
same-content : (o : Option Bytes) → content_of o ≡ bytes_in o
same-content none = refl
same-content (some b) = refl

pub body_is : (c : Tables) (k : ℕ) → body_of c k ≡ bytes_in (get_or (tables_of c) k none)
unfolding body_of
body_is c k = simp same-content (get_or-map bytes_in (tables_of c) k none)

pub mark-is : (c : Tables) (k : ℕ) → get_or (marks c) k false ≡ there? (get_or (tables_of c) k none)
unfolding marks
mark-is c k = get_or-map there? (tables_of c) k none

module _ (t : Tables) (r : List ℕ) (p : Plan) (found : Found t r p) (new : Layout) (is : new ≡ laid_out p.sized) where
  placed_at : Placed new
  placed_at = subst Placed (sym is) (layout-placed p.sized)

  marked-at : Marked (renewed t r) new.tables
  marked-at k h =
      subst (λ (n : Layout). present_at n.tables k ≡ get_or (marks (renewed t r)) k false) (sym is)
      (layout-present p.sized k h ∙ (found.sized k h).0 ∙ sym (mark-is (renewed t r) k))

  sized-at : Sized new.tables (body_of (renewed t r))
  sized-at k h there =
      subst (λ (n : Layout). length (body_of (renewed t r) k) ≡ (place_at n.tables k).length) (sym is)
      (ap length (body_is (renewed t r) k) ∙ sym (layout-length p.sized k h ∙ (found.sized k h).1))

  -- head is long enough for its adjustment
  head-long : 52 ≤ length t.head → 12 ≤ (place_at new.tables 3).length
  unfolding marks body_of renewed
  head-long h =
      let l = length-new_head (new_width (size (value_of [] (each (piece_of t (place r)) r)))) t.head h in
      let e = sized-at 3 (lit< tt) (marked-at 3 (lit< tt)) in
      omega arith

-- THEOREM. The file's length is the layout's end, before a byte is written
pub file-length : (t : Tables) (r : List ℕ) (p : Plan) → Found t r p → 52 ≤ length t.head
    → length (file (entries (renewed t r))) ≡ (laid_out p.sized).end
file-length t r p found long =
    length_cut (renewed t r) (laid_out p.sized) (placed_at t r p found (laid_out p.sized) refl) (marked-at t r p found (laid_out p.sized) refl)
    (sized-at t r p found (laid_out p.sized) refl) (head-long t r p found (laid_out p.sized) refl long)

-- table number k has its place in the output
pub record Spot (new : Layout) (k : ℕ) (body out : Bytes) : Type 0 where
  pub there : present_at new.tables k ≡ true
  pub size : length body ≡ (place_at new.tables k).length
  pub padded : (place_at new.tables k).offset + raised (place_at new.tables k).length ≤ length out
  pub inside : (place_at new.tables k).offset + length body ≤ length out

-- the part of the output that its writer is lent
abbrev pub lent_part : Layout → ℕ → Bytes → Bytes
lent_part new k out = take (length out - (place_at new.tables k).offset) (drop (place_at new.tables k).offset out)

module _ {new : Layout} {k : ℕ} {body out : Bytes} (s : Spot new k body out) where
  pub lent-room : length body ≤ length (lent_part new k out)
  lent-room = let i = s.inside in simp (length-take, length-drop) (omega arith)

  -- what a writer leaves of the lent part, in its place again
  part-back : (y : Bytes) → y ≡ over body (lent_part new k out)
      → put_mid (place_at new.tables k).offset (length out - (place_at new.tables k).offset) out y ≡ put out (place_at new.tables k).offset body
  part-back y e =
      let at = (place_at new.tables k).offset in
      let i = s.inside in
      ap (put_mid at (length out - at) out) e ∙ put_back at (length out - at) out body (omega arith) (omega arith)

  pub pad_fits : (y : Bytes) → y ≡ over body (lent_part new k out)
      → (place_at new.tables k).offset + raised (place_at new.tables k).length
      ≤ length (put_mid (place_at new.tables k).offset (length out - (place_at new.tables k).offset) out y)
  pad_fits y e =
      let l = ap length (part-back y e) ∙ length-put out (place_at new.tables k).offset body s.inside in
      let p = s.padded in
      omega arith

  -- and then padded: the padded table at its place
  pub part-written : (y o : Bytes) → y ≡ over body (lent_part new k out)
      → o ≡ put (put_mid (place_at new.tables k).offset (length out - (place_at new.tables k).offset) out y)
      ((place_at new.tables k).offset + (place_at new.tables k).length) (replicate ((4 - (place_at new.tables k).length % 4) % 4) 0)
      → o ≡ write_at new k body out
  part-written y o e f =
      let at = (place_at new.tables k).offset in
      let i = s.inside in
      write_there new k body out (put_mid at (length out - at) out y) o s.there (omega arith) (part-back y e)
      (f ∙ ap (λ (n : ℕ). put (put_mid at (length out - at) out y) (at + n) (replicate ((4 - n % 4) % 4) 0)) (sym s.size))

-- glyf and loca have their places, loca's behind glyf's zeros: what their writer leaves of the part that starts with glyf, and then the zeros
module _ {new : Layout} {g l out : Bytes} (sg : Spot new 2 g out) (sl : Spot new 6 l out)
    (apart : (place_at new.tables 2).offset + raised (place_at new.tables 2).length ≤ (place_at new.tables 6).offset) where
  abbrev at : ℕ
  at = (place_at new.tables 2).offset

  abbrev to : ℕ
  to = (place_at new.tables 6).offset

  behind-glyf : at + length (pad4 g) ≤ to
  behind-glyf = omega (arith, apart, length-pad4 g ∙ ap raised sg.size)

  length-glyf : length (write_at new 2 g out) ≡ length out
  unfolding write_at
  length-glyf = rw sg.there (length-put out at (pad4 g) (omega (arith, behind-glyf, sl.inside)))

  module _ (y : Bytes) (e : y ≡ put (over g (lent_part new 2 out)) (to - at) l) where
    both-back : put_mid at (length out - at) out y ≡ put (put out at g) to l
    both-back =
        let whole : length (over g (lent_part new 2 out)) ≡ length out - at = length_over g (lent_part new 2 out) (lent-room sg) ∙ simp (length-take, length-drop) (omega arith) in
        ap (put_mid at (length out - at) out) e
        ∙ put-lent at (length out - at) (to - at) out (over g (lent_part new 2 out)) l (omega (arith, sg.inside)) (omega (arith, behind-glyf, sl.inside))
        ∙ ap₂ (λ (z : Bytes) (m : ℕ). put z m l) (part-back sg (over g (lent_part new 2 out)) refl) (omega (arith, behind-glyf))

    both-length : length (put_mid at (length out - at) out y) ≡ length out
    both-length =
        let h = length-put out at g sg.inside in
        ap length both-back ∙ length-put (put out at g) to l (omega (arith, sl.inside)) ∙ h

    pub glyf-pad-fits : at + raised (place_at new.tables 2).length ≤ length (put_mid at (length out - at) out y)
    glyf-pad-fits = omega (arith, both-length, sg.padded)

    module _ (o : Bytes) (f : o ≡ put (put_mid at (length out - at) out y) (at + (place_at new.tables 2).length) (replicate ((4 - (place_at new.tables 2).length % 4) % 4) 0)) where
      glyf-padded : o ≡ put (write_at new 2 g out) to l
      glyf-padded =
          let zeros : Bytes = replicate ((4 - length g % 4) % 4) 0 in
          let h = length-put out at g sg.inside in
          f ∙ ap (λ (n : ℕ). put (put_mid at (length out - at) out y) (at + n) (replicate ((4 - n % 4) % 4) 0)) (sym sg.size)
          ∙ ap (λ (z : Bytes). put z (at + length g) zeros) both-back
          ∙ sym (put-swap (put out at g) (at + length g) zeros to l (omega (arith, behind-glyf, length-append g zeros)) (omega (arith, sl.inside)))
          ∙ ap (λ (z : Bytes). put z to l) (write_there new 2 g out (put out at g) (put (put out at g) (at + length g) zeros) sg.there (omega (arith, sg.inside)) refl refl)

      pub loca-pad-fits : to + raised (place_at new.tables 6).length ≤ length o
      loca-pad-fits =
          let h = length-put (write_at new 2 g out) to l (omega (arith, length-glyf, sl.inside)) in
          omega (arith, sl.padded, length-glyf, ap length glyf-padded)

      pub both-written : (x : Bytes) → x ≡ put o (to + (place_at new.tables 6).length) (replicate ((4 - (place_at new.tables 6).length % 4) % 4) 0)
          → x ≡ write_at new 6 l (write_at new 2 g out)
      both-written x q =
          write_there new 6 l (write_at new 2 g out) o x sl.there (omega (arith, length-glyf, sl.inside)) glyf-padded
          (q ∙ ap (λ (n : ℕ). put o (to + n) (replicate ((4 - n % 4) % 4) 0)) (sym sl.size))

module _ {font : Bytes} {s : Source} {scratch : List ℕ} {kept : ℕ} {p : Plan} {new : Layout} (w : WritesFrom font s scratch kept p new) where
  placed : Placed new
  placed = placed_at (font_of font s) (take kept scratch) p w.ran.found new w.layout

  marked : Marked (renewed (font_of font s) (take kept scratch)) new.tables
  marked = marked-at (font_of font s) (take kept scratch) p w.ran.found new w.layout

  sized : Sized new.tables (body_of (renewed (font_of font s) (take kept scratch)))
  sized = sized-at (font_of font s) (take kept scratch) p w.ran.found new w.layout

  long : 12 ≤ (place_at new.tables 3).length
  long = head-long (font_of font s) (take kept scratch) p w.ran.found new w.layout w.ran.opens.long.head

  -- glyf is no longer than the file
  offsets : length (body_from font s scratch kept 2) ≤ 4294967295
  unfolding body_from marks
  offsets =
      let m = place-room new placed 2 (lit< tt) (marked 2 (lit< tt)) in
      let e = sized 2 (lit< tt) (marked 2 (lit< tt)) in
      let z = w.small in
      omega arith

  module _ (out : Bytes) (room : new.end ≤ length out) where
    pub spot : (k : ℕ) → k < 11 → present_at new.tables k ≡ true → Spot new k (body_from font s scratch kept k) out
    unfolding body_from
    spot k h there =
        let e = sized k h there in
        let m = pad_room new placed k h there in
        let r = raised-room (place_at new.tables k).length in
        record { there = there; size = e; padded = omega arith; inside = omega arith }

    pub fits : (k : ℕ) → k < 11 → present_at new.tables k ≡ true → FitsFrom font s scratch kept p k (lent_part new k out)
    fits k h there =
        record {
          ran = w.ran;
          there = sym (mark-is (renewed (font_of font s) (take kept scratch)) k) ∙ sym (marked k h) ∙ there;
          room = lent-room (spot k h there);
        }

    -- glyf and loca are always there
    pub glyf-spot : Spot new 2 (body_from font s scratch kept 2) out
    unfolding marks
    glyf-spot = spot 2 (lit< tt) (marked 2 (lit< tt))

    pub loca-spot : Spot new 6 (body_from font s scratch kept 6) out
    unfolding marks
    loca-spot = spot 6 (lit< tt) (marked 6 (lit< tt))

    pub glyf-loca : (place_at new.tables 2).offset + raised (place_at new.tables 2).length ≤ (place_at new.tables 6).offset
    glyf-loca = ends-before new placed (body_of (renewed (font_of font s) (take kept scratch))) sized 2 6 (lit< tt) (lit< tt) glyf-spot.there loca-spot.there

    pub outlines-fit : OutlinesFitFrom font s scratch kept p (lent_part new 2 out) ((place_at new.tables 6).offset - (place_at new.tables 2).offset)
    outlines-fit =
        let lent : length (lent_part new 2 out) ≡ length out - (place_at new.tables 2).offset = simp (length-take, length-drop) (omega arith) in
        let r = raised-room (place_at new.tables 2).length in
        record {
          ran = w.ran;
          offsets = offsets;
          behind = omega (arith, glyf-loca, glyf-spot.size);
          room = omega (arith, glyf-loca, loca-spot.inside);
        }

    -- then the others
    pub others-written : (o₁ o₂ : Bytes) → o₁ ≡ write_at new 6 (body_from font s scratch kept 6) (write_at new 2 (body_from font s scratch kept 2) out)
        → o₂ ≡ others_to new (body_from font s scratch kept) o₁ 11 → o₂ ≡ write_to new (body_from font s scratch kept) out 11
    others-written o₁ o₂ e f =
        f ∙ ap (λ (z : Bytes). others_to new (body_from font s scratch kept) z 11) e
        ∙ in_tag_order new placed (body_from font s scratch kept) (unfold body_from in sized) out room

    module _ (o : Bytes) (e : o ≡ write_to new (body_from font s scratch kept) out 11) where
      all-written : Written new (body_of (renewed (font_of font s) (take kept scratch))) out o 11
      unfolding body_from
      all-written = e ∙ written_to new placed (body_of (renewed (font_of font s) (take kept scratch))) sized out room 11 (omega arith)

      pub all-ready : Ready o new
      unfolding marks
      all-ready =
          written-ready new placed (body_of (renewed (font_of font s) (take kept scratch))) sized out room o all-written w.small (marked 3 (lit< tt)) long

      pub all_finished : over (file (laid o new.tables)) o ≡ over (file (entries (renewed (font_of font s) (take kept scratch)))) out
      all_finished = finish-cut (renewed (font_of font s) (take kept scratch)) new placed marked sized long out o room all-written
