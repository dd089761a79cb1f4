-- A composite is copied as far as it is kept; then, record by record, the bytes done have new ids and the bytes left are as they were.
use Rattle.std.proofs.Common.{◌≡◌, refl, sym, ap, ap₂, ◌∙◌, Bool, true, false, [], ◌++◌, map, append_assoc, append-nil, None, Some, ℕ, ◌+◌, ◌-◌, ◌≤◌, arith, add-sub_of_le, length, take, drop, length-append, length-take-le, take-add}
use native.Mathlib.Nat.{sub_self}
use Rattle.model.specs.Res.{Res, refuse, ok, pick, map_res, is_ok, value_of}
use Rattle.model.specs.Bytes.{Bytes, be16, part, put, concat}
use Rattle.model.specs.Outline.{Outline, composite, outline, Records, before, id_of, renumber_record, renumber, written}
use Rattle.model.proofs.Res.{true_false}
use Rattle.model.proofs.Bytes.{length-put}
use Rattle.model.proofs.Parts.{tail}
use Rattle.model.proofs.Outline.{length-renumber_record}
use Rattle.outline.specs.Places.{component_at, rest, end_from, shape_of, kept_length}
use Rattle.outline.specs.declared.Component.{Component}
use Rattle.outline.specs.declared.Component.TheVariants as component
use Rattle.outline.specs.declared.Shape.TheVariants.{Empty, Simple, Composite}
use Rattle.outline.proofs.Records.{map-map, length_part, Taken, taken_more, taken-last, taken-id, taken-length, rest_more, rest-last, end_more, end_last, end_bad}
use Rattle.outline.proofs.Glyphs.{outline-by, outline_by, kept_by_lem, kept_by, composite_ten, end_within}
use Rattle.glyf.specs.Pieces.{bytes_of, Placed}
use Rattle.glyf.proofs.Puts.{put_record, part-split}

pub is_ok-map : {A B : Type 0} (f : A → B) (m : Res A) → is_ok (map_res f m) ≡ is_ok m
is_ok-map f (refuse k) = refl
is_ok-map f (ok a) = refl

-- the records' bytes with new ids, and what is kept behind them
abbrev pub tail_bytes : (ℕ → ℕ) → Records → Bytes
tail_bytes new rs = concat (map (renumber_record new) rs.0) ++ rs.1

-- all bytes, where those before a place are `done`
unfoldable pub rest_bytes : ℕ → (ℕ → ℕ) → Bytes → ℕ → Bytes → Res Bytes
rest_bytes n new b p done = map_res (λ (rs : Records). done ++ tail_bytes new rs) (rest n b p)

composite-bytes : (n : ℕ) (new : ℕ → ℕ) (b : Bytes) → shape_of b ≡ Some Composite → bytes_of n new b ≡ value_of [] (rest_bytes n new b 10 (take 10 b))
unfolding bytes_of rest_bytes outline_by
composite-bytes n new b e =
    ap (λ m. value_of [] (map_res (λ (o : Outline). written (renumber new o)) m)) (outline-by n b ∙ ap (outline_by n b) e)
    ∙ ap (value_of []) (map-map (λ (r : Records). composite (take 10 b) r.0 r.1) (λ (o : Outline). written (renumber new o)) (rest n b 10))

pub composite_end : (n : ℕ) (b : Bytes) → shape_of b ≡ Some Composite → kept_length n b ≡ value_of 0 (end_from n b 10)
unfolding kept_by
composite_end n b e = kept_by_lem n b ∙ ap (kept_by n b) e

pub composite-whole : (n : ℕ) (b : Bytes) → shape_of b ≡ Some Composite → is_ok (outline n b) ≡ true → is_ok (rest n b 10) ≡ true
unfolding outline_by
composite-whole n b e h =
    sym (is_ok-map (λ (r : Records). composite (take 10 b) r.0 r.1) (rest n b 10)) ∙ sym (ap is_ok (outline-by n b ∙ ap (outline_by n b) e)) ∙ h

-- the other shapes
pub simple_bytes : (n : ℕ) (new : ℕ → ℕ) (b : Bytes) → shape_of b ≡ Some Simple → bytes_of n new b ≡ b
unfolding bytes_of outline_by
simple_bytes n new b e = ap (λ m. value_of [] (map_res (λ (o : Outline). written (renumber new o)) m)) (outline-by n b ∙ ap (outline_by n b) e)

pub simple_length : (n : ℕ) (b : Bytes) → shape_of b ≡ Some Simple → kept_length n b ≡ length b
unfolding kept_by
simple_length n b e = kept_by_lem n b ∙ ap (kept_by n b) e

pub empty_bytes : (n : ℕ) (new : ℕ → ℕ) (b : Bytes) → shape_of b ≡ Some Empty → bytes_of n new b ≡ []
unfolding bytes_of outline_by
empty_bytes n new b e = ap (λ m. value_of [] (map_res (λ (o : Outline). written (renumber new o)) m)) (outline-by n b ∙ ap (outline_by n b) e)

pub never_bad : {C : Type 0} (n : ℕ) (b : Bytes) → shape_of b ≡ None → is_ok (outline n b) ≡ true → C
unfolding outline_by
never_bad n b e h = true_false (sym h ∙ ap is_ok (outline-by n b ∙ ap (outline_by n b) e))

-- a record with a new id is the record with that id put over
renumber-put : (new : ℕ → ℕ) (r : Bytes) (id : ℕ) → id_of r ≡ id → put r 2 (be16 (new id)) ≡ renumber_record new r
unfolding put
renumber-put new r id e = ap (λ (x : ℕ). take 2 r ++ be16 (new x) ++ drop 4 r) (sym e) ∙ append_assoc (take 2 r) (be16 (new (id_of r))) (drop 4 r)

-- the bytes to be written are a composite that was read, and have room
pub record Copied (n : ℕ) (b : Bytes) (kept at : ℕ) (d : Bytes) : Type 0 where
  pub is-composite : shape_of b ≡ Some Composite
  pub readable : is_ok (outline n b) ≡ true
  pub is-kept : kept ≡ kept_length n b
  pub room : at + kept ≤ length d

-- where the loop stands: at the record at p
pub record Going (n : ℕ) (new : ℕ → ℕ) (b : Bytes) (kept at : ℕ) (d out : Bytes) (p : ℕ) : Type 0 where
  pub copied : Copied n b kept at d
  pub done : Bytes
  pub placed : length done ≡ p
  pub bytes : out ≡ put d at (done ++ part b p (kept - p))
  pub left : rest_bytes n new b 10 (take 10 b) ≡ rest_bytes n new b p done
  pub ends : end_from n b 10 ≡ end_from n b p
  pub same : length out ≡ length d

module _ {n : ℕ} {b : Bytes} {kept at : ℕ} {d : Bytes} (f : Copied n b kept at d) where
  whole : is_ok (end_from n b 10) ≡ true
  whole = unfold end_from in is_ok-map (λ (r : Records). 10 + length (concat r.0 ++ r.1)) (rest n b 10) ∙ composite-whole n b f.is-composite f.readable

  is_end : kept ≡ value_of 0 (end_from n b 10)
  is_end = f.is-kept ∙ composite_end n b f.is-composite

  -- no place is past what is kept, and that is there
  reach : (p : ℕ) → end_from n b 10 ≡ end_from n b p → p ≤ kept
  reach p e = rw (is_end, e) (unfold end_from in go (rest n b p) (unfold end_from in sym (ap is_ok e) ∙ whole))
    where
      go : (m : Res Records) → is_ok (map_res (λ (r : Records). p + length (concat r.0 ++ r.1)) m) ≡ true
          → p ≤ value_of 0 (map_res (λ (r : Records). p + length (concat r.0 ++ r.1)) m)
      go (refuse k) h = true_false (sym h)
      go (ok r) h = omega arith

  inside : kept ≤ length b
  inside = rw is_end (end_within n b (composite_ten b f.is-composite))

  pub going_start : (new : ℕ → ℕ) (out : Bytes) → out ≡ put d at (take kept b) → Going n new b kept at d out 10
  going_start new out e =
      record {
        copied = f;
        done = take 10 b;
        placed = length-take-le 10 b (composite_ten b f.is-composite);
        bytes = e ∙ ap (put d at) (ap (λ (m : ℕ). take m b) (sym (add-sub_of_le (reach 10 refl))) ∙ take-add 10 (kept - 10) b);
        left = refl;
        ends = refl;
        same = ap length e ∙ length-put d at (take kept b) (omega (arith, f.room, length-take-le kept b inside));
      }

module _ {n : ℕ} {new : ℕ → ℕ} {b : Bytes} {kept at : ℕ} {d out : Bytes} {p : ℕ} (g : Going n new b kept at d out p) where
  -- the record at p gets its new id, whatever stands behind it
  module _ {id next : ℕ} (t : Taken n b p id next) (up : next ≤ kept) where
    abbrev here : Bytes
    here = part b p (next - p)

    length-here : length (renumber_record new here) ≡ next - p
    length-here = length-renumber_record new here (omega (arith, t.ahead, taken-length n b p t)) ∙ taken-length n b p t

    length-behind : length (part b next (kept - next)) ≡ kept - next
    length-behind = length_part b next (kept - next) (omega (arith, up, inside g.copied))

    put-here : put out (at + p + 2) (be16 (new id)) ≡ put d at ((g.done ++ renumber_record new here) ++ part b next (kept - next))
    put-here =
        ap (λ (z : Bytes). put z (at + p + 2) (be16 (new id)))
        (g.bytes ∙ ap (λ (z : Bytes). put d at (g.done ++ z)) (part-split b p next kept (omega (arith, t.ahead)) up))
        ∙ put_record d g.done here (part b next (kept - next)) (be16 (new id)) at p 2 g.placed
        (simp (length-append, g.placed, taken-length n b p t, length-behind) (omega (arith, t.ahead, g.copied.room, up)))
        (omega (arith, t.ahead, taken-length n b p t))
        ∙ ap (λ (z : Bytes). put d at ((g.done ++ z) ++ part b next (kept - next))) (renumber-put new here id (taken-id n b p t))

    length-done : length (g.done ++ renumber_record new here) ≡ next
    length-done =
        length-append g.done (renumber_record new here) ∙ ap₂ (λ (x y : ℕ). x + y) g.placed length-here
        ∙ add-sub_of_le (omega (arith, t.ahead))

    same_here : (after : Bytes) → after ≡ put out (at + p + 2) (be16 (new id)) → length after ≡ length d
    same_here after e = ap length e ∙ length-put out (at + p + 2) (be16 (new id)) (omega (arith, g.same, t.ahead, up, g.copied.room)) ∙ g.same

  module _ {id next : ℕ} (e : component_at n b p ≡ Some (component.More id next)) where
    more-end : end_from n b 10 ≡ end_from n b next
    more-end = g.ends ∙ end_more n b p e

    more-up : next ≤ kept
    more-up = reach g.copied next more-end

    more_within : p + 6 ≤ kept
    more_within = omega (arith, (taken_more n b p e).ahead, more-up)

    rest-here : (done : Bytes) → rest_bytes n new b p done ≡ rest_bytes n new b next (done ++ renumber_record new (part b p (next - p)))
    rest-here done =
        unfold rest_bytes in ap (map_res (λ (rs : Records). done ++ tail_bytes new rs)) (rest_more n b p e) ∙ go (rest n b next)
      where
        r : Bytes
        r = renumber_record new (part b p (next - p))

        go : (m : Res Records)
            → map_res (λ (rs : Records). done ++ tail_bytes new rs) (map_res (before (part b p (next - p))) m) ≡ map_res (λ (rs : Records). (done ++ r) ++ tail_bytes new rs) m
        go (refuse k) = refl
        go (ok rs) =
            let same : done ++ ((r ++ concat (map (renumber_record new) rs.0)) ++ rs.1) ≡ (done ++ r) ++ tail_bytes new rs =
            ap (λ (z : Bytes). done ++ z) (append_assoc r (concat (map (renumber_record new) rs.0)) rs.1) ∙ sym (append_assoc done r (tail_bytes new rs)) in
            ap ok same

    pub going_more : (after : Bytes) → after ≡ put out (at + p + 2) (be16 (new id)) → Going n new b kept at d after next
    going_more after q =
        record {
          copied = g.copied;
          done = g.done ++ renumber_record new (part b p (next - p));
          placed = length-done (taken_more n b p e) more-up;
          bytes = q ∙ put-here (taken_more n b p e) more-up;
          left = g.left ∙ rest-here g.done;
          ends = more-end;
          same = same_here (taken_more n b p e) more-up after q;
        }

  module _ {id next : ℕ} {keep : Bool} (e : component_at n b p ≡ Some (component.Last id next keep)) where
    last_end : kept ≡ pick keep (length b) next
    last_end = is_end g.copied ∙ ap (value_of 0) (g.ends ∙ end_last n b p e)

    last_up : next ≤ kept
    last_up = go keep last_end
      where
        go : (keep : Bool) → kept ≡ pick keep (length b) next → next ≤ kept
        go true h = omega (arith, h, (taken-last n b p e).within)
        go false h = omega (arith, h)

    last_within : p + 6 ≤ kept
    last_within = omega (arith, (taken-last n b p e).ahead, last_up)

    last-bytes : (done : Bytes) → rest_bytes n new b p done ≡ ok (done ++ ((renumber_record new (part b p (next - p)) ++ []) ++ pick keep (drop next b) []))
    last-bytes done = unfold rest_bytes in ap (map_res (λ (rs : Records). done ++ tail_bytes new rs)) (rest-last n b p e)

    last-tail : pick keep (drop next b) [] ≡ part b next (kept - next)
    last-tail = go keep last_end
      where
        go : (keep : Bool) → kept ≡ pick keep (length b) next → pick keep (drop next b) [] ≡ part b next (kept - next)
        go true h = sym (ap (λ (m : ℕ). take (m - next) (drop next b)) h ∙ tail next b)
        go false h = sym (ap (λ (m : ℕ). take (m - next) (drop next b)) h ∙ ap (λ (m : ℕ). take m (drop next b)) (sub_self next))

    all-bytes : bytes_of n new b ≡ (g.done ++ renumber_record new (part b p (next - p))) ++ part b next (kept - next)
    all-bytes =
        composite-bytes n new b g.copied.is-composite
        ∙ ap (value_of []) (g.left ∙ last-bytes g.done)
        ∙ ap₂ (λ (x y : Bytes). g.done ++ (x ++ y)) (append-nil (renumber_record new (part b p (next - p)))) last-tail
        ∙ sym (append_assoc g.done (renumber_record new (part b p (next - p))) (part b next (kept - next)))

    all-length : length (bytes_of n new b) ≡ kept
    all-length =
        ap length all-bytes
        ∙ length-append (g.done ++ renumber_record new (part b p (next - p))) (part b next (kept - next))
        ∙ ap₂ (λ (x y : ℕ). x + y) (length-done (taken-last n b p e) last_up) (length-behind (taken-last n b p e) last_up)
        ∙ add-sub_of_le last_up

    pub going_last : (after : Bytes) → after ≡ put out (at + p + 2) (be16 (new id)) → Placed d after at (at + kept) (bytes_of n new b)
    going_last after q =
        record {
          is-put = q ∙ put-here (taken-last n b p e) last_up ∙ ap (put d at) (sym all-bytes);
          behind = ap (λ (x : ℕ). at + x) (sym all-length);
        }

  -- a record at p, whichever it is, is among the kept bytes
  pub found_within : (c : Component) → component_at n b p ≡ Some c → p + 6 ≤ kept
  found_within (component.More id next) e = more_within e
  found_within (component.Last id next keep) e = last_within e

  pub going_bad : {C : Type 0} → component_at n b p ≡ None → C
  going_bad e = true_false (sym (whole g.copied) ∙ ap is_ok (g.ends ∙ end_bad n b p e))
