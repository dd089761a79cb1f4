-- Writing glyph by glyph: each has room and is read, and what is put behind the first i outlines makes i + 1.
use Rattle.std.proofs.Common.{◌≡◌, refl, sym, ap, ap₂, ◌∙◌, subst, true, List, [], ◌++◌, None, Some, ℕ, ◌+◌, ◌*◌, ◌-◌, ◌/◌, ◌≤◌, ◌<◌, arith, length, take, drop, get_or, length-take, length-drop, length-take-le}
use lib.Seq.{take-length}
use borrow.Rule.Slice.PartMut.{put_mid}
use Rattle.model.specs.Res.{Res, refuse, ok, map_res, is_ok, value_of}
use Rattle.model.specs.Bytes.{Bytes, put, place}
use Rattle.model.specs.Glyf.{Width, short, long, entry_size, unit, be_entry, padded, new_glyf}
use Rattle.model.specs.Outline.{Outline, outline, renumber, written}
use Rattle.model.proofs.Res.{true_false}
use Rattle.model.proofs.Bytes.{length-put}
use Rattle.outline.specs.Places.{span_at, span_bytes, Within, shape_of, kept_length}
use Rattle.outline.specs.declared.Shape.TheVariants.{Simple}
use Rattle.outline.proofs.Records.{length_part}
use Rattle.outline.specs.declared.Span.{Span}
use Rattle.outline.proofs.Glyphs.{kept-renumbered}
use Rattle.glyf.specs.declared.Run.{Run}
use Rattle.glyf.specs.Pieces.{outline_at, piece, pieces, length_at, raised_to, new_from, bytes_of, Readable, most_offset, OutlineRoom, PieceRoom, both_tables, TablesRoom, zeros_behind, with_run, RunRoom, Moved}
use Rattle.glyf.proofs.Puts.{put-part}
use Rattle.glyf.proofs.Composite.{is_ok-map, simple_length}
use Rattle.glyf.proofs.Runs.{no_run, length_run, moved_both, run_aside, padded-behind, raised-behind}
use Rattle.glyf.proofs.Pieces.{outline-there, outline-nowhere, length-there, member-at, entries_at, piece-at, piece_agree, length-piece-at, length-pieces, within-pieces}
use Rattle.glyf.proofs.Tables.{both-start, glyf-more, glyf-grows, length-padded, entries_fit, entry_end, both-more}

raised-least : (w : Width) (x : ℕ) → x ≤ raised_to w x
raised-least short x = omega arith
raised-least long x = omega arith

pub length-bytes : (n : ℕ) (new : ℕ → ℕ) (b : Bytes) → length (bytes_of n new b) ≡ kept_length n b
unfolding bytes_of kept_length
length-bytes n new b = go (outline n b) ∙ ap (value_of 0) (kept-renumbered n b new)
  where
    go : (m : Res Outline) → length (value_of [] (map_res (λ (o : Outline). written (renumber new o)) m)) ≡ value_of 0 (map_res (λ (o : Outline). length (written (renumber new o))) m)
    go (refuse k) = refl
    go (ok o) = refl

-- a simple outline is kept whole
pub simple_room : {glyf out : Bytes} {s : Span} {n : ℕ} {scratch : List ℕ} {at : ℕ} → Within glyf s → OutlineRoom n (span_bytes glyf s) scratch out at
    → shape_of (span_bytes glyf s) ≡ Some Simple → at + (s.end - s.start) ≤ length out
simple_room {glyf} {s = s} {n = n} h r e =
    omega (arith, r.room, simple_length n (span_bytes glyf s) e, length_part glyf s.start (s.end - s.start) (omega (arith, h.up, h.inside)))

piece-there : (w : Width) (n : ℕ) (loca glyf : Bytes) (g : ℕ) (new : ℕ → ℕ) {s : Span} → span_at w loca glyf g ≡ Some s
    → value_of [] (piece w n loca glyf new g) ≡ bytes_of n new (span_bytes glyf s)
unfolding piece bytes_of
piece-there w n loca glyf g new e = ap (λ m. value_of [] (map_res (λ (o : Outline). written (renumber new o)) m)) (outline-there w n loca glyf g e)

-- one glyph, behind a run
module _ {w to : Width} {n : ℕ} {loca glyf : Bytes} {scratch : List ℕ} {g : ℕ} {run : Run} {out : Bytes} (q : RunRoom glyf run out) (r : PieceRoom w to n loca glyf scratch g out run.end) where
  abbrev new : ℕ → ℕ
  new = new_from n scratch

  pub never_nowhere : {C : Type 0} → span_at w loca glyf g ≡ None → C
  never_nowhere e = true_false (sym r.read ∙ ap is_ok (outline-nowhere w n loca glyf g e))

  -- whose bytes stand at a span
  module _ {s : Span} (e : span_at w loca glyf g ≡ Some s) where
    pub room_there : OutlineRoom n (span_bytes glyf s) scratch out run.end
    room_there =
        record {
          read = sym (ap is_ok (outline-there w n loca glyf g e)) ∙ r.read;
          numbers = r.numbers;
          room = omega (arith, r.room, raised-least to (length_at w n loca glyf g), length-there w n loca glyf g e);
        }

    -- and are written: the padding behind them
    module _ {next : Run} {after : Bytes} (m : Moved glyf run out next after (bytes_of n new (span_bytes glyf s))) where
      abbrev size : ℕ
      size = next.end - run.end

      is-size : size ≡ length (bytes_of n new (span_bytes glyf s))
      is-size = omega (arith, m.placed.behind)

      pub padding_room : length after ≡ length out → next.end + length (zeros_behind to size) ≤ length after
      padding_room same =
          let k : length_at w n loca glyf g ≡ size = length-there w n loca glyf g e ∙ sym (is-size ∙ length-bytes n new (span_bytes glyf s)) in
          omega (arith, same, r.room, m.placed.behind, is-size, ap (raised_to to) k ∙ raised-behind to size)

      pub moved_padded : {last : Run} {end : Bytes} → Moved glyf next after last end (zeros_behind to size)
          → Moved glyf run out last end (padded to (value_of [] (piece w n loca glyf new g)))
      moved_padded k = rw there (moved_both (omega (arith, length_run q, q.room)) m k)
        where
          there : padded to (value_of [] (piece w n loca glyf new g)) ≡ bytes_of n new (span_bytes glyf s) ++ zeros_behind to size
          there =
              ap (padded to) (piece-there w n loca glyf g new e)
              ∙ padded-behind to (bytes_of n new (span_bytes glyf s))
              ∙ ap (λ (m : ℕ). bytes_of n new (span_bytes glyf s) ++ zeros_behind to m) (sym is-size)

-- where the loop stands: once the run is copied and the entry of outline i is put, both tables of the first i outlines are written
pub record Begun (w to : Width) (n : ℕ) (loca glyf : Bytes) (roster : List ℕ) (distance : ℕ) (d : Bytes) (i : ℕ) (run : Run) (out : Bytes) : Type 0 where
  pub same : length out ≡ length d
  pub ends : run.end ≡ length (new_glyf to (take i (pieces w n loca glyf roster)))
  pub left : RunRoom glyf run out
  pub there :
      put (with_run glyf run out) (distance + entry_size to * i) (be_entry to (run.end / unit to))
      ≡ both_tables to (take i (pieces w n loca glyf roster)) distance d

module _ {w to : Width} {n : ℕ} {loca glyf : Bytes} {scratch : List ℕ} {kept : ℕ} {d : Bytes} {distance : ℕ} (r : TablesRoom w to n loca glyf scratch kept d distance) where
  abbrev roster : List ℕ
  roster = take kept scratch

  abbrev bs : List Bytes
  bs = pieces w n loca glyf roster

  readable : Readable w n loca glyf roster
  readable = r.numbered.readable

  roster-length : length roster ≡ kept
  roster-length = length-take-le kept scratch (omega (arith, r.numbered.roster, r.numbered.room))

  pieces-length : length bs ≡ kept
  pieces-length = length-pieces readable ∙ roster-length

  abbrev Here : ℕ → Run → Bytes → Type 0
  Here i run out = Begun w to n loca glyf roster distance d i run out

  pub begun_start : Here 0 (record { from = 0; size = 0; end = 0 }) d
  begun_start =
      record {
        same = refl;
        ends = refl;
        left = record { there = omega arith; within = omega arith; room = omega arith };
        there =
            ap (λ (z : Bytes). put z (distance + entry_size to * 0) (be_entry to (0 / unit to))) (no_run glyf d 0 0)
            ∙ both-start to bs distance d;
      }

  -- the loop has run out
  pub all_there : kept ≤ length roster
  all_there = omega (arith, roster-length)

  pub begun_all : {i : ℕ} {run : Run} {out : Bytes} → i ≤ length roster → length roster ≤ i → Here i run out → Here kept run out
  begun_all {run = run} {out = out} h k b = subst (λ (m : ℕ). Here m run out) (omega (arith, roster-length)) b

  module _ {i : ℕ} {run : Run} {out : Bytes} (b : Here i run out) (h : i ≤ length roster) where
    abbrev at : ℕ
    at = distance + entry_size to * i

    abbrev entry : Bytes
    entry = be_entry to (run.end / unit to)

    -- entry number i can be written to loca's part of the output, and then stands there
    abbrev lent : Bytes
    lent = take (length out - distance) (drop distance out)

    fits : entry_size to * (i + 1) ≤ length out - distance
    fits = entries_fit to i kept (length out - distance) (omega (arith, roster-length)) (omega (arith, r.room, b.same))

    pub entry-room : (entry_size to * (i + 1) ≤ length lent) × (run.end ≤ most_offset to)
    entry-room =
        let l : length lent ≡ length out - distance = simp (length-take, length-drop) (omega arith) in
        (rw l fits, omega (arith, b.ends, glyf-grows to bs i, r.offsets))

    module _ (y : Bytes) (e : y ≡ put lent (entry_size to * i) entry) where
      abbrev entered : Bytes
      entered = put_mid distance (length out - distance) out y

      entry-put : entered ≡ put out at entry
      entry-put =
          ap (put_mid distance (length out - distance) out) e
          ∙ put-part distance (entry_size to * i) out entry (omega (arith, entry_end to i (run.end / unit to), fits, r.room, b.same))

      entry-same : length entered ≡ length d
      entry-same = ap length entry-put ∙ length-put out at entry (omega (arith, entry_end to i (run.end / unit to), fits, r.room, b.same)) ∙ b.same

      -- with the run behind which it stands
      pub entry-left : RunRoom glyf run entered
      entry-left = record { there = b.left.there; within = b.left.within; room = omega (arith, b.left.room, entry-same, b.same) }

      entry-there : with_run glyf run entered ≡ both_tables to (take i bs) distance d
      entry-there =
          ap (with_run glyf run) entry-put
          ∙ run_aside b.left at entry (omega (arith, b.ends, glyf-grows to bs i, r.behind)) (omega (arith, entry_end to i (run.end / unit to), fits, r.room, b.same))
          ∙ b.there

      -- behind the last entry both tables are there
      pub begun_end : i ≡ kept → with_run glyf run entered ≡ both_tables to bs distance d
      begun_end e =
          entry-there
          ∙ ap (λ (m : ℕ). both_tables to (take m bs) distance d) (e ∙ sym pieces-length)
          ∙ ap (λ (l : List Bytes). both_tables to l distance d) (take-length bs)

      -- behind another the next glyph, which is the roster's number i, can be written
      module _ (g : ℕ) (below : i < length roster) (here : g ≡ get_or roster i 0) where
        kept_here : piece w n loca glyf (place roster) g ≡ ok (get_or bs i [])
        kept_here = rw here (piece-at readable i below)

        read_here : is_ok (outline_at w n loca glyf g) ≡ true
        read_here = unfold piece in sym (is_ok-map (λ (o : Outline). written (renumber (place roster) o)) (outline_at w n loca glyf g)) ∙ ap is_ok kept_here

        written-here : value_of [] (piece w n loca glyf (new_from n scratch) g) ≡ get_or bs i []
        written-here = ap (value_of []) (piece_agree r.numbered g (rw here (member-at roster i below)) ∙ kept_here)

        glyf-next : length (new_glyf to (take (i + 1) bs)) ≡ length (new_glyf to (take i bs)) + raised_to to (length (get_or bs i []))
        glyf-next = glyf-more to bs i (within-pieces readable i below)

        pub writing-room : PieceRoom w to n loca glyf scratch g entered run.end
        writing-room =
            record {
              entries = rw here (entries_at readable i below);
              read = read_here;
              numbers = r.numbered.room;
              room = omega (arith, r.room, r.behind, entry-same, b.ends, glyf-grows to bs (i + 1), glyf-next, ap (raised_to to) (sym (length-piece-at readable i below) ∙ ap (length_at w n loca glyf) (sym here)));
            }

        pub begun_more : (next : Run) (after : Bytes) → length after ≡ length entered
            → Moved glyf run entered next after (padded to (value_of [] (piece w n loca glyf (new_from n scratch) g))) → Here (i + 1) next after
        begun_more next after same m =
            record {
              same = same ∙ entry-same;
              ends = next_ends;
              left = m.left;
              there =
                  ap (λ (o : Bytes). put o (distance + entry_size to * (i + 1)) (be_entry to (next.end / unit to))) (m.placed.is-put ∙ ap (λ (l : Bytes). put (with_run glyf run entered) run.end (padded to l)) written-here)
                  ∙ both-more to bs distance d r.behind (subst (λ (m : ℕ). distance + entry_size to * (m + 1) ≤ length d) (sym pieces-length) r.room)
                  i run.end next.end (with_run glyf run entered) (within-pieces readable i below) b.ends next_ends entry-there;
            }
          where
            next_ends : next.end ≡ length (new_glyf to (take (i + 1) bs))
            next_ends =
                m.placed.behind ∙ ap₂ (λ (x : ℕ) (l : Bytes). x + length (padded to l)) b.ends written-here
                ∙ ap (λ (x : ℕ). length (new_glyf to (take i bs)) + x) (length-padded to (get_or bs i []))
                ∙ sym glyf-next
