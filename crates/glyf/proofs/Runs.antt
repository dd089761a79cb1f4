-- A run that is still to be copied: bytes put behind it make it longer, or it is copied first.
use Rattle.std.proofs.Common.{◌≡◌, refl, sym, ap, ap₂, ◌∙◌, subst, Bool, false, [], ◌++◌, append-nil, ℕ, ◌+◌, ◌-◌, ◌%◌, ◌≤◌, arith, length, take, drop, replicate, length-append, take-add, drop-drop}
use lib.ListN.{length-replicate}
use Rattle.model.specs.Bytes.{Bytes, part, put}
use Rattle.model.specs.Glyf.{Width, short, long, width, padded}
use Rattle.model.proofs.Bytes.{length-put, put-put}
use Rattle.model.proofs.Puts.{put-swap}
use Rattle.outline.specs.Places.{span_bytes, Within}
use Rattle.outline.specs.declared.Span.{Span}
use Rattle.outline.proofs.Records.{length_part}
use Rattle.glyf.specs.declared.Run.{Run}
use Rattle.glyf.specs.Pieces.{raised_to, Placed, zeros_behind, with_run, RunRoom, Moved}
use Rattle.glyf.proofs.Puts.{put-nothing, placed-nothing}

pub no_run : (glyf out : Bytes) (from end : ℕ) → with_run glyf (record { from = from; size = 0; end = end }) out ≡ out
unfolding with_run
no_run glyf out from end = put-nothing out (end - 0)

-- nothing is put
pub moved_nothing : {glyf : Bytes} {run : Run} {out bytes : Bytes} → RunRoom glyf run out → bytes ≡ [] → Moved glyf run out run out bytes
moved_nothing {glyf} {run} {out} {bytes} r e = record { placed = placed-nothing (with_run glyf run out) bytes run.end e; left = r }

-- one thing and then another
pub moved_both : {glyf : Bytes} {run next last : Run} {d e f x y : Bytes} → run.end ≤ length (with_run glyf run d) → Moved glyf run d next e x → Moved glyf next e last f y
    → Moved glyf run d last f (x ++ y)
moved_both {glyf} {run} {next} {last} {d} {e} {f} {x} {y} h m n =
    record {
      placed =
          record {
            is-put =
                n.placed.is-put ∙ ap₂ (λ (z : Bytes) (k : ℕ). put z k y) m.placed.is-put m.placed.behind
                ∙ put-put (with_run glyf run d) x y run.end h;
            behind = omega (arith, m.placed.behind, n.placed.behind, length-append x y);
          };
      left = n.left;
    }

module _ {glyf : Bytes} {run : Run} {out : Bytes} (r : RunRoom glyf run out) where
  abbrev waiting : Bytes
  waiting = part glyf run.from run.size

  abbrev at : ℕ
  at = run.end - run.size

  length_waiting : length waiting ≡ run.size
  length_waiting = length_part glyf run.from run.size (omega (arith, r.there))

  ends : at + length waiting ≡ run.end
  ends = omega (arith, length_waiting, r.within)

  pub length_run : length (with_run glyf run out) ≡ length out
  unfolding with_run
  length_run = length-put out at waiting (omega (arith, ends, r.room))

  -- bytes put elsewhere, behind the run
  pub run_aside : (to : ℕ) (bytes : Bytes) → run.end ≤ to → to + length bytes ≤ length out → with_run glyf run (put out to bytes) ≡ put (with_run glyf run out) to bytes
  unfolding with_run
  run_aside to bytes h l = sym (put-swap out at waiting to bytes (omega (arith, ends)) l)

  -- the bytes of a span, behind the run
  module _ (s : Span) (h : Within glyf s) (room : run.end + (s.end - s.start) ≤ length out) where
    abbrev size : ℕ
    size = s.end - s.start

    length_span : length (span_bytes glyf s) ≡ size
    length_span = length_part glyf s.start size (omega (arith, h.up, h.inside))

    pub moved_longer : s.start ≡ run.from + run.size → Moved glyf run out (record { from = run.from; size = run.size + size; end = run.end + size }) out (span_bytes glyf s)
    moved_longer e =
        record {
          placed = record { is-put = longer; behind = ap (λ (m : ℕ). run.end + m) (sym length_span) };
          left = record { there = omega (arith, h.up, h.inside, e); within = omega (arith, r.within); room = room };
        }
      where
        split : part glyf run.from (run.size + size) ≡ waiting ++ span_bytes glyf s
        split = take-add run.size size (drop run.from glyf) ∙ ap (λ (l : Bytes). waiting ++ take size l) (drop-drop run.size run.from glyf ∙ ap (λ (m : ℕ). drop m glyf) (sym e))

        longer : with_run glyf (record { from = run.from; size = run.size + size; end = run.end + size }) out ≡ put (with_run glyf run out) run.end (span_bytes glyf s)
        longer =
            unfold with_run in ap₂ (λ (m : ℕ) (l : Bytes). put out m l) (omega (arith, r.within)) split
            ∙ sym (put-put out waiting (span_bytes glyf s) at (omega (arith, r.room)))
            ∙ ap (λ (m : ℕ). put (put out at waiting) m (span_bytes glyf s)) ends

    pub moved_new : (e : Bytes) → e ≡ with_run glyf run out → Moved glyf run out (record { from = s.start; size = size; end = run.end + size }) e (span_bytes glyf s)
    moved_new e q =
        record {
          placed = record { is-put = begun; behind = ap (λ (m : ℕ). run.end + m) (sym length_span) };
          left = record { there = omega (arith, h.up, h.inside); within = omega arith; room = omega (arith, room, ap length q ∙ length_run) };
        }
      where
        begun : with_run glyf (record { from = s.start; size = size; end = run.end + size }) e ≡ put (with_run glyf run out) run.end (span_bytes glyf s)
        begun = unfold with_run in ap₂ (λ (z : Bytes) (m : ℕ). put z m (span_bytes glyf s)) (unfold with_run in q) (omega arith)

  -- other bytes, put behind what was copied
  pub moved_placed : (e f bytes : Bytes) (from next : ℕ) → e ≡ with_run glyf run out → Placed e f run.end next bytes → from ≤ length glyf → next ≤ length f
      → Moved glyf run out (record { from = from; size = 0; end = next }) f bytes
  moved_placed e f bytes from next q p h l =
      record {
        placed = record { is-put = no_run glyf f from next ∙ p.is-put ∙ ap (λ (z : Bytes). put z run.end bytes) q; behind = p.behind };
        left = record { there = omega (arith, h); within = omega arith; room = l };
      }

-- padding
pub padded-behind : (w : Width) (b : Bytes) → padded w b ≡ b ++ zeros_behind w (length b)
padded-behind short b = refl
padded-behind long b = sym (append-nil b)

pub raised-behind : (w : Width) (x : ℕ) → raised_to w x ≡ x + length (zeros_behind w x)
raised-behind short x = ap (λ (m : ℕ). x + m) (sym (length-replicate {A = ℕ} (x % 2) 0))
raised-behind long x = omega arith

pub odd_zero : (wide : Bool) (size : ℕ) → wide ≡ false → (size % 2 ≡ 0 → ⊥) → zeros_behind (width wide) size ≡ replicate 1 0
odd_zero wide size e h = ap (λ (b : Bool). zeros_behind (width b) size) e ∙ ap (λ (m : ℕ). replicate m 0) (odd h)
  where
    odd : (size % 2 ≡ 0 → ⊥) → size % 2 ≡ 1
    odd h = omega arith

pub moved_zero : {glyf : Bytes} {run : Run} {out : Bytes} → RunRoom glyf run out → (wide : Bool) (size : ℕ) → wide ≡ false → (size % 2 ≡ 0 → ⊥)
    → run.end + length (zeros_behind (width wide) size) ≤ length out → (e f : Bytes) → e ≡ with_run glyf run out → f ≡ put e run.end (replicate 1 0)
    → Moved glyf run out (record { from = 0; size = 0; end = run.end + 1 }) f (zeros_behind (width wide) size)
moved_zero {glyf} {run} {out} r wide size w h room e f q p =
    subst (Moved glyf run out (record { from = 0; size = 0; end = run.end + 1 }) f) (sym z)
    (moved_placed r e f (replicate 1 0) 0 (run.end + 1) q (record { is-put = p; behind = refl }) (omega arith) (omega (arith, ap length z, l, m)))
  where
    z : zeros_behind (width wide) size ≡ replicate 1 0
    z = odd_zero wide size w h

    m : length e ≡ length out
    m = ap length q ∙ length_run r

    l : length f ≡ length e
    l = ap length p ∙ length-put e run.end (replicate 1 0) (omega (arith, room, ap length z, m))
