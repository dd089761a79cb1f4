use Rattle.std.proofs.Common.{◌≡◌, ℕ, ◌+◌, ◌%◌, ◌^◌, ◌<◌, ◌≤◌, length, ap, arith}
use Rattle.construct.proofs.Rows.{Rowed, rowed_length, rowed_start, rowed_none, rowed-there, rowed_end, row_room}
use Rattle.construct.proofs.Readiness.{place-room}
use Rattle.std.proofs.Common.{sym, subst, get_or}
use Rattle.std.specs.Prelude.{Option, Some, None, is_some}
use Rattle.std.specs.Option.{unwrap_or}
use Rattle.model.specs.Bytes.{Bytes, part, put}
use Rattle.model.specs.File.{checksum, row}
use Rattle.places.specs.declared.Place.{Place}
use Rattle.places.specs.Places.{tag_words, missing}
use Rattle.construct.specs.declared.Layout.{Layout}
use Rattle.construct.specs.Construct.{Leaves, Ready}
use Rattle.construct.proofs.write_rows.Goals as goal
use Rattle.construct.proofs.write_rows.Goals.{in-Some, in_default}

pub loop-k-init : goal.loop-k-init
loop-k-init c = rowed_start c.args.new.tables c.args.out.now

-- what a row and its table need, of a place that is there
room_for : (new : Layout) (out₀ out : Bytes) (ready : Ready out₀ new) (sum at k : ℕ) (h : k < 11) (p : Place) → get_or new.tables.places k None ≡ Some p
    → Rowed new.tables out₀ out sum at k → (at + 16 ≤ p.offset) × (p.offset + p.length ≤ length out) × (p.offset + p.length ≤ 4294967295)
room_for new out₀ out ready sum at k h p is rowed =
    let t = ap is_some is in
    let o = ap (λ (q : Option Place). (unwrap_or q missing).offset) is in
    let s = ap (λ (q : Option Place). (unwrap_or q missing).length) is in
    let m = place-room new ready.placed k h t in
    let n = rowed_length new out₀ ready out sum at k rowed in
    let room = ready.room in
    let small = ready.small in
    let f = row_room new out₀ ready out sum at k h t rowed in
    (omega arith, omega arith, omega arith)

pub write_row-sum-requires : goal.write_row-sum-requires
write_row-sum-requires c =
    let l = c.loop-k in
    let h : l.k < 11 = omega arith in
    let f = room_for c.args.new c.args.out.now l.out c.requires l.sum l.at l.k h _ c.in-Some.is l.invariant in
    (h, f.0, f.1, f.2)

pub overflow_add-at : goal.overflow_add-at
overflow_add-at c =
    let l = c.loop-k in
    let r = room_for c.args.new c.args.out.now l.out c.requires l.sum l.at l.k (omega arith) _ c.in-Some.is l.invariant in
    omega arith

pub loop-k-preserved : goal.loop-k-preserved
loop-k-preserved c =
    let a = c.args in
    let l = c.loop-k in
    let h : l.k < 11 = omega arith in
    (elim c.match-place.branch [
      | in-Some w ↦
          (let e = ap (λ (q : Option Place). unwrap_or q missing) w.in-Some.is in
          let left = subst (λ (q : Place). Leaves (checksum (part l.out q.offset q.length)) (put l.out l.at (row q.offset (get_or tag_words l.k 0, part l.out q.offset q.length))) w.write_row-sum.result w.write_row-sum.new.out) (sym e) w.write_row-sum.ensures in
          rw (w.out-is, w.sum-is, w.at-is)
          (rowed-there a.new a.out.now c.requires l.out l.sum l.at l.k h (ap is_some w.in-Some.is) l.invariant _ _ left.holds (ap (λ (n : ℕ). (l.sum + n) % 2 ^ 32) left.gives)))
      | in_default w ↦ rw (w.out-is, w.sum-is, w.at-is) (rowed_none a.new.tables a.out.now l.out l.sum l.at l.k h (ap is_some w.in_default.is) l.invariant)
    ])

pub returns : goal.returns
returns c =
    let a = c.args in
    let l = c.loop-k in
    rowed_end a.new a.out.now c.requires l.out l.sum l.at l.k (omega arith) l.invariant
