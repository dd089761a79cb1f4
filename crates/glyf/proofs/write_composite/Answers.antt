use Rattle.std.proofs.Common.{sym, arith, length-take-le}
use Rattle.outline.proofs.Records.{taken_more, taken_low}
use Rattle.outline.proofs.Glyphs.{kept-within}
use Rattle.glyf.specs.Pieces.{new_from}
use Rattle.glyf.proofs.Composite.{going_start, going_more, going_last, going_bad, found_within}
use Rattle.glyf.proofs.write_composite.Goals as goal

pub slice_bounds-copy-end : goal.slice_bounds-copy-end
slice_bounds-copy-end c = sym (length-take-le _ c.args.b.now (rw c.kept_length-kept.ensures (kept-within c.args.n c.args.b.now)))

pub loop-component-init : goal.loop-component-init
loop-component-init c =
    let q = c.requires in
    let e = c.kept_length-kept.ensures in
    going_start (record { is-composite = q.composite; readable = q.room.read; is-kept = e; room = rw e q.room.room }) (new_from c.args.n c.args.scratch.now) _ c.copy.ensures

pub overflow_add-at : goal.overflow_add-at
overflow_add-at c =
    let l = c.loop-component in
    omega (arith, found_within l.invariant _ (sym c.in-Some.ensures), l.invariant.copied.room)

pub overflow_add-at-in-Some : goal.overflow_add-at-in-Some
overflow_add-at-in-Some c =
    let l = c.loop-component in
    omega (arith, found_within l.invariant _ (sym c.in-Some.ensures), l.invariant.copied.room)

pub put_id-requires-clause-numbered : goal.put_id-requires-clause-numbered
put_id-requires-clause-numbered c = omega (arith, c.id.ensures, taken_low _ _ _ _ (sym c.in-Some.ensures), c.requires.room.numbers)

pub put_id-requires-clause-room : goal.put_id-requires-clause-room
put_id-requires-clause-room c =
    let l = c.loop-component in
    omega (arith, found_within l.invariant _ (sym c.in-Some.ensures), l.invariant.copied.room, l.invariant.same)

pub loop-component-smaller : goal.loop-component-smaller
loop-component-smaller c =
    let t = taken_more _ _ _ (sym (rw c.in-More.is at c.in-Some.ensures)) in
    omega (arith, t.ahead, t.within)

pub loop-component-preserved : goal.loop-component-preserved
loop-component-preserved c =
    going_more c.loop-component.invariant (sym (rw c.in-More.is at c.in-Some.ensures)) _ (rw (c.id.ensures, c.in-More.is) at c.put_id.ensures)

pub returns-in-Last : goal.returns-in-Last
returns-in-Last c =
    going_last c.loop-component.invariant (sym (rw c.in-Last.is at c.in-Some.ensures)) _ (rw (c.id.ensures, c.in-Last.is) at c.put_id.ensures)

pub returns : goal.returns
returns c = going_bad c.loop-component.invariant (sym c.in_default.ensures)
