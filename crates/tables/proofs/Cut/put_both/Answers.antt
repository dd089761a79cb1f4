-- The part that the writer leaves, and the zeros behind each of the two, are both padded tables at their places.
use native.Mathlib.Omega.{arith}
use Rattle.tables.proofs.Standing.{glyf-spot, loca-spot, glyf-loca, outlines-fit, glyf-pad-fits, loca-pad-fits, both-written}
use Rattle.tables.proofs.Cut.put_both.Goals as goal

pub slice_bounds-write_outlines-count : goal.slice_bounds-write_outlines-count
slice_bounds-write_outlines-count c =
    let q = c.requires.writes in rw c.requires.places.0 (omega (arith, (glyf-spot q.0 c.args.out.now q.1).inside))

pub slice_bounds-write_outlines-start : goal.slice_bounds-write_outlines-start
slice_bounds-write_outlines-start c =
    let q = c.requires.writes in rw c.requires.places.0 (omega (arith, (glyf-spot q.0 c.args.out.now q.1).inside))

pub overflow_sub-to : goal.overflow_sub-to
overflow_sub-to c =
    let q = c.requires.writes in rw (c.requires.places.0, c.requires.places.1) (omega (arith, glyf-loca q.0 c.args.out.now q.1))

pub write_outlines-requires : goal.write_outlines-requires
write_outlines-requires c = let q = c.requires.writes in rw (c.requires.places.0, c.requires.places.1) (outlines-fit q.0 c.args.out.now q.1)

pub pad-requires : goal.pad-requires
pad-requires c =
    let q = c.requires.writes in
    let out = c.args.out.now in
    rw (c.requires.places.0)
    (glyf-pad-fits (glyf-spot q.0 out q.1) (loca-spot q.0 out q.1) (glyf-loca q.0 out q.1) _ (rw (c.requires.places.0, c.requires.places.1) at c.write_outlines.ensures))

pub pad-requires-2 : goal.pad-requires-2
pad-requires-2 c =
    let q = c.requires.writes in
    let out = c.args.out.now in
    rw c.requires.places.1
    (loca-pad-fits (glyf-spot q.0 out q.1) (loca-spot q.0 out q.1) (glyf-loca q.0 out q.1) _ (rw (c.requires.places.0, c.requires.places.1) at c.write_outlines.ensures)
    _ (rw c.requires.places.0 at c.pad.ensures))

pub returns : goal.returns
returns c =
    let q = c.requires.writes in
    let out = c.args.out.now in
    both-written (glyf-spot q.0 out q.1) (loca-spot q.0 out q.1) (glyf-loca q.0 out q.1) _ (rw (c.requires.places.0, c.requires.places.1) at c.write_outlines.ensures)
    _ (rw c.requires.places.0 at c.pad.ensures) _ (rw c.requires.places.1 at c.pad-2.ensures)
