-- The part that the writer leaves, and the zeros behind it, are the padded table at its place.
use Rattle.std.proofs.Common.{arith}
use Rattle.tables.proofs.Standing.{spot, fits, pad_fits, part-written}
use Rattle.tables.proofs.Cut.put_at.Goals as goal

pub slice_bounds-write_table-count : goal.slice_bounds-write_table-count
slice_bounds-write_table-count c =
    let q = c.requires.single in rw c.requires.there.1 (omega (arith, (spot q.1 c.args.out.now q.2 c.args.k q.0.known c.requires.there.0).inside))

pub slice_bounds-write_table-start : goal.slice_bounds-write_table-start
slice_bounds-write_table-start c =
    let q = c.requires.single in rw c.requires.there.1 (omega (arith, (spot q.1 c.args.out.now q.2 c.args.k q.0.known c.requires.there.0).inside))

pub write_table-requires : goal.write_table-requires
write_table-requires c =
    let q = c.requires.single in rw c.requires.there.1 (q.0, fits q.1 c.args.out.now q.2 c.args.k q.0.known c.requires.there.0)

pub pad-requires : goal.pad-requires
pad-requires c =
    let q = c.requires.single in
    rw c.requires.there.1 (pad_fits (spot q.1 c.args.out.now q.2 c.args.k q.0.known c.requires.there.0) _ (rw c.requires.there.1 at c.write_table.ensures))

pub returns : goal.returns
returns c =
    let q = c.requires.single in
    part-written (spot q.1 c.args.out.now q.2 c.args.k q.0.known c.requires.there.0) _ _ (rw c.requires.there.1 at c.write_table.ensures) (rw c.requires.there.1 at c.pad.ensures)
