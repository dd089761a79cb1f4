-- Step 6 made sure of what the writer asks for, and the new hmtx is what it writes.
use Rattle.tables.proofs.Bodies.{hmtx_body, hmtx-room}
use Rattle.tables.proofs.Cut.write_hmtx.Goals as goal

pub returns : goal.returns
returns c = rw (c.old.ensures, c.old-2.ensures, hmtx_body c.requires.ran) at c.write_hmtx.ensures

pub write_hmtx-requires-clause-in_bounds : goal.write_hmtx-requires-clause-in_bounds
write_hmtx-requires-clause-in_bounds c =
    let f = c.requires in
    let r = hmtx-room f.ran c.args.out.now f.room in
    rw c.old.ensures r.0

pub write_hmtx-requires-clause-roster_in_bounds : goal.write_hmtx-requires-clause-roster_in_bounds
write_hmtx-requires-clause-roster_in_bounds c =
    let f = c.requires in
    let r = hmtx-room f.ran c.args.out.now f.room in
    rw (c.old.ensures, c.old-2.ensures) r.1.1.1

pub write_hmtx-requires-clause-count_value : goal.write_hmtx-requires-clause-count_value
write_hmtx-requires-clause-count_value c =
    let f = c.requires in
    let r = hmtx-room f.ran c.args.out.now f.room in
    rw (c.old.ensures, c.old-2.ensures) r.1.1.0

pub write_hmtx-requires-clause-roster_value : goal.write_hmtx-requires-clause-roster_value
write_hmtx-requires-clause-roster_value c =
    let f = c.requires in
    let r = hmtx-room f.ran c.args.out.now f.room in
    rw (c.old.ensures, c.old-2.ensures) r.1.0
