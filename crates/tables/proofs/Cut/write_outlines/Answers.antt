-- The walk made sure of what the writer asks for, and the new glyf and loca are what it writes.
use Rattle.tables.proofs.Bodies.{both-bodies, tables-room}
use Rattle.tables.proofs.Cut.write_outlines.Goals as goal

pub write-requires : goal.write-requires
write-requires c =
    let f = c.requires in
    let a = c.args in
    rw (c.old.ensures, c.old-2.ensures) (tables-room f.ran a.distance a.out.now f)

pub returns : goal.returns
returns c =
    let a = c.args in
    rw (c.old.ensures, c.old-2.ensures, both-bodies c.requires.ran a.distance a.out.now) at c.write.ensures
