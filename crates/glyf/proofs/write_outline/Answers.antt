-- By the shape; a bad one was refused by the walk.
use Rattle.std.proofs.Common.{sym, arith}
use Rattle.outline.specs.Places.{span_bytes}
use Rattle.glyf.specs.Pieces.{new_from}
use Rattle.glyf.proofs.Runs.{moved_nothing, moved_placed}
use Rattle.glyf.proofs.Composite.{simple_bytes, empty_bytes, never_bad}
use Rattle.glyf.proofs.Writing.{length-bytes, simple_room}
use Rattle.glyf.proofs.write_outline.Goals as goal

pub join-requires-clause-room : goal.join-requires-clause-room
join-requires-clause-room c = simple_room c.requires.there c.requires.room (sym (rw c.in-Some-Simple.field-0-is at c.in-Some-Simple.ensures))

pub returns-in-Some-Simple : goal.returns-in-Some-Simple
returns-in-Some-Simple c = rw (simple_bytes _ _ _ (sym (rw c.in-Some-Simple.field-0-is at c.in-Some-Simple.ensures))) c.join.ensures

pub returns-in-Some-Composite : goal.returns-in-Some-Composite
returns-in-Some-Composite c =
    let q = c.requires in
    let p = c.write_composite-behind.ensures in
    let l = length-bytes c.args.n (new_from c.args.n c.args.scratch.now) (span_bytes c.args.glyf.now c.args.span) in
    moved_placed q.copied _ _ _ c.args.span.end _ c.copy_run.ensures p q.there.inside (omega (arith, p.behind, l, q.room.room, c.write_composite-behind.auto.out, c.copy_run.auto.out))

pub returns-in-Some-Empty : goal.returns-in-Some-Empty
returns-in-Some-Empty c = moved_nothing c.requires.copied (empty_bytes _ _ _ (sym (rw c.in-Some-Empty.field-0-is at c.in-Some-Empty.ensures)))

pub returns-in-None : goal.returns-in-None
returns-in-None c = never_bad c.args.n _ (sym c.in-None.ensures) c.requires.room.read
