-- By where the bytes stand: the outline, then its padding; nowhere was refused by the walk.
use Rattle.std.proofs.Common.{sym}
use Rattle.model.specs.Glyf.{width}
use Rattle.outline.proofs.Glyphs.{span_within}
use Rattle.glyf.proofs.Writing.{room_there, never_nowhere, padding_room, moved_padded}
use Rattle.glyf.proofs.write_glyph.Goals as goal

pub returns-in_default : goal.returns-in_default
returns-in_default c = never_nowhere c.requires.copied c.requires.room (sym c.in_default.ensures)

pub write_outline-next-requires-clause-there : goal.write_outline-next-requires-clause-there
write_outline-next-requires-clause-there c = span_within (width c.args.long) c.args.loca.now c.args.glyf.now c.args.g (sym c.in-Some.ensures)

pub write_outline-next-requires-clause-room : goal.write_outline-next-requires-clause-room
write_outline-next-requires-clause-room c = room_there c.requires.copied c.requires.room (sym c.in-Some.ensures)

pub pad-requires-clause-room : goal.pad-requires-clause-room
pad-requires-clause-room c = padding_room c.requires.copied c.requires.room (sym c.in-Some.ensures) c.write_outline-next.ensures c.write_outline-next.auto.out

pub returns : goal.returns
returns c = moved_padded c.requires.copied c.requires.room (sym c.in-Some.ensures) c.write_outline-next.ensures c.pad.ensures
