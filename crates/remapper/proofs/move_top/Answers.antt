-- Unlinking keeps every link a glyph's id.
use Rattle.remapper.proofs.Waiting.{linked-unlinked}
use Rattle.remapper.proofs.move_top.Goals as goal

pub insert-requires : goal.insert-requires
insert-requires c = (c.requires.0, c.requires.1, rw c.unlink.ensures (linked-unlinked _ _ _ c.requires.1 c.requires.2))
