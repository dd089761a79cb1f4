-- By the glyph's span.
use Rattle.std.proofs.Common.{sym}
use Rattle.closure.proofs.Reading.{opened-there, opened-nowhere}
use Rattle.closure.proofs.read_glyph.Goals as goal

pub returns-in_err-span : goal.returns-in_err-span
returns-in_err-span c = rw c.from_residual.ensures (opened-nowhere _ _ _ _ _ _ (sym c.in_err-span.ensures))

pub returns : goal.returns
returns c = opened-there _ _ _ _ _ _ _ _ (sym c.in_ok-span.ensures) c.read_outline.ensures
