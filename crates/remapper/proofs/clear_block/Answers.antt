-- Zeros that were found need not be written.
use Rattle.remapper.proofs.Clears.{zeros-there}
use Rattle.remapper.proofs.clear_block.Goals as goal

pub returns-else-bits-ne0 : goal.returns-else-bits-ne0
returns-else-bits-ne0 c = zeros-there _ _ _ c.requires (c.bits.ensures c.if-bits-ne0.false)
