-- The ids seen have zeros in the row, and the others what they had.
use Rattle.std.proofs.Common.{ℕ, ◌<◌, get_or}
use Rattle.remapper.proofs.Clears.{Cleared}
use Rattle.remapper.proofs.clear_row.Given as goal

abbrev pub invariant-loop-j : goal.invariant-loop-j
invariant-loop-j l = Cleared l.n l.base l.initial.s l.j l.s × ((x : ℕ) → get_or l.initial.s x 0 < 65536)
