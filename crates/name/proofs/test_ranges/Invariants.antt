-- After so many rows their strings are tested and counted; the first that lies outside decides.
use Rattle.name.proofs.Rows.{Counting}
use Rattle.name.proofs.test_ranges.Given as goal

abbrev pub invariant-loop-row : goal.invariant-loop-row
invariant-loop-row l = Counting l.name l.row l.n
