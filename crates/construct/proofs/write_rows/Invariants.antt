-- The records so far lie before the first table, so that each table is read as it was (`Rowed`).
use Rattle.construct.proofs.Rows.{Rowed}
use Rattle.construct.proofs.write_rows.Given as goal

abbrev pub invariant-loop-k : goal.invariant-loop-k
invariant-loop-k l = Rowed l.fn.new.tables l.initial.out l.out l.sum l.at l.k
