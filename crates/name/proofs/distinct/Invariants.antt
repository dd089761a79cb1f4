-- After so many rows their first uses are noted, and their bytes are few enough.
use Rattle.std.proofs.Common.{◌≤◌}
use Rattle.name.specs.Rows.{Uses, Arranged}
use Rattle.name.proofs.distinct.Given as goal

abbrev pub invariant-loop-row : goal.invariant-loop-row
invariant-loop-row g l =
    record {
      uses : Uses l.name l.row l.uses.rows l.uses.offsets l.uses.used l.uses.end;
      arranged : Arranged l.name l.uses.rows l.uses.links l.uses.heads l.uses.used l.uses.sorted;
      small : l.uses.end ≤ 65535;
    }
