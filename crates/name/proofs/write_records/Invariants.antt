-- After so many rows their records are written, and their first uses noted.
use Rattle.std.proofs.Common.{◌≡◌, length}
use Rattle.model.specs.Bytes.{put}
use Rattle.name.specs.Rows.{entries, new_records, Uses, Arranged}
use Rattle.name.proofs.write_records.Given as goal

abbrev pub invariant-loop-row : goal.invariant-loop-row
invariant-loop-row g l =
    record {
      uses : Uses l.name l.row l.uses.rows l.uses.offsets l.uses.used l.uses.end;
      count : l.n ≡ length (entries l.name l.row);
      records : l.out ≡ put l.initial.out 6 (new_records l.name l.row);
      arranged : Arranged l.name l.uses.rows l.uses.links l.uses.heads l.uses.used l.uses.sorted;
    }
