-- The strings of the rows so far are written.
use Rattle.std.proofs.Common.{◌≡◌, ◌+◌, map, length, take}
use Rattle.model.specs.Bytes.{concat, put}
use Rattle.name.specs.Rows.{string_at}
use Rattle.name.proofs.write_strings.Given as goal

abbrev pub invariant-loop-row : goal.invariant-loop-row
invariant-loop-row l =
    record {
      behind : l.to ≡ l.at + length (concat (map (string_at l.name) (take l.row-index l.firsts)));
      written : l.out ≡ put l.initial.out l.at (concat (map (string_at l.name) (take l.row-index l.firsts)));
    }
