use Rattle.std.proofs.Common.{◌+◌, ◌*◌, ◌≤◌, take}
use Rattle.lines.specs.Print.{rows, Puts}
use Rattle.lines.proofs.print.put_rows.Given as goal

abbrev pub invariant-loop-new : goal.invariant-loop-new
invariant-loop-new l = record {
  puts : Puts l.initial.out l.at (rows 0 (take l.new l.roster)) l.end l.out;
  most : l.end ≤ l.at + 12 * l.new;
}
