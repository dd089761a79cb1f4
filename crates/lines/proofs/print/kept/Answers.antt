use Rattle.std.proofs.Common.{length, arith}
use Rattle.lines.specs.Print.{head_line, rows, kept_lines}
use Rattle.lines.proofs.Rows.{puts_both}
use Rattle.lines.proofs.print.kept.Goals as goal

pub returns-clause-puts : goal.returns-clause-puts
unfolding kept_lines
returns-clause-puts c =
    let a = c.args in
    let p = c.put_head-at in
    let q = c.put_rows in
    puts_both a.out.now p.new.out q.new.out (head_line (length a.roster.now) a.size) (rows 0 a.roster.now) 0 p.result q.result (omega arith) p.ensures.puts q.ensures.puts
