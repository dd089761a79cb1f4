use Rattle.std.proofs.Common.{arith}
use Rattle.lines.proofs.Rows.{rows-put, rows_none}
use Rattle.lines.proofs.print.put_rows.Goals as goal

pub loop-new-init : goal.loop-new-init
loop-new-init c =
    let a = c.args in
    record { puts = rows_none a.out.now a.at a.roster.now; most = omega arith }

pub loop-new-preserved : goal.loop-new-preserved
loop-new-preserved c =
    let a = c.args in
    let l = c.loop-new in
    let p = c.put_row-end in
    record {
      puts = rows-put a.out.now l.out p.new.out a.roster.now a.at l.end p.result l.new (omega arith) (omega arith) l.invariant.puts p.ensures.puts;
      most = omega arith;
    }
