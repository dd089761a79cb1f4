use Rattle.std.proofs.Common.{[], ◌∷◌, ◌++◌, arith}
use Rattle.lines.specs.Print.{decimal, row}
use Rattle.lines.proofs.Rows.{puts_both}
use Rattle.lines.proofs.print.put_row.Goals as goal

pub returns-clause-puts : goal.returns-clause-puts
unfolding row
returns-clause-puts c =
    let a = c.args in
    let p = c.put_number-middle in
    let q = c.put_number in
    puts_both a.out.now p.new.out q.new.out (decimal a.new ++ (32 ∷ [])) (decimal a.old ++ (10 ∷ [])) a.at p.result q.result (omega arith) p.ensures.puts (rw c.from.ensures at q.ensures.puts)
