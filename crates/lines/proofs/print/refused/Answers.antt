use Rattle.std.proofs.Common.{[], ◌∷◌, ◌++◌, arith}
use Rattle.lines.specs.Print.{decimal, refused_line}
use Rattle.lines.proofs.Rows.{puts_both}
use Rattle.lines.proofs.print.refused.Goals as goal

pub returns-clause-puts : goal.returns-clause-puts
unfolding refused_line
returns-clause-puts c =
    let a = c.args in
    let p = c.put_bytes-at in
    let q = c.put_number in
    puts_both a.out.now p.new.out q.new.out (114 ∷ 101 ∷ 102 ∷ 117 ∷ 115 ∷ 101 ∷ 100 ∷ 32 ∷ []) (decimal a.k ++ (10 ∷ [])) 0 p.result q.result (omega arith) p.ensures (rw c.from.ensures at q.ensures.puts)
