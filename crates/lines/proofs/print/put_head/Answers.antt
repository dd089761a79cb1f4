use Rattle.std.proofs.Common.{ℕ, List, [], ◌∷◌, ◌++◌, arith}
use Rattle.lines.specs.Print.{decimal, head_line}
use Rattle.lines.proofs.Rows.{puts_both}
use Rattle.lines.proofs.print.put_head.Goals as goal

pub returns-clause-puts : goal.returns-clause-puts
unfolding head_line
returns-clause-puts c =
    let a = c.args in
    let p = c.put_bytes-a in
    let q = c.put_number-b in
    let r = c.put_bytes-c in
    let s = c.put_number in
    let kept : List ℕ = 107 ∷ 101 ∷ 112 ∷ 116 ∷ 32 ∷ [] in
    let len : List ℕ = 108 ∷ 101 ∷ 110 ∷ 103 ∷ 116 ∷ 104 ∷ 32 ∷ [] in
    let n = decimal a.n ++ (32 ∷ []) in
    let l = decimal a.size ++ (10 ∷ []) in
    let u = puts_both a.out.now p.new.out q.new.out kept n 0 p.result q.result (omega arith) p.ensures q.ensures.puts in
    let v = puts_both a.out.now q.new.out r.new.out (kept ++ n) len 0 q.result r.result (omega arith) u r.ensures in
    puts_both a.out.now r.new.out s.new.out (kept ++ n ++ len) l 0 r.result s.result (omega arith) v s.ensures.puts
