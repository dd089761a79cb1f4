use Rattle.std.proofs.Common.{◌≡◌, ◌+◌, [], ◌∷◌, length, refl, ap, ◌∙◌, arith}
use Rattle.model.specs.Bytes.{put}
use Rattle.lines.specs.Print.{decimal}
use Rattle.lines.proofs.Rows.{put_byte, puts_both}
use Rattle.lines.proofs.Width.{decimal_of, decimal-fits}
use Rattle.lines.proofs.print.put_number.Goals as goal

pub returns-clause-puts : goal.returns-clause-puts
returns-clause-puts c =
    let a = c.args in
    let d = c.decimal-k in
    let p = c.put_bytes-behind in
    let t = d.ensures.digits ∙ decimal_of d.result a.n (omega arith) d.ensures.len in
    let q : p.new.out ≡ put a.out.now a.at (decimal a.n) = p.ensures.0 ∙ ap (put a.out.now a.at) t in
    let r : p.result ≡ a.at + length (decimal a.n) = p.ensures.1 ∙ ap (λ x. a.at + length x) t in
    puts_both a.out.now p.new.out _ (decimal a.n) (a.end ∷ []) a.at p.result _ (omega arith) (q, r) (put_byte p.new.out p.result a.end (omega (arith, r, decimal-fits a.n)), refl)
