-- The first test of the definition decides alone where it fails; else the second is the answer.
use Rattle.std.proofs.Common.{sym, ◌∙◌, arith}
use borrow.Author.Tests.{lt-leb}
use Rattle.name.proofs.Rows.{inside_far, inside-near}
use Rattle.name.proofs.inside.Goals as goal

pub returns-then-offset-size-le65535 : goal.returns-then-offset-size-le65535
returns-then-offset-size-le65535 c =
    let n = inside-near c.args.name.now c.args.row (omega arith) in
    cc

pub returns-else-offset-size-le65535 : goal.returns-else-offset-size-le65535
returns-else-offset-size-le65535 c = lt-leb _ _ c.if-offset-size-le65535.false ∙ sym (inside_far c.args.name.now c.args.row (omega arith))
