-- The header's three tests in the definition's order, then the rows.
use Rattle.std.proofs.Common.{arith}
use Rattle.name.proofs.Rows.{named-short, named-cut, named_past, named-rows}
use Rattle.name.proofs.records.Goals as goal

pub returns-then-name-lt6 : goal.returns-then-name-lt6
returns-then-name-lt6 c = rw (named-short c.args.name.now (omega arith))

pub returns-then-name-count : goal.returns-then-name-count
returns-then-name-count c = rw (named-cut c.args.name.now (omega arith) (omega arith))

pub returns-then-name-u16_at : goal.returns-then-name-u16_at
returns-then-name-u16_at c = rw (named_past c.args.name.now (omega arith) (omega arith))

pub returns : goal.returns
returns c =
    let a = c.args in
    let n = named-rows a.name.now (omega arith) (omega arith) in
    rw n cc
