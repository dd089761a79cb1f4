-- The two tests are the one test, without a sum that could wrap.
use Rattle.std.proofs.Common.{◌+◌, ◌-◌, length, sym, arith}
use borrow.Author.Tests.{lt-leb}
use Rattle.model.proofs.Tests.{leb-same}
use Rattle.read.proofs.holds.Goals as goal

pub returns-then-b-at : goal.returns-then-b-at
returns-then-b-at c = sym (lt-leb (c.args.at + c.args.size) _ (omega arith))

pub returns : goal.returns
returns c =
    let a = c.args in
    let n = length a.b.now in
    leb-same a.size (n - a.at) (a.at + a.size) n (λ h. omega arith) (λ h. omega arith)
