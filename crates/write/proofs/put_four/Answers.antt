-- Four places set one after the other are a part that is put.
use native.Mathlib.Omega.{arith}
use lib.ListN.{length-set}
use Rattle.write.proofs.Copies.{four_puts}
use Rattle.write.proofs.put_four.Goals as goal

pub bounds-out-at-2 : goal.bounds-out-at-2
bounds-out-at-2 c = simp length-set (omega arith)

pub bounds-out-at-3 : goal.bounds-out-at-3
bounds-out-at-3 c = simp length-set (omega arith)

pub bounds-out-at-4 : goal.bounds-out-at-4
bounds-out-at-4 c = simp length-set (omega arith)

pub returns : goal.returns
returns c = four_puts c.args.out.now c.args.b c.args.at c.requires.0 c.requires.1
