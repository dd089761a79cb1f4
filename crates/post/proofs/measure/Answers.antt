-- One law of Scratch for each outcome of the tests.
use Rattle.post.proofs.Grow.{names_bounded}
use Rattle.post.proofs.Scratch.{measured-cut}
use native.Mathlib.Omega.{arith}
use lib.ListN.{take}
use lib.Seq.{length-take-le}
use Rattle.post.proofs.measure.Goals as goal

pub overflow_add-result-in-Some : goal.overflow_add-result-in-Some
overflow_add-result-in-Some c =
    let a = c.args in
    let ids = take a.kept a.scratch.now in
    omega (arith, c.find_names.ensures.size, names_bounded a.post.now ids (omega arith), length-take-le a.kept a.scratch.now (omega arith))

pub returns-in-Some : goal.returns-in-Some
returns-in-Some c =
    let a = c.args in
    let t = rw c.in-Some.is at c.in_ok-test.ensures in
    measured-cut a.post.now a.scratch.now _ a.n a.kept c.find_names.result (omega arith) (omega arith) t.0 c.find_names.ensures
