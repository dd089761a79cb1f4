use Rattle.std.proofs.Common.{sym, ◌∙◌, arith}
use Rattle.name.proofs.Rows.{counting-start, counting_kept, counting-skip, counting-stop}
use Rattle.name.proofs.Strings.{length-entries}
use Rattle.name.proofs.test_ranges.Goals.{then-kept+else-not-inside, else-kept}
use Rattle.name.proofs.test_ranges.Goals as goal

pub loop-row-init : goal.loop-row-init
loop-row-init c = counting-start c.args.name.now

pub returns-then-not-inside : goal.returns-then-not-inside
returns-then-not-inside c =
    let a = c.args in
    let l = c.loop-row in
    counting-stop a.name.now c.requires.1 l.row l.n l.invariant a.count c.loop-row-test.true (cc) (sym c.inside.ensures ∙ c.if-not-inside.true)

pub overflow_add-n : goal.overflow_add-n
overflow_add-n c =
    let l = c.loop-row in
    let a = c.args in
    omega (arith, length-entries a.name.now l.row)

pub loop-row-preserved : goal.loop-row-preserved
loop-row-preserved c =
    let l = c.loop-row in
    let a = c.args in
    elim c.if-kept.branch [
      | then-kept+else-not-inside w ↦ rw w.n-is (counting_kept a.name.now c.requires.1 l.row l.n l.invariant (sym c.kept.ensures ∙ w.if-kept.true) (sym w.inside.ensures ∙ w.if-not-inside.false))
      | else-kept w ↦ rw w.n-is (counting-skip a.name.now c.requires.1 l.row l.n l.invariant (sym c.kept.ensures ∙ w.if-kept.false))
    ]
