-- `hmtx::measure` meets its contract: each return is one case of step 6.
use Rattle.std.proofs.Common.{sym, arith}
use Rattle.std.proofs.lemmas.Result.{err_from_is_err_and}
use Rattle.hmtx.proofs.Step.{Counted, metrics-none, metrics-short, metrics-each, counted-refused, counted-some}
use Rattle.hmtx.proofs.measure.Goals as goal
use Rattle.hmtx.proofs.measure.Goals.{In_ok-count}

pub returns-then-c-eq0 : goal.returns-then-c-eq0
returns-then-c-eq0 c =
    let a = c.args in
    rw (metrics-none a.hhea.now a.hmtx.now a.roster.now c.from-c.result (omega arith) c.if-c-eq0.true)

pub returns-then-hmtx-c : goal.returns-then-hmtx-c
returns-then-hmtx-c c =
    let a = c.args in
    rw (metrics-short a.hhea.now a.hmtx.now a.roster.now c.from-c.result (omega arith) (omega arith) c.if-hmtx-c.true)

pub returns-in_err-count : goal.returns-in_err-count
returns-in_err-count c =
    let a = c.args in
    let p = err_from_is_err_and c.from_residual.result c.from_residual.ensures.1 in
    rw (p.1, p.2, metrics-each a.hhea.now a.hmtx.now a.roster.now c.from-c.result (omega arith) (omega arith) (omega arith))
    (counted-refused a.hmtx.now c.from-c.result a.roster.now _ c.in_err-count.ensures)

-- at the last return: the count is at most the number of glyphs
found : (c : In_ok-count) → Counted c.args.hmtx.now c.from-c.result c.args.roster.now c.in_ok-count.count
found c = counted-some c.args.hmtx.now c.from-c.result c.args.roster.now c.in_ok-count.count c.in_ok-count.ensures (omega arith)

pub overflow_mul-result-2 : goal.overflow_mul-result-2
overflow_mul-result-2 c = omega (arith, (found c).most)

pub overflow_add-result : goal.overflow_add-result
overflow_add-result c = omega (arith, (found c).most)

pub returns : goal.returns
returns c =
    let a = c.args in
    rw (metrics-each a.hhea.now a.hmtx.now a.roster.now c.from-c.result (omega arith) (omega arith) (omega arith)) (sym (found c).sized)
