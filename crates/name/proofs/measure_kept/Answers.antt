-- The order of the two refusals by 5 does not matter: both are 5.
use Rattle.std.proofs.Common.{arith}
use Rattle.std.proofs.lemmas.Result.{err_from_is_err_and}
use Rattle.answer.specs.Answers.{number}
use Rattle.name.proofs.Table.{table_many, table_long, table_size, bytes_small}
use Rattle.name.proofs.measure_kept.Goals as goal

pub returns-then-n-gt5460 : goal.returns-then-n-gt5460
returns-then-n-gt5460 c = table_many c.args.name.now (omega arith)

pub overflow_add-result-2 : goal.overflow_add-result-2
overflow_add-result-2 c = omega (arith, (bytes_small c.args.name.now c.in_ok-distinct_bytes.field-0 c.in_ok-distinct_bytes.ensures).1)

pub returns-in_err-distinct_bytes : goal.returns-in_err-distinct_bytes
returns-in_err-distinct_bytes c =
    let p = err_from_is_err_and c.from_residual.result c.from_residual.ensures.1 in
    rw (p.1, p.2) (table_long c.args.name.now (number c.in_err-distinct_bytes.field-0.0) c.in_err-distinct_bytes.ensures)

pub returns : goal.returns
returns c = table_size c.args.name.now c.requires.0 c.args.n c.in_ok-distinct_bytes.field-0 c.requires.1 (omega arith) c.in_ok-distinct_bytes.ensures
