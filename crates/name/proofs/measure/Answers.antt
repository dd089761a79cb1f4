-- The cases of step 7: too short, another version, a refusal of the rows, the kept rows.
use Rattle.std.proofs.Common.{length, sym, ap, ◌∙◌, arith}
use Rattle.std.proofs.lemmas.Result.{err_from_is_err_and}
use Rattle.answer.specs.Answers.{number}
use Rattle.model.specs.Res.{map_res}
use Rattle.model.specs.Name.{name_entries}
use Rattle.name.proofs.Rows.{named_inv}
use Rattle.name.proofs.Table.{cut_short, cut_other, cut-refused, cut-kept, entries-counted, entries-refused}
use Rattle.name.proofs.measure.Goals as goal

pub returns-then-name-lt2 : goal.returns-then-name-lt2
returns-then-name-lt2 c = rw (cut_short c.args.name.now (omega arith))

pub returns-then-u16_at-ne0 : goal.returns-then-u16_at-ne0
returns-then-u16_at-ne0 c = rw (cut_other c.args.name.now (omega arith) (λ e. c.if-u16_at-ne0.true (c.u16_at.ensures ∙ e)))

pub measure_kept-requires : goal.measure_kept-requires
measure_kept-requires c =
    let b = c.args.name.now in
    let e = entries-counted (name_entries b) c.in_ok-kept.kept c.in_ok-kept.ensures in
    let n = named_inv b e.value e.made in
    (n.tested, e.count ∙ ap length n.same)

pub returns-in_err-kept : goal.returns-in_err-kept
returns-in_err-kept c =
    let b = c.args.name.now in
    let p = err_from_is_err_and c.from_residual.result c.from_residual.ensures.1 in
    let k = number c.in_err-kept.field-0.0 in
    let v = sym c.u16_at.ensures ∙ c.if-u16_at-ne0.false in
    rw (p.1, p.2, cut-refused b (omega arith) v k (entries-refused (name_entries b) k c.in_err-kept.ensures))

pub returns : goal.returns
returns c =
    let b = c.args.name.now in
    let e = entries-counted (name_entries b) c.in_ok-kept.kept c.in_ok-kept.ensures in
    let v = sym c.u16_at.ensures ∙ c.if-u16_at-ne0.false in
    c.measure_kept.ensures ∙ ap (map_res length) (sym (cut-kept b (omega arith) v e.value e.made))
