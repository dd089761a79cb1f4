-- Each way out is a case of steps 6 to 10.
use Rattle.std.proofs.Common.{arith}
use Rattle.std.proofs.lemmas.Result.{err_from_is_err_and}
use Rattle.plan.specs.Sources.{font_of}
use Rattle.subset.proofs.Rewriting.{rewrite-refused}
use Rattle.subset.proofs.Ways.{not_narrow, too_long, too_short, writes, written}
use Rattle.subset.proofs.rewrite.Goals as goal

pub returns-in_err-p : goal.returns-in_err-p
returns-in_err-p c =
    let a = c.args in
    let e = err_from_is_err_and c.from_residual.result c.from_residual.ensures.1 in
    rw (e.1, e.2) (rewrite-refused (font_of a.font.now a.s) a.s.n a.kept a.scratch.now _ a.out.now _ c.in_err-p.ensures)

pub returns-then-not-narrow : goal.returns-then-not-narrow
returns-then-not-narrow c =
    let a = c.args in not_narrow a.font.now a.s a.kept a.scratch.now _ c.requires.0 c.requires.1 a.out.now _ c.in_ok-p.ensures c.if-not-narrow.ensures

pub returns-then-long : goal.returns-then-long
returns-then-long c =
    let a = c.args in
    too_long a.font.now a.s a.kept a.scratch.now _ c.requires.0 c.requires.1 a.out.now _ c.in_ok-p.ensures _ c.lay_out-new.ensures (omega arith)

pub returns-then-out-end : goal.returns-then-out-end
returns-then-out-end c =
    let a = c.args in
    too_short a.font.now a.s a.kept a.scratch.now _ c.requires.0 c.requires.1 a.out.now _ c.in_ok-p.ensures _ c.lay_out-new.ensures (omega arith) c.if-out-end.true

pub write_file-requires : goal.write_file-requires
write_file-requires c =
    let a = c.args in
    (writes a.font.now a.s a.kept a.scratch.now _ c.requires.0 c.requires.1 a.out.now _ c.in_ok-p.ensures _ c.lay_out-new.ensures (omega arith), c.if-out-end.false)

pub returns : goal.returns
returns c =
    let a = c.args in
    written a.font.now a.s a.kept a.scratch.now _ c.requires.0 c.requires.1 a.out.now _ c.in_ok-p.ensures _ c.lay_out-new.ensures (omega arith) c.if-out-end.false _ c.write_file.ensures
