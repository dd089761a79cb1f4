use Rattle.std.proofs.Common.{arith}
use Rattle.model.proofs.Runs.{run-start, run-turn, run_end}
use Rattle.hmtx.specs.Places.{metric_at}
use Rattle.hmtx.proofs.Written.{length_bearing, bearings-run, bearing_bytes}
use Rattle.hmtx.proofs.write_bearings.Goals as goal

pub loop-i-init : goal.loop-i-init
loop-i-init c = run-start _ 2 (length_bearing _ _) c.args.roster.now _

pub loop-i-preserved : goal.loop-i-preserved
unfolding bearing_bytes metric_at
loop-i-preserved c =
    let l = c.loop-i in
    let a = c.args in
    let t = run-turn _ 2 (length_bearing a.hmtx.now a.c) a.roster.now _ _ l.i (omega arith) l.invariant in
    cc

pub returns : goal.returns
returns c =
    let l = c.loop-i in
    let a = c.args in
    rw bearings-run (run_end _ 2 (length_bearing _ _) _ _ _ l.i (omega arith) l.invariant)
