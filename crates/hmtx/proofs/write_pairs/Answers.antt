use Rattle.std.proofs.Common.{◌*◌, get_or, arith, length}
use Rattle.model.specs.Bytes.{be16}
use Rattle.model.proofs.Bytes.{put-put}
use Rattle.model.proofs.Runs.{run-start, run-turn, run_end}
use Rattle.hmtx.specs.Places.{metric_at}
use Rattle.hmtx.proofs.Places.{advance_in}
use Rattle.hmtx.proofs.Written.{length_pair, pairs-run, pair_bytes}
use Rattle.hmtx.proofs.write_pairs.Goals as goal

pub loop-i-init : goal.loop-i-init
loop-i-init c = run-start _ 4 (length_pair _ _) c.args.roster.now _

pub u16_at-requires : goal.u16_at-requires
u16_at-requires c =
    let p = c.requires.room in
    omega (arith, advance_in c.args.c c.from-id.result (length c.args.hmtx.now) p.some p.long (rw c.from-id.ensures (p.metrics c.loop-i.i c.loop-i-test.true)))

pub loop-i-preserved : goal.loop-i-preserved
unfolding pair_bytes metric_at
loop-i-preserved c =
    let l = c.loop-i in
    let a = c.args in
    let m = metric_at a.hmtx.now a.c (get_or a.roster.now l.i 0) in
    let p = put-put l.out (be16 m.0) (be16 m.1) (4 * l.i) (omega arith) in
    let t = run-turn _ 4 (length_pair a.hmtx.now a.c) a.roster.now _ _ l.i (omega arith) l.invariant in
    cc

pub returns : goal.returns
returns c =
    let l = c.loop-i in
    let a = c.args in
    rw pairs-run (run_end _ 4 (length_pair _ _) _ _ _ l.i (omega arith) l.invariant)
