use native.Mathlib.Omega.{arith}
use native.Mathlib.Numerals.{add-one}
use mathlib.Core.Path.{◌≡◌}
use lib.ListN.{length}
use lib.Seq.{paste-zero, paste-suc, take-length}
use Rattle.model.specs.Bytes.{put}
use Rattle.write.proofs.copy_bytes.Goals as goal

pub loop-i-init : goal.loop-i-init
loop-i-init c = paste-zero c.args.out.now c.args.at c.args.src.now

pub loop-i-preserved : goal.loop-i-preserved
loop-i-preserved c =
    let a = c.args in
    let l = c.loop-i in
    rw (l.invariant, add-one) (paste-suc a.out.now a.at a.src.now l.i 0 (omega arith) c.loop-i-test.true)

pub returns : goal.returns
unfolding put
returns c =
    let l = c.loop-i in
    let e : l.i ≡ length c.args.src.now = omega arith in
    rw (l.invariant, e, take-length)
