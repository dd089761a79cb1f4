use Prim.Native.Nat.{◌+◌, ◌-◌}
use native.Mathlib.Omega.{arith}
use borrow.Author.Rules.{rules}
use lib.ListN.{length}
use lib.Seq.{paste-zero}
use Rattle.model.specs.Bytes.{put}
use Rattle.write.proofs.Copies.{put-more, put_last}
use Rattle.write.proofs.copy.Goals as goal

pub returns-then-n-lt16 : goal.returns-then-n-lt16
returns-then-n-lt16 c =
    let a = c.args in
    let n = length a.src.now in
    let t = put_last a.out.now a.src.now a.at 8 (n - 8) 8 (a.at + n - 8) (omega arith) (omega arith) (omega arith) (omega arith) (omega arith) in
    cc

pub loop-i-init : goal.loop-i-init
unfolding put
loop-i-init c = let a = c.args in (search rules, omega arith, search rules, paste-zero a.out.now a.at a.src.now)

pub loop-i-preserved : goal.loop-i-preserved
loop-i-preserved c =
    let a = c.args in
    let l = c.loop-i in
    let t = put-more a.out.now a.src.now a.at l.i 16 (omega arith) (omega arith) in
    (omega arith, search rules, search rules, cc)

pub returns : goal.returns
returns c =
    let a = c.args in
    let l = c.loop-i in
    let n = length a.src.now in
    let t = put_last a.out.now a.src.now a.at l.i (n - 16) 16 (a.at + (n - 16)) (omega arith) (omega arith) (omega arith) (omega arith) (omega arith) in
    cc
