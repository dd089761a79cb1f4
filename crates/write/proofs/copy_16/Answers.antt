-- Four blocks of four, one behind the other.
use Rattle.write.proofs.Copies.{put-parts}
use native.Mathlib.Omega.{arith}
use Rattle.write.proofs.copy_16.Goals as goal

pub returns : goal.returns
returns c =
    let a = c.args in
    let t = put-parts a.out.now a.src.now a.at a.from 4 4 (omega arith) (omega arith) in
    let u = put-parts a.out.now a.src.now a.at a.from 8 4 (omega arith) (omega arith) in
    let v = put-parts a.out.now a.src.now a.at a.from 12 4 (omega arith) (omega arith) in
    cc
