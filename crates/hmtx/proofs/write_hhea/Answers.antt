-- `hmtx::write_hhea` meets its contract: the old bytes over the start, the count behind them.
use Prim.Native.Nat.{◌-◌}
use mathlib.Core.Path.{◌≡◌}
use native.Mathlib.Omega.{arith}
use lib.ListN.{length, take, length-take}
use Rattle.model.specs.Bytes.{be16}
use Rattle.model.proofs.Bytes.{put-zero, put-over}
use Rattle.hmtx.proofs.write_hhea.Goals as goal

pub returns : goal.returns
returns c =
    let a = c.args in
    let p = take (length a.hhea.now - 2) a.hhea.now in
    let e : length p ≡ length a.hhea.now - 2 = simp length-take (omega arith) in
    cc (put-zero a.out.now p, put-over p a.out.now (be16 a.count) (length a.hhea.now - 2) e)
