-- `hmtx::write_metrics` meets its contract: the pairs are over the start, and the bearings over the part behind them.
use Prim.Native.Nat.{◌-◌, ◌*◌}
use mathlib.Core.Path.{◌≡◌, refl}
use native.Mathlib.Omega.{arith}
use lib.ListN.{length, take, drop, length-drop}
use lib.Seq.{length-take-le}
use Rattle.model.proofs.Parts.{tail, two-parts}
use Rattle.model.specs.Metrics.{pairs, bearings}
use Rattle.hmtx.specs.Places.{metrics_at}
use Rattle.hmtx.proofs.Written.{length_pairs, length-bearings, length-metrics_at, new_hmtx-parts}
use Rattle.hmtx.proofs.write_metrics.Goals as goal

pub returns : goal.returns
returns c =
    let a = c.args in
    let w = c.write_pairs in
    let v = c.write_bearings in
    let h = a.hmtx.now in
    let ids = a.roster.now in
    let p = pairs (metrics_at h a.c (take a.count ids)) in
    let q = bearings (metrics_at h a.c (drop a.count ids)) in
    let ep : length p ≡ 4 * a.count = simp (length_pairs, length-metrics_at, length-take-le a.count ids (omega arith)) in
    let eq : length q ≡ 2 * (length ids - a.count) = simp (length-bearings, length-metrics_at, length-drop) in
    rw (new_hmtx-parts h a.c a.count ids)
    (two-parts a.out.now w.new.out v.new.out p q (4 * a.count) (length w.new.out - 4 * a.count)
    w.ensures ep refl (rw (tail a.count ids) at v.ensures) (omega arith))
