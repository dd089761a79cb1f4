-- `hmtx::write_hmtx` meets its contract: where step 6 refuses nothing, the metrics are those at the code's places, and there is room.
use Prim.Native.Nat.{◌+◌, ◌*◌, ◌≤◌, ◌<◌}
use mathlib.Core.Path.{◌≡◌}
use native.Mathlib.Omega.{arith}
use lib.ListN.{length}
use Rattle.model.specs.Metrics.{new_count, new_hmtx}
use Rattle.hmtx.specs.Places.{metrics_at}
use Rattle.hmtx.proofs.Count.{new_count-most}
use Rattle.hmtx.proofs.Written.{length-metrics_at, length-new_hmtx}
use Rattle.hmtx.proofs.Step.{metrics-ready}
use Rattle.hmtx.proofs.write_hmtx.Goals as goal

pub returns : goal.returns
returns c =
    let a = c.args in
    let p = c.requires in
    let r = metrics-ready a.hhea.now a.hmtx.now a.roster.now c.from.result (omega arith) p.roster_value (omega arith) (omega arith) in
    rw r.same c.write_metrics.ensures

pub write_metrics-requires-clause-count_in_bounds : goal.write_metrics-requires-clause-count_in_bounds
write_metrics-requires-clause-count_in_bounds c =
    let a = c.args in
    let p = c.requires in
    let r = metrics-ready a.hhea.now a.hmtx.now a.roster.now c.from.result (omega arith) p.roster_value (omega arith) (omega arith) in
    let ms = metrics_at a.hmtx.now c.from.result a.roster.now in
    let l : length ms ≡ length a.roster.now = length-metrics_at a.hmtx.now c.from.result a.roster.now in
    let e : a.count ≡ new_count ms = rw r.same at p.count_value in
    let some : 0 < length ms = omega arith in
    let most : a.count ≤ length ms = rw e (new_count-most ms some) in
    let n : length (new_hmtx a.count ms) ≡ 2 * length ms + 2 * a.count = length-new_hmtx a.count ms most in
    let room : length (new_hmtx a.count ms) ≤ length a.out.now = rw r.same at p.roster_in_bounds in
    (omega arith, omega arith)

pub write_metrics-requires-clause-room : goal.write_metrics-requires-clause-room
write_metrics-requires-clause-room c =
    let a = c.args in
    (metrics-ready a.hhea.now a.hmtx.now a.roster.now c.from.result (omega arith) c.requires.roster_value (omega arith) (omega arith)).room
