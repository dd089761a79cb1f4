use mathlib.Core.Path.{◌≡◌}
use Prim.Native.Nat.{◌+◌, ◌*◌, ◌-◌}
use Rattle.post.proofs.Lanes.{rounds_turn, rounds_end}
use native.Mathlib.Omega.{arith}
use Rattle.post.proofs.chains.all_rounds.Goals as goal

pub loop-j-preserved : goal.loop-j-preserved
loop-j-preserved c =
    let l = c.loop-j in
    rounds_turn c.args.post.now c.args.q (4 * c.args.rounds) (4 * l.j) (4 * (l.j + 1)) c.args.room.now l.room c.round.new.room l.from c.in_ok-from.from
    l.invariant (omega arith) (omega arith) c.in_ok-from.ensures

pub returns : goal.returns
returns c =
    let l = c.loop-j in
    let i : 4 * l.j ≡ 4 * c.args.rounds - 4 = omega arith in
    rounds_end c.args.post.now c.args.q (4 * c.args.rounds) (4 * c.args.rounds - 4) c.args.room.now l.room c.round-2.new.room l.from c.round-2.result
    (rw i at l.invariant) (omega arith) (omega arith) c.round-2.ensures
