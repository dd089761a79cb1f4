-- The walks write behind `at` only, so that what was known in front of it is known after them.
use Prim.Native.Nat.{◌+◌}
use native.Mathlib.Nat.{mul-le-mul_right}
use native.Mathlib.Omega.{arith}
use Rattle.post.proofs.Lanes.{four_start}
use Rattle.post.proofs.chains.round.Goals as goal

pub run-ahead-requires-clause-spaced : goal.run-ahead-requires-clause-spaced
run-ahead-requires-clause-spaced c =
    let a = c.args in
    let p = c.requires in
    let m = mul-le-mul_right {m = a.i + 4} {n = a.chains} a.q (omega (arith, p.led.four-more)) in
    (c.guess_starts-s.ensures.0, p.end_in_bounds.1, omega (arith, p.led.room_for))

pub run-ahead-requires-clause-four : goal.run-ahead-requires-clause-four
run-ahead-requires-clause-four c =
    (four_start c.args.post.now _ c.args.q c.guess_starts-s.result c.args.room.now c.begin.result c.begin.ensures, omega (arith, c.begin.ensures.turns))

pub run-f-requires-clause-spaced : goal.run-f-requires-clause-spaced
run-f-requires-clause-spaced c =
    let a = c.args in
    let p = c.requires in
    let m = mul-le-mul_right {m = a.i + 4} {n = a.chains} a.q (omega (arith, p.led.four-more)) in
    let r = c.run-ahead.ensures in
    (c.guess_starts-s.ensures.0, p.end_in_bounds.1, omega (arith, p.led.room_for, r.same_length))
