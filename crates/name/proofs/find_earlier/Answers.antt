use Rattle.std.proofs.Common.{arith}
use Rattle.name.proofs.Order.{halved, turn-shorter, turn-longer, turn-lesser, turn-greater, turn-equal, sought-at}
use Rattle.name.proofs.find_earlier.Goals.{else-earlier-test, then-earlier-test+else-length-size+else-size-length+then-k-size}
use Rattle.name.proofs.find_earlier.Goals as goal

pub earlier-preserved-then-length-size : goal.earlier-preserved-then-length-size
earlier-preserved-then-length-size c =
    let l = c.earlier in
    let h = halved l.low l.high c.earlier-test.true in
    turn-shorter c.requires l.invariant h.0 h.1 c.length_at-length.ensures.0 c.length_at-size.ensures.0 c.if-length-size.true

pub earlier-preserved-then-size-length : goal.earlier-preserved-then-size-length
earlier-preserved-then-size-length c =
    let l = c.earlier in
    let h = halved l.low l.high c.earlier-test.true in
    turn-longer c.requires l.invariant h.0 h.1 c.length_at-length.ensures.0 c.length_at-size.ensures.0 c.if-size-length.true

pub earlier-preserved-then-name-at : goal.earlier-preserved-then-name-at
earlier-preserved-then-name-at c =
    let l = c.earlier in
    let h = halved l.low l.high c.earlier-test.true in
    rw c.loop-k.invariant.2 (turn-lesser c.requires l.invariant h.0 h.1 c.length_at-length.ensures.0 c.length_at-size.ensures.0 (omega arith) c.start_at-at.ensures.0 c.start_at-start.ensures.0 c.loop-k.invariant.0 (omega (arith, c.loop-k.invariant.0.within)) c.if-name-at.true)

pub earlier-preserved : goal.earlier-preserved
earlier-preserved c =
    let l = c.earlier in
    let h = halved l.low l.high c.earlier-test.true in
    rw c.loop-k.invariant.1 (turn-greater c.requires l.invariant h.0 h.1 c.length_at-length.ensures.0 c.length_at-size.ensures.0 (omega arith) c.start_at-at.ensures.0 c.start_at-start.ensures.0 c.loop-k.invariant.0 (omega (arith, c.loop-k.invariant.0.within)) c.if-name-start.true)

pub returns-then-there : goal.returns-then-there
returns-then-there c =
    let l = c.earlier in
    elim c.earlier-test.branch [
      | else-earlier-test w ↦ absurd (omega (arith, w.earlier-test.false, w.low-is, w.high-is))
      | then-earlier-test+else-length-size+else-size-length+then-k-size w ↦
          let h = halved l.low l.high w.earlier-test.true in
          rw w.middle-is (sought-at c.requires l.invariant h.0 h.1 (turn-equal c.requires l.invariant h.0 h.1 w.length_at-length.ensures.0 c.length_at-size.ensures.0 (omega (arith, w.if-length-size.false, w.if-size-length.false)) w.start_at-at.ensures.0 c.start_at-start.ensures.0 w.loop-k.invariant.0 w.if-k-size.true))
    ]
