use Prim.Native.Nat.{◌+◌, ◌/◌}
use mathlib.Core.Path.{◌≡◌}
use native.Mathlib.Omega.{arith}
use lib.ListN.{length}
use Rattle.post.proofs.Walk.{walked-inside}
use Rattle.post.proofs.Held.{fill_turn, fill_end, last_fits}
use Rattle.post.proofs.names.fill_stride.Goals as goal

pub set_place-requires : goal.set_place-requires
set_place-requires c =
    let a = c.args in
    let l = c.loop-j in
    let s = a.want / (length a.room.now / 2) + 1 in
    let f = last_fits a.want (length a.room.now) (omega arith) in
    (omega (arith, l.invariant.same_length), rw c.walk-p.ensures (omega (arith, walked-inside a.post.now l.p s l.invariant.inside)))

pub loop-j-preserved : goal.loop-j-preserved
loop-j-preserved c =
    let a = c.args in
    let l = c.loop-j in
    rw (c.set_place.ensures, c.walk-p.ensures)
    (fill_turn a.post.now _ _ a.room.now l.room l.p l.j l.invariant c.loop-j-test.true (last_fits a.want (length a.room.now) (omega arith)))

pub returns : goal.returns
returns c =
    let a = c.args in
    let l = c.loop-j in
    let s = a.want / (length a.room.now / 2) + 1 in
    let e : l.j ≡ a.want / s = omega (arith, l.invariant.within) in
    fill_end a.post.now s (a.want / s) a.room.now l.room l.p (rw e at l.invariant) (omega arith) (last_fits a.want (length a.room.now) (omega arith))
