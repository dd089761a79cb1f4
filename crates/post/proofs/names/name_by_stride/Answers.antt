-- A held place stands for its name, and the walk from there for those behind it.
use native.Mathlib.Nat.{zero-add}
use Prim.Native.Nat.{◌+◌, ◌*◌}
use Rattle.model.specs.Bytes.{word16}
use Rattle.post.proofs.Walk.{stands-first, stands-walked}
use Rattle.post.proofs.Held.{slot-before, index-walk}
use native.Mathlib.Omega.{arith}
use Rattle.post.proofs.names.name_by_stride.Goals as goal

pub returns-then-j-eq0 : goal.returns-then-j-eq0
returns-then-j-eq0 c =
    let a = c.args in
    rw (c.walk.ensures, c.from-then-j-eq0.ensures, c.u16_at.ensures)
    (rw zero-add at (stands-walked a.post.now (34 + 2 * word16 a.post.now 32) 0 a.k (stands-first a.post.now)))

pub returns : goal.returns
returns c =
    let a = c.args in
    let p = c.requires in
    let j = c.slot-j.result in
    rw (c.walk-2.ensures, c.place.ensures.0)
    (index-walk a.post.now a.room.now a.k a.s j p.strided.0 p.strided.2 (omega arith) (omega arith) (slot-before a.k a.s j (omega arith)))
