-- Nothing, a zero, or a part of the table: one law of Grow for each.
use Prim.Native.Nat.{◌-◌, ◌+◌}
use mathlib.Core.Path.{◌≡◌, ap, ◌∙◌}
use native.Mathlib.Omega.{arith}
use lib.ListN.{length, length-take, length-drop}
use Rattle.post.specs.Post.{Stands, index_of, size_at, name_bytes}
use Rattle.post.proofs.Walk.{size-inside}
use Rattle.post.proofs.Grow.{name-none, length-stored, name-missing, name-copied, put-nothing, put_byte}
use Rattle.post.proofs.put_name.Goals as goal
use Rattle.post.proofs.put_name.Goals.{After-place_of-p}

-- the name stands at the place, and is stored with its length byte
stands : (c : After-place_of-p) → Stands c.args.post.now c.place_of-p.result (index_of c.args.post.now c.args.g - 258)
stands c = rw c.index_at-i.ensures.0 at c.place_of-p.ensures

stored : (c : After-place_of-p) → length (name_bytes c.args.post.now c.args.g) ≡ 1 + size_at c.args.post.now c.place_of-p.result
stored c = omega (arith, length-stored c.args.post.now c.args.g c.place_of-p.result (omega arith) (stands c))

pub returns-then-i-le257 : goal.returns-then-i-le257
returns-then-i-le257 c =
    let a = c.args in
    let e = name-none a.post.now a.g (omega arith) in
    (rw e (put-nothing a.out.now a.at), omega (arith, ap length e))

pub bounds-out-at : goal.bounds-out-at
bounds-out-at c = omega (arith, stored (goal.at.bounds-out-at c).After-place_of-p)

pub returns-then-l-eq0 : goal.returns-then-l-eq0
returns-then-l-eq0 c =
    let a = c.args in
    let s = stands (goal.at.returns-then-l-eq0 c).After-place_of-p in
    let l = stored (goal.at.returns-then-l-eq0 c).After-place_of-p in
    (rw (name-missing a.post.now a.g c.place_of-p.result (omega arith) s (omega arith)) (put_byte a.out.now a.at 0 (omega arith)), omega arith)

pub overflow_add-p : goal.overflow_add-p
overflow_add-p c = omega (arith, size-inside c.args.post.now c.place_of-p.result (omega arith))

pub overflow_add-p-2 : goal.overflow_add-p-2
overflow_add-p-2 c = omega (arith, size-inside c.args.post.now c.place_of-p.result (omega arith))

pub copy-requires : goal.copy-requires
copy-requires c =
    let l = stored (goal.at.copy-requires c).After-place_of-p in
    simp (length-take, length-drop) (omega arith)

pub returns : goal.returns
returns c =
    let a = c.args in
    let p = c.place_of-p.result in
    let s = stands (goal.at.returns c).After-place_of-p in
    let l = stored (goal.at.returns c).After-place_of-p in
    let e = name-copied a.post.now a.g p (omega arith) s (omega arith) in
    (c.copy.ensures ∙ rw (e, ← c.size_at-l.ensures), omega arith)

pub slice_bounds-copy-end : goal.slice_bounds-copy-end
slice_bounds-copy-end c = omega (arith, size-inside c.args.post.now c.place_of-p.result (omega arith))
