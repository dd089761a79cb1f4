use mathlib.Core.Path.{◌≡◌, ◌∙◌}
use mathlib.Core.List.{flat_map}
use native.Mathlib.Omega.{arith}
use lib.ListN.{length, take, get_or}
use lib.Seq.{take-length, length-take-le}
use Rattle.post.proofs.Grow.{names-turn, name_bounded}
use Rattle.post.proofs.Found.{index_stays, placing_start, placing_turn, placing_number}
use borrow.Author.Rules.{rules}
use Rattle.post.proofs.names_size.Goals as goal

pub loop-j-init : goal.loop-j-init
unfolding flat_map
loop-j-init c =
    let a = c.args in
    (search rules, search rules, placing_start a.post.now a.n a.at a.scratch.now)

pub overflow_add-size : goal.overflow_add-size
overflow_add-size c =
    let a = c.args in
    let l = c.loop-j in
    omega (arith, c.name_size-named.ensures.size, name_bounded a.post.now (get_or l.scratch l.j 0))

pub loop-j-preserved : goal.loop-j-preserved
loop-j-preserved c =
    let a = c.args in
    let l = c.loop-j in
    let z = c.name_size-named.ensures in
    let ids = take a.kept a.scratch.now in
    let len = length-take-le a.kept a.scratch.now (omega arith) in
    let g = placing_number a.post.now a.n a.at l.j a.kept a.scratch.now l.scratch (omega arith) (omega arith) l.invariant.2 in
    let one = rw g at z.size in (
      omega (arith, z.size, name_bounded a.post.now (get_or l.scratch l.j 0)),
      omega (arith, one, names-turn a.post.now ids l.j (omega arith)),
      placing_turn a.post.now a.n a.at l.j c.name_size-named.result.size a.scratch.now l.scratch _ (omega arith) l.invariant.2 z,
    )

pub returns : goal.returns
returns c =
    let a = c.args in
    let l = c.loop-j in
    let ids = take a.kept a.scratch.now in
    let len = length-take-le a.kept a.scratch.now (omega arith) in
    let e : l.j ≡ a.kept = omega arith in
    let f : l.j ≡ length ids = omega arith in
    (l.invariant.1 ∙ rw (f, take-length), rw e at l.invariant.2)

pub name_size-named-requires-clause-index : goal.name_size-named-requires-clause-index
name_size-named-requires-clause-index c =
    let a = c.args in
    let l = c.loop-j in
    (rw (index_stays a.n a.at a.scratch.now l.scratch l.invariant.2.behind a.own (omega arith)) c.requires.index, omega arith)

pub name_size-named-requires-clause-j_in_bounds : goal.name_size-named-requires-clause-j_in_bounds
name_size-named-requires-clause-j_in_bounds c =
    let a = c.args in
    let l = c.loop-j in
    let p = c.requires in
    let g = placing_number a.post.now a.n a.at l.j a.kept a.scratch.now l.scratch (omega arith) (omega arith) l.invariant.2 in
    let len = length-take-le a.kept a.scratch.now (omega arith) in
    omega (arith, g, p.named.0.array, p.named.0.under l.j (omega arith))
