-- By whether the table is there.
use native.Mathlib.Omega.{arith}
use lib.Dec.{lit<}
use Rattle.face.proofs.Gather.{length-content}
use Rattle.plan.proofs.Rostered.{some, few, fewer, most}
use Rattle.plan.proofs.Planning.{post-absent, post-present}
use Rattle.plan.proofs.post_size.Goals as goal

pub returns-then-is_none : goal.returns-then-is_none
returns-then-is_none c = let a = c.args in post-absent a.font.now a.s.tables a.s.n a.kept a.scratch.now c.if-is_none.ensures

pub returns : goal.returns
returns c =
    let a = c.args in
    post-present a.font.now a.s.tables a.s.n a.kept a.scratch.now _ _ _ c.if-is_none.ensures c.table.ensures c.measure.ensures

pub measure-requires-clause-kept_bound : goal.measure-requires-clause-kept_bound
measure-requires-clause-kept_bound c =
    let a = c.args in
    let p = c.requires in
    let z = some a.font.now a.s a.scratch.now a.kept p.0 p.1 in
    let f = fewer a.font.now a.s a.scratch.now a.kept p.0 p.1 in
    let n = most a.font.now a.s a.scratch.now a.kept p.0 p.1 in
    let k = p.0.within 9 (lit< tt) in
    (few a.font.now a.s a.scratch.now a.kept p.0 p.1, f, omega arith, n, p.1.space)

pub measure-requires-clause-post_len_bound : goal.measure-requires-clause-post_len_bound
measure-requires-clause-post_len_bound c =
    let a = c.args in
    let p = c.requires in
    let z = some a.font.now a.s a.scratch.now a.kept p.0 p.1 in
    let f = fewer a.font.now a.s a.scratch.now a.kept p.0 p.1 in
    let n = most a.font.now a.s a.scratch.now a.kept p.0 p.1 in
    let k = p.0.within 9 (lit< tt) in
    rw c.table.ensures (omega (arith, length-content a.font.now a.s.tables p.0.within 9 (lit< tt), k.1))
