-- The strings differ, so that none is found: each has a place of its own.
use Rattle.std.proofs.Common.{◌≡◌, Err, arith}
use Rattle.name.proofs.Order.{sort-nowhere, sort-next}
use Rattle.name.proofs.sort.Goals.{in-Ok, in-Ok-2}
use Rattle.name.proofs.sort.Goals as goal

pub insert-requires : goal.insert-requires
insert-requires c =
    let l = c.loop-k in
    let f = c.find_earlier in
    let n = sort-nowhere c.requires c.loop-k-test.true l.invariant f.ensures in
    let e : f.result ≡ Err c.match-find_earlier.place = elim c.match-find_earlier.branch [ in-Ok w ↦ n _ _ w.in-Ok.is w.place-is | in-Ok-2 w ↦ n _ _ w.in-Ok.is w.place-is ] in
    (omega (arith, (f.ensures.nowhere _ e).within), omega (arith, c.requires.places), omega (arith, c.requires.few))

pub loop-k-preserved : goal.loop-k-preserved
loop-k-preserved c =
    let l = c.loop-k in
    let f = c.find_earlier in
    let n = sort-nowhere c.requires c.loop-k-test.true l.invariant f.ensures in
    let e : f.result ≡ Err c.match-find_earlier.place = elim c.match-find_earlier.branch [ in-Ok w ↦ n _ _ w.in-Ok.is w.place-is | in-Ok-2 w ↦ n _ _ w.in-Ok.is w.place-is ] in
    sort-next c.requires c.loop-k-test.true l.invariant f.ensures _ e _ c.insert.ensures
