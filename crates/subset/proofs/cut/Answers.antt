-- The walk refuses, or its roster is cut.
use Rattle.std.proofs.Common.{arith}
use Rattle.std.proofs.lemmas.Result.{err_from_is_err_and}
use Rattle.model.specs.Glyf.{width_of}
use Rattle.places.specs.Places.{contents}
use Rattle.plan.specs.Sources.{font_of}
use Rattle.closure.proofs.Final.{glyphs-small}
use Rattle.subset.proofs.Cutting.{offsets, walk_refused, walk_kept, walk-added, from_walk}
use Rattle.subset.proofs.cut.Goals as goal

pub close_over-requires : goal.close_over-requires
unfolding contents
close_over-requires c =
    let a = c.args in
    let o = c.requires.0 in
    (omega (arith, o.number, glyphs-small (width_of (font_of a.font.now a.s).head) (font_of a.font.now a.s).loca), c.requires.1, offsets a.font.now a.s o _ c.table.ensures)

pub rewrite-requires : goal.rewrite-requires
unfolding contents
rewrite-requires c =
    let a = c.args in
    let o = c.requires.0 in
    let v = c.in_ok-walk.ensures in (
      o,
      walk_kept a.font.now a.s a.ids.now a.scratch.now _ o c.requires.1 c.close_over.auto.scratch _ _ c.table.ensures c.table-2.ensures _ v,
      walk-added a.font.now a.s a.ids.now a.scratch.now _ o c.requires.1 c.close_over.auto.scratch _ _ c.table.ensures c.table-2.ensures _ v,
    )

pub returns-in_err-walk : goal.returns-in_err-walk
unfolding contents
returns-in_err-walk c =
    let a = c.args in
    let e = err_from_is_err_and c.from_residual.result c.from_residual.ensures.1 in
    rw (e.1, e.2)
    (walk_refused a.font.now a.s a.ids.now a.scratch.now _ c.requires.0 c.requires.1 c.close_over.auto.scratch _ _ c.table.ensures c.table-2.ensures _ c.in_err-walk.ensures a.out.now)

pub returns : goal.returns
unfolding contents
returns c =
    let a = c.args in
    from_walk a.font.now a.s a.ids.now a.scratch.now _ c.requires.0 c.requires.1 c.close_over.auto.scratch _ _ c.table.ensures c.table-2.ensures _ c.in_ok-walk.ensures
    _ _ _ _ c.rewrite.ensures
