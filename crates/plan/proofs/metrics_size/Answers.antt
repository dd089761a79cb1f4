-- The tables are the font's.
use mathlib.Core.Path.{ap₂, ◌∙◌}
use native.Mathlib.Omega.{arith}
use lib.ListN.{take}
use Rattle.model.specs.Res.{map_res}
use Rattle.model.specs.Bytes.{Bytes}
use Rattle.model.specs.Metrics.{metrics}
use Rattle.places.specs.Places.{contents}
use Rattle.hmtx.specs.Measures.{sizes}
use Rattle.plan.proofs.Rostered.{size, some, few}
use Rattle.plan.proofs.metrics_size.Goals as goal

pub measure-requires : goal.measure-requires
unfolding contents
measure-requires c =
    let a = c.args in
    let p = c.requires in
    let l = size a.font.now a.s a.scratch.now a.kept p.0 p.1 in
    (rw c.table.ensures p.0.long.hhea, omega (arith, l, some a.font.now a.s a.scratch.now a.kept p.0 p.1), omega (arith, l, few a.font.now a.s a.scratch.now a.kept p.0 p.1))

pub returns : goal.returns
unfolding contents
returns c =
    let a = c.args in
    c.measure.ensures ∙ ap₂ (λ (h m : Bytes). map_res sizes (metrics h m (take a.kept a.scratch.now))) c.table.ensures c.table-2.ensures
