-- By whether the table is there.
use mathlib.Core.Path.{ap, ◌∙◌}
use lib.ListN.{length}
use Rattle.model.specs.Res.{map_res}
use Rattle.model.specs.Bytes.{Bytes}
use Rattle.model.specs.Name.{cut_name}
use Rattle.places.specs.Places.{contents}
use Rattle.plan.proofs.Planning.{absent-size, present-size}
use Rattle.plan.proofs.name_size.Goals as goal

pub returns-then-is_none : goal.returns-then-is_none
unfolding contents
returns-then-is_none c = let a = c.args in absent-size a.font.now a.t 8 cut_name c.if-is_none.ensures

pub returns : goal.returns
unfolding contents
returns c =
    let a = c.args in
    c.measure.ensures ∙ ap (λ (b : Bytes). map_res length (cut_name b)) c.table.ensures ∙ present-size a.font.now a.t 8 cut_name c.if-is_none.ensures
