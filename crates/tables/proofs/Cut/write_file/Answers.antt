-- All tables are written, in an order that does not matter, so the file can be finished; what is left is its bytes over the output as it was.
use mathlib.Core.Path.{◌∙◌}
use Rattle.tables.proofs.Standing.{others-written, all-ready, all_finished}
use Rattle.tables.proofs.Cut.write_file.Goals as goal

pub finish-requires : goal.finish-requires
finish-requires c =
    let q = c.requires in
    let out = c.args.out.now in
    all-ready q.0 out q.1 _ (others-written q.0 out q.1 _ _ c.put_outlines.ensures c.put_others.ensures)

pub returns : goal.returns
returns c =
    let q = c.requires in
    let out = c.args.out.now in
    c.finish.ensures
    ∙ all_finished q.0 out q.1 _ (others-written q.0 out q.1 _ _ c.put_outlines.ensures c.put_others.ensures)
