use mathlib.Core.Path.{sym, ap, ◌∙◌}
use Prim.Native.Nat.{◌+◌, ◌*◌}
use lib.ListN.{drop}
use native.Mathlib.Omega.{arith}
use Rattle.model.specs.Bytes.{Bytes}
use Rattle.model.specs.Font.{row_of, rows}
use Rattle.model.proofs.Parts.{tail}
use Rattle.face.specs.Opening.{noted_row, noted_rows}
use Rattle.face.proofs.Found.{noted_on, noted_end}
use Rattle.face.proofs.find_places.Goals as goal

pub loop-i-preserved : goal.loop-i-preserved
loop-i-preserved c =
    let a = c.args in
    let l = c.loop-i in
    l.invariant ∙ noted_on a.font.now a.count a.dir.now l.i l.t (omega arith) ∙ ap (noted_rows a.font.now (drop (l.i + 1) (rows a.count a.dir.now))) (sym (c.noted-t.ensures ∙ ap (λ (b : Bytes). noted_row a.font.now (row_of b) l.t) (tail (16 * l.i) a.dir.now)))

pub returns : goal.returns
returns c =
    let a = c.args in
    let l = c.loop-i in
    sym (l.invariant ∙ noted_end a.font.now a.count a.dir.now l.i l.t (omega arith))
