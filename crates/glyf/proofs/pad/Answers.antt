-- In a long loca, or behind an even length, nothing is put; else the run is copied, and a zero behind it.
use Rattle.glyf.proofs.Runs.{moved_nothing, moved_zero}
use Rattle.glyf.proofs.pad.Goals as goal
use Rattle.glyf.proofs.pad.Goals.{then-wide-via-then-wide, then-wide-via-else-wide+then-size-eq0}

pub returns-then-wide : goal.returns-then-wide
returns-then-wide c =
    moved_nothing c.requires.copied (elim c.then-wide.branch [
      | then-wide-via-then-wide w ↦ rw w.if-wide.true
      | then-wide-via-else-wide+then-size-eq0 w ↦ rw (w.if-wide.false, w.if-size-eq0.true)
    ])

pub returns : goal.returns
returns c =
    let a = c.args in
    moved_zero c.requires.copied a.wide a.size c.if-wide.false c.if-size-eq0.false c.requires.room _ _ c.copy_run.ensures c.zeros.ensures
