-- The part that is copied is the run's.
use Rattle.std.proofs.Common.{ap, ◌∙◌, ℕ, ◌-◌, take, drop}
use native.Mathlib.Nat.{add-sub_cancel_left}
use Rattle.model.specs.Bytes.{put}
use Rattle.glyf.specs.Pieces.{with_run}
use Rattle.glyf.proofs.copy_run.Goals as goal

pub returns : goal.returns
unfolding with_run
returns c =
    let a = c.args in
    c.copy.ensures
    ∙ ap (λ (m : ℕ). put a.out.now (a.run.end - a.run.size) (take m (drop a.run.from a.glyf.now))) (add-sub_cancel_left a.run.from a.run.size)
