-- The first refusal of the three decides; where none refuses, every length is known.
use Rattle.std.proofs.lemmas.Result.{err_from_is_err_and}
use Rattle.plan.proofs.Rostered.{few}
use Rattle.plan.proofs.Sizes.{found}
use Rattle.plan.proofs.Planning.{metrics_refused, name_refused, post_refused, all_passed}
use Rattle.plan.proofs.measure.Goals as goal

pub plan_sizes-requires : goal.plan_sizes-requires
plan_sizes-requires c = let a = c.args in few a.font.now a.s a.scratch.now a.kept c.requires.0 c.requires.1

pub returns-in_err-metrics : goal.returns-in_err-metrics
returns-in_err-metrics c = let a = c.args in let p = err_from_is_err_and c.from_residual.result c.from_residual.ensures.1 in rw (p.1, p.2) (metrics_refused a.font.now a.s a.scratch.now a.kept c.requires.0 c.requires.1 _ c.in_err-metrics.ensures)

pub returns-in_err-name : goal.returns-in_err-name
returns-in_err-name c =
    let a = c.args in
    let p = err_from_is_err_and c.from_residual-in_err-name.result c.from_residual-in_err-name.ensures.1 in
    rw (p.1, p.2) (name_refused a.font.now a.s a.scratch.now a.kept c.requires.0 c.requires.1 _ _ c.in_ok-metrics.ensures _ c.in_err-name.ensures)

pub returns-in_err-post : goal.returns-in_err-post
returns-in_err-post c =
    let a = c.args in
    let p = err_from_is_err_and c.from_residual-in_err-post.result c.from_residual-in_err-post.ensures.1 in
    rw (p.1, p.2)
    (post_refused a.font.now a.s a.scratch.now a.kept c.requires.0 c.requires.1 _ _ c.in_ok-metrics.ensures _ c.in_ok-name.ensures _ _ c.in_err-post.ensures)

pub returns : goal.returns
returns c =
    let a = c.args in
    let p = c.requires in
    let m = c.in_ok-metrics.ensures in
    let n = c.in_ok-name.ensures in
    let z = c.in_ok-post.ensures in
    all_passed a.font.now a.s a.scratch.now a.kept p.0 p.1 _ _ m _ n _ _ z _
    (found a.font.now a.s a.scratch.now a.kept p.0 p.1 _ _ _ _ a.sums p.2 m n z.size _ c.plan_sizes.ensures)
