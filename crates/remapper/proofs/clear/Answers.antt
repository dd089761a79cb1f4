use Rattle.std.proofs.Common.{◌≡◌, ℕ, ◌+◌, ◌*◌, ◌-◌, ◌/◌, ap, ◌∙◌, arith, replicate}
use Rattle.model.specs.Bytes.{put}
use Rattle.remapper.proofs.Clears.{more-zeros, zeros-there}
use Rattle.remapper.proofs.clear.Goals as goal

pub loop-k-init : goal.loop-k-init
loop-k-init c = zeros-there c.args.s.now c.args.at 0 (omega (arith, c.requires)) (λ j h. absurd (omega arith))

pub loop-k-preserved : goal.loop-k-preserved
loop-k-preserved c =
    let a = c.args in
    let l = c.loop-k in
    let next : 512 * l.k + 512 ≡ 512 * (l.k + 1) = omega arith in
    more-zeros a.s.now l.s _ a.at (512 * l.k) 512 (omega arith) l.invariant c.clear_block.ensures
    ∙ ap (λ (k : ℕ). put a.s.now a.at (replicate k 0)) next

pub returns : goal.returns
returns c =
    let a = c.args in
    let l = c.loop-k in
    let done : l.k ≡ a.count / 512 = omega arith in
    let all : 512 * l.k + (a.count - 512 * l.k) ≡ a.count = omega arith in
    more-zeros a.s.now l.s _ a.at (512 * l.k) (a.count - 512 * l.k) (omega arith) l.invariant (rw done c.zeros-2.ensures)
    ∙ ap (λ (k : ℕ). put a.s.now a.at (replicate k 0)) all
