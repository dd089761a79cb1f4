-- Two rows side by side are one run of zeros.
use Rattle.std.proofs.Common.{inr, ◌≡◌, ◌∙◌, ap, ℕ, ◌+◌, ◌*◌, arith, replicate}
use Rattle.model.specs.Bytes.{put}
use Rattle.remapper.proofs.Clears.{sparse_put, more-zeros}
use Rattle.remapper.proofs.clear_links.Goals as goal

pub clear_row-requires-2 : goal.clear_row-requires-2
clear_row-requires-2 c =
    let pre = c.requires in
    sparse_put _ (2 * c.args.n) c.args.n (pre.2.links c.if-written.false).1 c.clear_row.ensures (omega arith) (omega (arith, pre.1)) (inr (omega arith))

pub returns : goal.returns
returns c =
    let a = c.args in
    let pre = c.requires in
    let second : 3 * a.n ≡ 2 * a.n + a.n = omega arith in
    let both : a.n + a.n ≡ 2 * a.n = omega arith in
    more-zeros a.s.now c.clear_row.new.s _ (2 * a.n) a.n a.n (omega (arith, pre.1)) c.clear_row.ensures
    (c.clear_row-2.ensures ∙ ap (λ (x : ℕ). put c.clear_row.new.s x (replicate a.n 0)) second)
    ∙ ap (λ (k : ℕ). put a.s.now (2 * a.n) (replicate k 0)) both
