-- The links, the numbers and what is left of the roster's row are one run of zeros, written from the back.
use Rattle.std.proofs.Common.{inl, ◌≡◌, ◌∙◌, ap, ℕ, ◌+◌, ◌*◌, ◌-◌, arith, replicate}
use Rattle.model.specs.Bytes.{put}
use Rattle.remapper.proofs.Clears.{sparse_put, zeros-before}
use Rattle.remapper.proofs.sweep.Goals as goal

pub clear_row-requires : goal.clear_row-requires
clear_row-requires c =
    let a = c.args in
    let pre = c.requires in
    sparse_put _ (2 * a.n) (2 * a.n) pre.2.numbers c.clear_links.ensures (omega arith) (omega (arith, pre.1)) (inl (omega arith))

pub returns : goal.returns
returns c =
    let a = c.args in
    let pre = c.requires in
    let few = pre.2.numbers.few in
    let second : 2 * a.n ≡ a.n + a.n = omega arith in
    -- the numbers and the links
    let r = zeros-before a.s.now c.clear_links.new.s c.clear_row.new.s a.n a.n (2 * a.n) (omega (arith, pre.1))
    (c.clear_links.ensures ∙ ap (λ (x : ℕ). put a.s.now x (replicate (2 * a.n) 0)) second) c.clear_row.ensures in
    let behind : a.n ≡ a.kept + (a.n - a.kept) = omega (arith, few) in
    let all : (a.n - a.kept) + (a.n + 2 * a.n) ≡ 4 * a.n - a.kept = omega (arith, few) in
    zeros-before a.s.now c.clear_row.new.s _ a.kept (a.n - a.kept) (a.n + 2 * a.n) (omega (arith, few, pre.1))
    (r ∙ ap (λ (x : ℕ). put a.s.now x (replicate (a.n + 2 * a.n) 0)) behind) c.clear.ensures
    ∙ ap (λ (k : ℕ). put a.s.now a.kept (replicate k 0)) all
