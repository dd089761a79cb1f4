use Rattle.std.proofs.Common.{◌≡◌, ℕ, ◌+◌, ◌*◌, drop, ap, arith}
use Rattle.model.specs.File.{word_sum}
use Rattle.model.proofs.Sums.{sum_4}
use Rattle.read.proofs.checksum.Goals as goal

four : (k : ℕ) → 4 * k + 4 ≡ 4 * (k + 1)
four k = omega arith

pub loop-k-preserved : goal.loop-k-preserved
loop-k-preserved c =
    let b = c.args.b.now in
    let k = c.loop-k.k in
    let more = sum_4 b (4 * k) (omega arith) in
    let next = ap (λ (i : ℕ). word_sum (drop i b)) (four k) in
    omega arith
