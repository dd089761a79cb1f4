use Rattle.std.proofs.Common.{◌≡◌, ◌+◌, ◌/◌, refl, arith}
use Rattle.name.specs.Hashed.{words_of}
use Rattle.name.proofs.Links.{words-next}
use Rattle.name.proofs.hashed.words.Goals as goal

pub loop-k-init : goal.loop-k-init
unfolding words_of
loop-k-init c = (refl, omega arith, refl)

pub loop-k-preserved : goal.loop-k-preserved
loop-k-preserved c =
    let l = c.loop-k in
    let t = words-next c.args.s.now l.k l.invariant.0 in
    (omega (arith, l.invariant.0), omega arith, cc)

pub returns : goal.returns
returns c =
    let l = c.loop-k in
    let e : l.k / 8 ≡ c.args.n / 8 = omega arith in
    rw e at l.invariant.2

-- the turn was the last one
pub returns-2 : goal.returns-2
returns-2 c =
    let l = c.loop-k in
    let t = words-next c.args.s.now l.k l.invariant.0 in
    let e : (l.k + 8) / 8 ≡ c.args.n / 8 = omega arith in
    cc
