-- `lines::Reading::feed` meets its contract: a text read to a place, and a byte more.
use Rattle.std.proofs.Common.{length, refl, arith}
use Rattle.lines.specs.Ids.{state_of, run}
use Rattle.lines.proofs.Machine.{run-turn}
use Rattle.lines.proofs.Reading.feed.Goals as goal

pub loop-byte-init : goal.loop-byte-init
unfolding run
loop-byte-init c = refl

pub loop-byte-preserved : goal.loop-byte-preserved
loop-byte-preserved c =
    let a = c.args in
    let t = state_of a.self.now a.ids.now in
    let e = run-turn (length a.ids.now) t a.text.now c.loop-byte.byte-index (omega arith) in
    cc
