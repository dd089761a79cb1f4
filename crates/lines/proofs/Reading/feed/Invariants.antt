use Rattle.std.proofs.Common.{◌≡◌, length, take}
use Rattle.lines.specs.Ids.{state_of, run}
use Rattle.lines.proofs.Reading.feed.Given as goal

abbrev pub invariant-loop-byte : goal.invariant-loop-byte
invariant-loop-byte l = state_of l.self l.ids ≡ run (length l.initial.ids) (state_of l.initial.self l.initial.ids) (take l.byte-index l.text)
