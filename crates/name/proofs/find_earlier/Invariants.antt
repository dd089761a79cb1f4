-- What stands below `low` comes before the string, what stands from `high` on behind it; a comparison with the middle one decides for its half.
use Rattle.std.proofs.Common.{◌≡◌, ◌-◌}
use Rattle.name.specs.Rows.{string_at, Between, Alike}
use Rattle.name.proofs.find_earlier.Given as goal

abbrev pub invariant-loop-k : goal.invariant-loop-k
invariant-loop-k l = Alike l.name l.at l.start l.size l.k × (l.low ≡ l.initial.low) × (l.high ≡ l.initial.high)

abbrev pub decreases-loop-k : goal.decreases-loop-k
decreases-loop-k l = l.size - l.k

abbrev pub invariant-earlier : goal.invariant-earlier
invariant-earlier l = Between l.name l.firsts l.order l.used (string_at l.name l.row) l.low l.high

abbrev pub decreases-earlier : goal.decreases-earlier
decreases-earlier l = l.high - l.low
