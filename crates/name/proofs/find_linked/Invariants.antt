-- What the links have passed has another string, and they pass every first use of the bucket.
use Rattle.name.proofs.Links.{Walking}
use Rattle.name.proofs.find_linked.Given as goal

abbrev pub invariant-loop : goal.invariant-loop
invariant-loop l = Walking l.name l.firsts l.links l.heads l.bucket l.row l.next
