-- The invariant: the chains that are left are eight at least and lie within all, and the first of them is not behind name k.
use Prim.Native.Nat.{◌+◌, ◌*◌, ◌≤◌}
use lib.ListN.{get_or}
use Rattle.post.proofs.chains.chain_of.Given as goal

abbrev pub invariant-loop-more : goal.invariant-loop-more
invariant-loop-more l = (8 ≤ l.more) × (l.i + l.more ≤ get_or l.room 2 0) × (get_or l.room (6 + 4 * l.i) 0 ≤ l.k)

abbrev pub decreases-loop-more : goal.decreases-loop-more
decreases-loop-more l = l.more
