-- A turn writes one table more, unless it is glyf or loca.
use mathlib.Core.Path.{◌≡◌}
use lib.ListN.{length}
use Rattle.tables.specs.Writing.{new_body, others_to}
use Rattle.tables.proofs.Cut.put_others.Given as goal

abbrev pub invariant-loop-k : goal.invariant-loop-k
invariant-loop-k l = (length l.out ≡ length l.initial.out) × (l.out ≡ others_to l.new (new_body l.self) l.initial.out l.k)
