-- The places so far stand before the old ones, and the next table starts where those before it end.
use Rattle.std.proofs.Common.{◌≡◌, ◌++◌, drop}
use Rattle.construct.specs.Construct.{count_to, start_at, directory_length, places_to}
use Rattle.construct.proofs.lay_out.Given as goal

abbrev pub invariant-loop-place : goal.invariant-loop-place
invariant-loop-place l =
    (l.at ≡ start_at (directory_length (count_to l.fn.sized 11)) l.fn.sized l.place-index)
    × (l.place-items ≡ places_to l.fn.sized l.place-index ++ drop l.place-index l.fn.sized.places)
