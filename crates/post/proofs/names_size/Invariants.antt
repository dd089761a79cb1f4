-- The invariant: the names of the roster places so far are found, and the size is that of their bytes; a name is no longer than the table, so that the sum fits.
use Prim.Native.Nat.{◌≤◌, ◌*◌}
use mathlib.Core.Path.{◌≡◌}
use mathlib.Core.List.{flat_map}
use lib.ListN.{length, take}
use Rattle.post.specs.Post.{name_bytes}
use Rattle.post.specs.Found.{Placing}
use Rattle.post.proofs.names_size.Given as goal

abbrev pub invariant-loop-j : goal.invariant-loop-j
invariant-loop-j l = (l.size ≤ 4294967296 * l.j) × (l.size ≡ length (flat_map (name_bytes l.post) (take l.j (take l.kept l.initial.scratch)))) × Placing l.post l.n l.at l.j l.initial.scratch l.scratch
