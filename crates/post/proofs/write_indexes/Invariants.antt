-- The invariant: out holds the indexes so far, and `next` is 258 and as many as were stored.
use Prim.Native.Nat.{◌+◌}
use mathlib.Core.Path.{◌≡◌}
use lib.ListN.{length, take}
use Rattle.model.specs.Bytes.{over}
use Rattle.post.specs.Post.{index_bytes, stored_names}
use Rattle.post.proofs.write_indexes.Given as goal

abbrev pub invariant-loop-j : goal.invariant-loop-j
invariant-loop-j l = (l.next ≡ 258 + length (stored_names l.post (take l.j l.ids))) × (l.out ≡ over (index_bytes l.post (take l.j l.ids)) l.initial.out)
