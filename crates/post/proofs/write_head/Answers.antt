-- Three runs of bytes, one behind the other.
use mathlib.Core.Path.{refl}
use native.Mathlib.Omega.{arith}
use lib.ListN.{length-take, length, take}
use Rattle.model.proofs.Parts.{two-parts}
use Rattle.model.specs.Bytes.{be16}
use mathlib.Core.List.{◌++◌}
use Rattle.post.specs.Post.{head_bytes, index_bytes}
use Rattle.post.proofs.Grow.{length-index_bytes, start-written, length-start}
use Rattle.post.proofs.write_head.Goals as goal

pub slice_bounds-copy-end : goal.slice_bounds-copy-end
slice_bounds-copy-end c =
    let p = c.requires.named.array in
    simp length-take (omega arith)

pub copy-requires : goal.copy-requires
copy-requires c =
    let p = c.requires.named.array in
    simp length-take (omega arith)

pub returns : goal.returns
unfolding head_bytes
returns c =
    let a = c.args in
    let b = a.post.now in
    let ids = a.ids.now in
    let h = c.requires.named.array in
    two-parts a.out.now c.put_u16.new.out c.write_indexes.new.out (take 32 b ++ be16 (length ids)) (index_bytes b ids) 34 _
    (start-written b ids a.out.now c.copy.new.out c.put_u16.new.out (omega arith) c.copy.ensures c.put_u16.ensures)
    (length-start b ids (omega arith)) refl c.write_indexes.ensures (omega (arith, length-index_bytes b ids))
