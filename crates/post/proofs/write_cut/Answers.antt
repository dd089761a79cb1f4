-- Two runs of bytes, one behind the other.
use mathlib.Core.Path.{refl}
use mathlib.Core.List.{flat_map}
use native.Mathlib.Omega.{arith}
use lib.ListN.{length-take, length-drop}
use Rattle.model.proofs.Parts.{two-parts}
use Rattle.post.specs.Post.{head_bytes, post_bytes, name_bytes}
use Rattle.post.proofs.Grow.{length-head_bytes, length-post_bytes}
use Rattle.post.proofs.write_cut.Goals as goal

pub slice_bounds-write_names-count : goal.slice_bounds-write_names-count
slice_bounds-write_names-count c =
    let a = c.args in
    let p = c.requires in
    omega (arith, length-post_bytes a.post.now a.ids.now (omega (arith, p.named.array)))

pub returns : goal.returns
unfolding post_bytes
returns c =
    let a = c.args in
    let b = a.post.now in
    let ids = a.ids.now in
    let h = c.requires.named.array in
    two-parts a.out.now c.write_head.new.out c.write_names.new.out (head_bytes b ids) (flat_map (name_bytes b) ids) _ _
    c.write_head.ensures (length-head_bytes b ids (omega arith)) refl c.write_names.ensures (omega (arith, length-post_bytes b ids (omega arith)))

pub write_head-requires-clause-ids_len_bound : goal.write_head-requires-clause-ids_len_bound
write_head-requires-clause-ids_len_bound c =
    let a = c.args in
    let p = c.requires in
    (p.ids_len_bound.0, omega (arith, length-post_bytes a.post.now a.ids.now (omega (arith, p.named.array))))

pub write_names-requires-clause-ids_in_bounds : goal.write_names-requires-clause-ids_in_bounds
write_names-requires-clause-ids_in_bounds c =
    let a = c.args in
    let p = c.requires in
    simp (length-take, length-drop) (omega (arith, length-post_bytes a.post.now a.ids.now (omega (arith, p.named.array))))

pub slice_bounds-write_names-start : goal.slice_bounds-write_names-start
slice_bounds-write_names-start c =
    let a = c.args in
    omega (arith, length-post_bytes a.post.now a.ids.now (omega (arith, c.requires.named.array)))
