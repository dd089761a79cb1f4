-- By the version: a copy, or all tests passed and the new table.
use Rattle.model.specs.Bytes.{word32}
use mathlib.Core.Path.{◌≡◌, sym, ◌∙◌}
use native.Mathlib.Omega.{arith}
use lib.ListN.{take, length-take}
use Rattle.model.proofs.Bytes.{put-zero}
use Rattle.post.specs.Post.{room_of}
use Rattle.post.proofs.Found.{start-bound}
use Rattle.post.proofs.Cut.{passed-long, passed-copied, passed-named, passed-cut}
use Rattle.post.proofs.write.Goals as goal
use Rattle.post.proofs.write.Goals.{Then-u32_at-ne131072, Else-u32_at-ne131072}

-- the version that was read
other_version : (c : Then-u32_at-ne131072) → word32 c.args.post.now 0 ≡ 0x00020000 → ⊥
other_version c = λ e. c.if-u32_at-ne131072.true (c.u32_at.ensures ∙ e)

new_version : (c : Else-u32_at-ne131072) → word32 c.args.post.now 0 ≡ 0x00020000
new_version c = sym c.u32_at.ensures ∙ c.if-u32_at-ne131072.false

pub u32_at-requires : goal.u32_at-requires
u32_at-requires c =
    let a = c.args in
    passed-long a.post.now (take a.kept a.scratch.now) c.requires.scratch_value

pub copy-requires : goal.copy-requires
copy-requires c =
    let a = c.args in
    let n = other_version (goal.at.copy-requires c).Then-u32_at-ne131072 in
    let e = passed-copied a.post.now (take a.kept a.scratch.now) c.requires.scratch_value n in
    omega (arith, rw e at c.requires.scratch_in_bounds)

pub returns-then-u32_at-ne131072 : goal.returns-then-u32_at-ne131072
returns-then-u32_at-ne131072 c =
    let a = c.args in
    let n = other_version (goal.at.returns-then-u32_at-ne131072 c).Then-u32_at-ne131072 in
    rw (passed-copied a.post.now (take a.kept a.scratch.now) c.requires.scratch_value n) (c.copy.ensures ∙ put-zero a.out.now a.post.now)

pub offset_bounds-scratch-from : goal.offset_bounds-scratch-from
offset_bounds-scratch-from c =
    let a = c.args in
    omega (arith, c.room_start-from.ensures, start-bound c.placed-found.result a.n a.kept)

pub slice_bounds-write_cut-count : goal.slice_bounds-write_cut-count
slice_bounds-write_cut-count c =
    let a = c.args in
    omega (arith, c.room_start-from.ensures, start-bound c.placed-found.result a.n a.kept)

pub returns : goal.returns
returns c =
    let a = c.args in
    let v = new_version (goal.at.returns c).Else-u32_at-ne131072 in
    rw (passed-cut a.post.now (take a.kept a.scratch.now) c.requires.scratch_value v) c.write_cut.ensures

pub write_cut-requires-clause-named : goal.write_cut-requires-clause-named
write_cut-requires-clause-named c =
    let a = c.args in
    let v = new_version (goal.at.write_cut-requires-clause-named c).Else-u32_at-ne131072 in
    passed-named a.post.now (take a.kept a.scratch.now) c.requires.scratch_value v

pub write_cut-requires-clause-located : goal.write_cut-requires-clause-located
unfolding room_of
write_cut-requires-clause-located c =
    let a = c.args in
    let v = new_version (goal.at.write_cut-requires-clause-located c).Else-u32_at-ne131072 in
    rw (c.room_start-from.ensures, c.placed-found.ensures) (c.requires.indexed.index v)

pub write_cut-requires-clause-ids_len_bound : goal.write_cut-requires-clause-ids_len_bound
write_cut-requires-clause-ids_len_bound c =
    let a = c.args in
    let ids = take a.kept a.scratch.now in
    let v = new_version (goal.at.write_cut-requires-clause-ids_len_bound c).Else-u32_at-ne131072 in
    (simp length-take (omega arith), omega (arith, rw (passed-cut a.post.now ids c.requires.scratch_value v) at c.requires.scratch_in_bounds))

pub slice_bounds-write_cut-start : goal.slice_bounds-write_cut-start
slice_bounds-write_cut-start c =
    let a = c.args in
    omega (arith, c.room_start-from.ensures, start-bound c.placed-found.result a.n a.kept)
