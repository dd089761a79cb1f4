use Prim.Native.Nat.{◌+◌}
use mathlib.Core.Path.{sym, ◌∙◌}
use mathlib.Core.List.{flat_map}
use native.Mathlib.Omega.{arith}
use Rattle.model.proofs.Bytes.{over_nil}
use Rattle.post.specs.Post.{index_bytes, stored_names}
use Rattle.post.proofs.Grow.{stored-kept, stored-new, stored-within, index_kept, index-new}
use borrow.Author.Rules.{rules}
use Rattle.post.proofs.write_indexes.Goals as goal
use Rattle.post.proofs.write_indexes.Goals.{then-i-gt257, else-i-gt257}

pub loop-j-init : goal.loop-j-init
unfolding flat_map index_bytes stored_names
loop-j-init c = (search rules, sym (over_nil c.args.out.now))

pub overflow_add-next : goal.overflow_add-next
overflow_add-next c =
    let a = c.args in
    omega (arith, stored-within a.post.now a.ids.now c.loop-j.j, c.requires.named.few)

pub overflow_cast-i : goal.overflow_cast-i
overflow_cast-i c =
    let a = c.args in
    let l = c.loop-j in
    elim c.if-i-gt257.branch [
      | then-i-gt257 w ↦ omega (arith, c.requires.named.few, stored-within a.post.now a.ids.now (l.j + 1), stored-new a.post.now a.ids.now l.j c.loop-j-test.true (omega arith))
      | else-i-gt257 w ↦ omega arith
    ]

pub loop-j-preserved : goal.loop-j-preserved
loop-j-preserved c =
    let a = c.args in
    let l = c.loop-j in
    let lt = c.loop-j-test.true in (
      elim c.if-i-gt257.branch [
        | then-i-gt257 w ↦ omega (arith, stored-new a.post.now a.ids.now l.j lt (omega arith))
        | else-i-gt257 w ↦ omega (arith, stored-kept a.post.now a.ids.now l.j lt (omega arith))
      ],
      c.put_u16.ensures ∙ elim c.if-i-gt257.branch [
        | then-i-gt257 w ↦ rw (w.i-is, l.invariant.0) (index-new a.post.now a.ids.now a.out.now l.out l.j lt l.invariant.1 (omega arith))
        | else-i-gt257 w ↦ rw (w.i-is, c.index_at-i.ensures.0) (index_kept a.post.now a.ids.now a.out.now l.out l.j lt l.invariant.1 (omega arith))
      ],
    )
