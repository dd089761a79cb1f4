use Prim.Native.Nat.{◌+◌}
use mathlib.Core.Path.{sym, ◌∙◌}
use mathlib.Core.List.{flat_map}
use native.Mathlib.Omega.{arith}
use lib.ListN.{get_or}
use Rattle.model.specs.Bytes.{put}
use Rattle.model.proofs.Bytes.{over_nil}
use Rattle.post.specs.Post.{name_bytes}
use Rattle.post.proofs.Grow.{names-turn, names-within, names_write}
use borrow.Author.Rules.{rules}
use Rattle.post.proofs.write_names.Goals as goal

pub loop-j-init : goal.loop-j-init
unfolding flat_map
loop-j-init c = (search rules, sym (over_nil c.args.out.now))

pub loop-j-preserved : goal.loop-j-preserved
loop-j-preserved c =
    let a = c.args in
    let l = c.loop-j in
    let t = names-turn a.post.now a.ids.now l.j c.loop-j-test.true in (
      omega arith,
      ◌∙◌ {b = put l.out l.at (name_bytes a.post.now (get_or a.ids.now l.j 0))} c.put_name-at.ensures.0 (names_write a.post.now a.ids.now a.out.now l.out l.j l.at c.loop-j-test.true l.invariant.0 l.invariant.1),
    )

pub put_name-at-requires-clause-g_in_bounds_2 : goal.put_name-at-requires-clause-g_in_bounds_2
put_name-at-requires-clause-g_in_bounds_2 c =
    let a = c.args in
    let l = c.loop-j in
    let t = names-turn a.post.now a.ids.now l.j c.loop-j-test.true in
    omega (arith, names-within a.post.now a.ids.now (l.j + 1))
