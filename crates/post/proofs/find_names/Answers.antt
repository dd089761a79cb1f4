-- The index stands in front of the places, or it is left to the other function to find the names.
use Prim.Native.Nat.{ℕ, ◌+◌, ◌*◌, ◌-◌, ◌≤◌, ◌<◌}
use mathlib.Core.Path.{◌≡◌, sym, ◌∙◌}
use mathlib.Core.List.{List}
use native.Mathlib.Omega.{arith}
use lib.ListN.{length, take, drop, length-take, length-drop}
use borrow.Author.Rules.{rules}
use borrow.Rule.Slice.PartMut.{put_mid}
use Rattle.model.specs.Bytes.{part}
use Rattle.post.specs.Post.{placed_for}
use Rattle.post.specs.Found.{places_at, Behind}
use Rattle.post.proofs.Found.{at_bounds, at_room, behind-roster, filled_behind, filled_index, sought}
use Rattle.post.proofs.find_names.Goals as goal
use Rattle.post.proofs.find_names.Goals.{After-places_at-at, After-fill}

-- where the places begin
at_holds : (c : After-places_at-at) → (c.args.n < c.places_at-at.result) × (c.places_at-at.result ≤ 2 * c.args.n) × (c.places_at-at.result < 2 * c.args.n → c.places_at-at.result + c.args.kept ≤ 2 * c.args.n)
at_holds c =
    let a = c.args in
    let i : c.places_at-at.result ≡ places_at (placed_for (length a.post.now) a.n a.kept) a.n a.kept = rw c.placed.ensures at c.places_at-at.ensures in
    let q = rw (← i) at (at_bounds (placed_for (length a.post.now) a.n a.kept) a.n a.kept (omega arith)) in
    (rw (← i) at (at_room (length a.post.now) a.n a.kept (omega arith) (sym c.many.ensures ∙ c.if-many.false)), q.1, q.2)

-- the index put in front of them
record Filled (s room : List ℕ) (n at : ℕ) : Type 0 where
  behind : Behind n n s (put_mid (2 * n) (2 * at - 2 * n) s room)
  index : part (put_mid (2 * n) (2 * at - 2 * n) s room) (2 * n) (2 * at - 2 * n) ≡ room

filled : (c : After-fill) → c.args.n < c.places_at-at.result → c.places_at-at.result ≤ 2 * c.args.n → Filled c.args.scratch.now c.fill.new.room c.args.n c.places_at-at.result
filled c h k =
    let n = c.args.n in
    let at = c.places_at-at.result in
    let s = c.args.scratch.now in
    let room = c.fill.new.room in
    let e : length room ≡ length (take (2 * at - 2 * n) (drop (2 * n) s)) = search rules in
    record { behind = filled_behind s room n at (omega arith) k (omega arith) e; index = filled_index s room n at (omega arith) k (omega arith) e }

pub overflow_mul-at : goal.overflow_mul-at
overflow_mul-at c = let q = at_holds (goal.at.overflow_mul-at c).After-places_at-at in omega (arith, q.1)

pub slice_bounds-fill-count : goal.slice_bounds-fill-count
slice_bounds-fill-count c = let q = at_holds (goal.at.slice_bounds-fill-count c).After-places_at-at in omega (arith, q.0)

pub slice_bounds-fill-start : goal.slice_bounds-fill-start
slice_bounds-fill-start c = let q = at_holds (goal.at.slice_bounds-fill-start c).After-places_at-at in omega (arith, q.0)

pub slice_bounds-fill-end : goal.slice_bounds-fill-end
slice_bounds-fill-end c = let q = at_holds (goal.at.slice_bounds-fill-end c).After-places_at-at in omega (arith, q.1)

pub fill-requires-clause-want_bound : goal.fill-requires-clause-want_bound
fill-requires-clause-want_bound c =
    let q = at_holds (goal.at.fill-requires-clause-want_bound c).After-places_at-at in
    (c.requires.named.1, simp (length-take, length-drop) (omega (arith, q.0, q.1)), simp (length-take, length-drop) (omega (arith, q.0, q.1)))

pub names_size-requires-clause-named : goal.names_size-requires-clause-named
names_size-requires-clause-named c =
    let q = at_holds (goal.at.names_size-requires-clause-named c).After-places_at-at in
    let f = filled (goal.at.names_size-requires-clause-named c).After-fill q.0 q.1 in
    (rw (behind-roster c.args.n c.args.n c.args.scratch.now _ f.behind c.args.kept (omega arith)) c.requires.named.0, c.requires.named.2)

pub names_size-requires-clause-index : goal.names_size-requires-clause-index
names_size-requires-clause-index c =
    let q = at_holds (goal.at.names_size-requires-clause-index c).After-places_at-at in
    let f = filled (goal.at.names_size-requires-clause-index c).After-fill q.0 q.1 in
    rw f.index c.fill.ensures

pub names_size-requires-clause-kept_bound : goal.names_size-requires-clause-kept_bound
names_size-requires-clause-kept_bound c =
    let q = at_holds (goal.at.names_size-requires-clause-kept_bound c).After-places_at-at in
    let f = filled (goal.at.names_size-requires-clause-kept_bound c).After-fill q.0 q.1 in
    omega (arith, q.0, q.1, f.behind.same_length)

pub names_size-requires-clause-kept_bound_2 : goal.names_size-requires-clause-kept_bound_2
names_size-requires-clause-kept_bound_2 c = (at_holds (goal.at.names_size-requires-clause-kept_bound_2 c).After-places_at-at).2

pub returns : goal.returns
returns c =
    let a = c.args in
    let q = at_holds (goal.at.returns c).After-places_at-at in
    let f = filled (goal.at.returns c).After-fill q.0 q.1 in
    let z = c.names_size.ensures in
    sought a.post.now a.n c.places_at-at.result a.kept _ a.scratch.now _ _ (omega arith) (omega arith) (omega arith) (rw c.placed.ensures at c.places_at-at.ensures)
    f.behind (λ _. rw f.index c.fill.ensures) z.0 z.1
