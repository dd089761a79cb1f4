-- The name at the place that was looked up is the one of the index; what is put away is that place.
use Prim.Native.Nat.{◌-◌}
use mathlib.Core.Path.{refl, ap, sym}
use native.Mathlib.Omega.{arith}
use lib.ListN.{length, get_or}
use Rattle.post.specs.Post.{Stands, index_of}
use Rattle.post.proofs.Grow.{name-none, length-stored, name_bounded}
use Rattle.post.proofs.Found.{behind-same}
use Rattle.post.proofs.name_size.Goals as goal

pub returns-then-i-le257 : goal.returns-then-i-le257
returns-then-i-le257 c =
    let a = c.args in
    let s = a.scratch.now in
    let i = c.index_at-i in
    record {
      size = sym (ap length (name-none a.post.now (get_or s a.j 0) (omega arith)));
      behind = behind-same a.n a.at s;
      others = λ k e. refl;
      here = λ h q. absurd (omega (arith, i.ensures.0));
    }

pub overflow_add-result : goal.overflow_add-result
overflow_add-result c =
    let a = c.args in
    let g = get_or a.scratch.now a.j 0 in
    let i = c.index_at-i in
    let p = c.look_up-found in
    let s : Stands a.post.now p.result.place (index_of a.post.now g - 258) = rw i.ensures.0 at p.ensures in
    omega (arith, name_bounded a.post.now g, length-stored a.post.now g p.result.place (omega arith) s, c.requires.index.1)

pub returns : goal.returns
returns c =
    let a = c.args in
    let g = get_or a.scratch.now a.j 0 in
    let i = c.index_at-i in
    let p = c.look_up-found in
    let s : Stands a.post.now p.result.place (index_of a.post.now g - 258) = rw i.ensures.0 at p.ensures in
    let w = c.put_away.ensures in
    record {
      size = omega (arith, length-stored a.post.now g p.result.place (omega arith) s);
      behind = w.behind;
      others = w.others;
      here = λ h q. w.here h _ s;
    }
