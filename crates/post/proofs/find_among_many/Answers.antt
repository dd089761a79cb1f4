-- All names found with the index in an array of its own.
use Prim.Native.Nat.{◌*◌, ◌-◌}
use mathlib.Core.Path.{sym, ◌∙◌}
use native.Mathlib.Omega.{arith}
use lib.ListN.{length}
use Rattle.model.proofs.Res.{true_false}
use Rattle.post.specs.Found.{places_at}
use Rattle.post.proofs.Found.{behind-same, placed_many, sought}
use Rattle.post.proofs.find_among_many.Goals as goal

pub returns : goal.returns
unfolding places_at
returns c =
    let a = c.args in
    let f = placed_many (length a.post.now) a.n a.kept c.requires.n_value in
    let z = c.names_size.ensures in
    sought a.post.now a.n (2 * a.n - a.kept) a.kept _ a.scratch.now a.scratch.now _ (omega arith) (omega arith) (omega arith) (rw f)
    (behind-same a.n a.n a.scratch.now) (λ e. true_false (sym f ∙ e)) z.0 z.1
