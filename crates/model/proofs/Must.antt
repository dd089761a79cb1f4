-- A table that must be usable: found and long enough, or refused.
use mathlib.Core.Path.{◌≡◌, refl, sym, ap, ◌∙◌, subst}
use mathlib.Core.Option.{Option, none, some}
use Prim.Native.Nat.{ℕ, ◌≤◌}
use lib.Dec.{leb}
use lib.ListN.{length}
use borrow.Author.Tests.{le-leb, leb-true}
use Rattle.model.specs.Res.{ok}
use Rattle.model.specs.Bytes.{Bytes}
use Rattle.model.specs.Font.{must}
use Rattle.model.proofs.Res.{need-ok, need_inv, ok_inj, ok-refuse}

pub must-ok : (k least : ℕ) (o : Option Bytes) (b : Bytes) → o ≡ some b → least ≤ length b → must k least o ≡ ok b
must-ok k least o b e h = ap (must k least) e ∙ need-ok _ _ _ (le-leb least (length b) h) refl

pub must_inv : (k least : ℕ) (o : Option Bytes) (b : Bytes) → must k least o ≡ ok b → (o ≡ some b) × (least ≤ length b)
must_inv k least none b e = ok-refuse (sym e)
must_inv k least (some a) b e =
    let s = need_inv k (leb least (length a)) _ b e in
    let is = ok_inj s.1 in
    (ap some is, subst (λ (z : Bytes). least ≤ length z) is (leb-true least (length a) s.0))
