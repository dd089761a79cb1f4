-- What a walk that ended keeps: the laws of `closure-roster`, in the statements' words.
use Prim.Native.Nat.{ℕ}
use mathlib.Core.List.{List}
use mathlib.Core.Path.{◌≡◌, refl}
use Rattle.model.specs.Res.{Res, refuse, ok}
use Rattle.model.specs.Font.{Tables}
use Rattle.model.specs.Cut.{parts_of}
use Rattle.model.proofs.Members.{In, clash}
use Rattle.model.proofs.Places.{place-low}
use Rattle.model.proofs.Thin.{ids}
use Rattle.model.proofs.Closure.{closure-thin, closure-roster, pieces-known}
use Rattle.theorems.specs.Closure.{MovingToTop, RosterInOrder, Needed, zeroth, asked, component, NeededLeast, RosterLeast, PiecesOk}

pub moving_to_top : MovingToTop
moving_to_top = closure-thin

pub roster_in_order : RosterInOrder
roster_in_order t qs r e =
    let v = closure-roster t qs r e in
    record { in_order = v.starts; once = v.once; glyphs = v.within; few = v.size }

-- an outline's components, if it was read
pub in_ids : (m : Res (List ℕ)) (c : ℕ) → In c (ids m) → (cs : List ℕ) × (m ≡ ok cs) × In c cs
in_ids (refuse k) c h = clash h refl
in_ids (ok cs) c h = (cs, refl, h)

ids_in : (m : Res (List ℕ)) (cs : List ℕ) (c : ℕ) → m ≡ ok cs → In c cs → In c (ids m)
ids_in m cs c e h = rw e h

pub needed_shut : (t : Tables) (qs : List ℕ) (g c : ℕ) → Needed t qs g → In c (ids (parts_of t g)) → Needed t qs c
needed_shut t qs g c n m = let p = in_ids (parts_of t g) c m in component g c p.0 n p.1 p.2

pub needed-least : NeededLeast
needed-least t qs S z a c g zeroth = z
needed-least t qs S z a c g (asked h m) = a h m
needed-least t qs S z a c g (component h d cs n e m) = c h d cs (needed-least t qs S z a c h n) e m

pub roster-least : RosterLeast
roster-least t qs r e =
    let v = closure-roster t qs r e in
    record {
      needed = v.least (Needed t qs) zeroth asked (needed_shut t qs);
      kept =
          needed-least t qs (λ g. In g r) v.zeroth v.asked
          (λ g c cs m e k. v.closed g m c (ids_in (parts_of t g) cs c e k));
      readable = λ g m. (ids (parts_of t g), v.readable g m);
    }

pub pieces-ok : PiecesOk
pieces-ok t qs r e =
    record {
      written = pieces-known t qs r e;
      numbered = λ g c cs m p k. place-low r c ((closure-roster t qs r e).closed g m c (ids_in (parts_of t g) cs c p k));
    }
