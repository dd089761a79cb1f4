-- The walk of a font's tables: components are glyphs and fewer than glyf's bytes, so the walk ends; its roster's outlines were all read.
use Prim.Native.Nat.{ℕ, zero, suc, ◌+◌, ◌*◌, ◌≤◌}
use mathlib.Core.List.{List, [], ◌∷◌}
use mathlib.Core.Path.{◌≡◌, refl, sym, ap}
use native.Mathlib.Omega.{arith}
use native.Mathlib.Nat.{suc-mul}
use lib.ListN.{length}
use Rattle.model.specs.Res.{Res, refuse, ok, each, map_res}
use Rattle.model.specs.Bytes.{Bytes, place}
use Rattle.model.specs.Font.{Tables}
use Rattle.model.specs.Outline.{Outline, renumber, written, components}
use Rattle.model.specs.Walk.{begin, ended, walk}
use Rattle.model.specs.Cut.{count, outline_of, parts_of, piece_of, turns, closure}
use Rattle.model.proofs.Res.{bind_ok, ok-refuse}
use Rattle.model.proofs.Members.{In, clash, in_here, in_there}
use Rattle.model.proofs.Yields.{Yields}
use Rattle.model.proofs.Outlines.{Few, parts_yield}
use Rattle.model.proofs.Thin.{Inside, Alike, ids, width, widths}
use Rattle.model.proofs.Start.{walk_t, thin}
use Rattle.model.proofs.Least.{Roster, roster}

pub few-ids : (n w : ℕ) (m : Res (List ℕ)) → Yields (Few n w) m → Few n w (ids m)
few-ids n w (refuse k) y = (λ c m. clash m refl, omega arith)
few-ids n w (ok cs) y = y.value cs refl

pub widths-few : (n w : ℕ) (o : ℕ → Res (List ℕ)) → ((g : ℕ) → width (o g) ≤ w) → widths n o ≤ n * w
widths-few zero w o h = omega arith
widths-few (suc n) w o h = omega (arith, suc-mul n w, widths-few n w o h, h n)

pub parts-few : (t : Tables) (g : ℕ) → Few (count t) (length t.glyf) (ids (parts_of t g))
parts-few t g = few-ids (count t) (length t.glyf) (parts_of t g) (parts_yield t g)

pub parts-inside : (t : Tables) → Inside (parts_of t) (count t)
parts-inside t g h c m = (parts-few t g).0 c m

pub turns_cover : (t : Tables) (qs : List ℕ) → 2 + length qs + widths (count t) (parts_of t) ≤ turns t qs
turns_cover t qs = omega (arith, widths-few (count t) (length t.glyf) (parts_of t) (λ g. (parts-few t g).1))

-- the walk ends, and moving to the top gives the same
pub closure-ends : (t : Tables) (qs : List ℕ) → Alike (parts_of t) (turns t qs) (begin (count t) qs)
closure-ends t qs = thin (turns t qs) (count t) (parts_of t) qs (parts-inside t) (turns_cover t qs)

pub closure-thin : (t : Tables) (qs : List ℕ) → closure t qs ≡ walk_t (turns t qs) (count t) (parts_of t) qs
unfolding closure walk
closure-thin t qs = ap ended (closure-ends t qs).0

pub closure-roster : (t : Tables) (qs r : List ℕ) → closure t qs ≡ ok r → Roster (count t) (parts_of t) qs r
unfolding closure
closure-roster t qs r e = roster (turns t qs) (count t) (parts_of t) qs r (parts-inside t) e

-- an outline whose components are known was read, so its bytes are known with any new ids
pub piece-known : (t : Tables) (new : ℕ → ℕ) (g : ℕ) (cs : List ℕ) → parts_of t g ≡ ok cs → (b : Bytes) × (piece_of t new g ≡ ok b)
unfolding parts_of piece_of
piece-known t new g cs e = go (outline_of t g) e
  where
    go : (m : Res Outline) → map_res components m ≡ ok cs → (b : Bytes) × (map_res (λ o. written (renumber new o)) m ≡ ok b)
    go (refuse k) e = ok-refuse (sym e)
    go (ok o) e = (written (renumber new o), refl)

each_in : {B : Type 0} (f : ℕ → Res B) (xs : List ℕ) → ((x : ℕ) → In x xs → (y : B) × (f x ≡ ok y)) → (ys : List B) × (each f xs ≡ ok ys)
each_in f [] h = ([], refl)
each_in f (x ∷ xs) h =
    let y = h x (in_here x xs) in
    let ys = each_in f xs (λ z m. h z (in_there z x xs m)) in
    (y.0 ∷ ys.0, bind_ok _ _ y.1 (bind_ok _ _ ys.1 refl))

-- THEOREM. The kept outlines, with new ids, refuse nothing
pub pieces-known : (t : Tables) (qs r : List ℕ) → closure t qs ≡ ok r → (bs : List Bytes) × (each (piece_of t (place r)) r ≡ ok bs)
pieces-known t qs r e =
    each_in (piece_of t (place r)) r (λ g m. piece-known t (place r) g (ids (parts_of t g)) ((closure-roster t qs r e).readable g m))
