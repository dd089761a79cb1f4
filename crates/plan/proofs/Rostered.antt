-- What a walk that succeeded tells of its roster: how many, which, and that every outline can be written.
use mathlib.Core.Path.{◌≡◌, sym, ap, subst}
use mathlib.Core.Bool.{true}
use mathlib.Core.List.{List}
use Prim.Native.Nat.{ℕ, ◌≤◌, ◌<◌}
use native.Mathlib.Omega.{arith}
use lib.ListN.{length, take}
use lib.Seq.{length-take-le}
use Rattle.model.specs.Res.{each, is_ok}
use Rattle.model.specs.Bytes.{Bytes, place}
use Rattle.model.specs.Glyf.{width_of}
use Rattle.model.specs.Cut.{count, parts_of, piece_of}
use Rattle.model.proofs.Members.{In, in_under}
use Rattle.model.proofs.Least.{Roster}
use Rattle.model.proofs.Closure.{closure-roster, pieces-known}
use Rattle.model.proofs.Places.{place-low}
use Rattle.model.proofs.Chosen.{pigeons}
use Rattle.closure.proofs.Final.{glyphs-small}
use Rattle.plan.specs.declared.Source.{Source}
use Rattle.plan.specs.Sources.{font_of, Opens, Walked}

module _ (font : Bytes) (s : Source) (scratch : List ℕ) (kept : ℕ) (o : Opens font s) (w : Walked font s scratch kept) where
  roster : Roster (count (font_of font s)) (parts_of (font_of font s)) w.ids (take kept scratch)
  roster = closure-roster (font_of font s) w.ids (take kept scratch) w.closes

  pub size : length (take kept scratch) ≡ kept
  size = length-take-le kept scratch w.inside

  pub some : 0 < kept
  some = omega (arith, size, place-low (take kept scratch) 0 roster.zeroth)

  pub few : kept ≤ 65535
  few = omega (arith, size, roster.size)

  pub low : (g : ℕ) → In g (take kept scratch) → g < s.n
  low g m = subst (λ (n : ℕ). g < n) (sym o.number) (roster.within g m)

  pub fewer : kept ≤ s.n
  fewer = omega (arith, size, o.number, pigeons (count (font_of font s)) (take kept scratch) roster.once (in_under (count (font_of font s)) (take kept scratch) roster.within))

  pub pieces-fine : is_ok (each (piece_of (font_of font s) (place (take kept scratch))) (take kept scratch)) ≡ true
  pieces-fine = ap is_ok (pieces-known (font_of font s) w.ids (take kept scratch) w.closes).1

  pub most : s.n ≤ 65536
  most = rw o.number (glyphs-small (width_of (font_of font s).head) (font_of font s).loca)
