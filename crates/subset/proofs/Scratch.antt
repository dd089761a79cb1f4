-- What the measures leave for the writers: the roster and the numbers stand as the walk left them.
use mathlib.Core.Path.{◌≡◌, refl, sym, subst}
use Rattle.std.specs.Prelude.{Ok}
use mathlib.Core.Bool.{true}
use mathlib.Core.List.{List}
use Prim.Native.Nat.{ℕ, ◌≤◌}
use lib.ListN.{take}
use Rattle.model.specs.Res.{is_ok}
use Rattle.model.specs.Bytes.{Bytes}
use Rattle.model.specs.Cut.{rewrite}
use Rattle.construct.specs.declared.Layout.{Layout}
use Rattle.construct.specs.Construct.{laid_out}
use Rattle.plan.specs.declared.Source.{Source}
use Rattle.plan.specs.declared.Plan.{Plan}
use Rattle.plan.specs.Sources.{font_of, Opens, Walked, Found, Planned}
use Rattle.plan.proofs.Planning.{roster_stays, walked_stays}
use Rattle.tables.specs.Writing.{WritesFrom}

pub writes_from : (font : Bytes) (s : Source) (before : List ℕ) (kept : ℕ) → Opens font s → Walked font s before kept → (after : List ℕ) (p : Plan)
    → Planned (rewrite (font_of font s) (take kept before)) (font_of font s) s.n kept before after (Ok p)
    → (new : Layout) → new ≡ laid_out p.sized → new.end ≤ 4294967295 → WritesFrom font s after kept p new
writes_from font s before kept o w after p v new l small =
    let e = sym (roster_stays font s before after kept o w v.untouched) in
    record {
      ran =
          record {
            opens = o;
            walked = walked_stays font s before after kept o w v.untouched;
            found = subst (λ (r : List ℕ). Found (font_of font s) r p) e (v.found p refl);
            index = v.index refl;
            passed = subst (λ (r : List ℕ). is_ok (rewrite (font_of font s) r) ≡ true) e (sym v.fits);
          };
      layout = l;
      small = small;
    }
