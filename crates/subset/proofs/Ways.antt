-- The ways out of steps 6 to 10 once all measures passed, of a font that is opened and walked.
use Rattle.std.proofs.Common.{◌≡◌, ℕ, List, ◌≤◌, ◌<◌, false, refl, sym, ap, ◌∙◌, length, take, arith, Ok, Err}
use Rattle.model.specs.Bytes.{Bytes, over}
use Rattle.model.specs.Font.{Tables}
use Rattle.model.specs.File.{entries, file}
use Rattle.model.specs.Cut.{rewrite}
use Rattle.answer.specs.declared.Refusal.TheVariants.{Overflow}
use Rattle.answer.specs.declared.CutError.TheVariants.{Refused, OutputTooShort}
use Rattle.construct.specs.declared.Layout.{Layout}
use Rattle.construct.specs.Construct.{laid_out}
use Rattle.plan.specs.declared.Source.{Source}
use Rattle.plan.specs.declared.Plan.{Plan}
use Rattle.plan.specs.Steps.{renewed}
use Rattle.plan.specs.Sources.{font_of, Opens, Walked, Found, Planned}
use Rattle.plan.proofs.Rostered.{size, pieces-fine}
use Rattle.plan.proofs.Planning.{roster_stays}
use Rattle.tables.specs.Writing.{WritesFrom}
use Rattle.tables.proofs.Standing.{file-length}
use Rattle.subset.specs.Calls.{Narrow, Rewrites}
use Rattle.subset.proofs.Rewriting.{rewrite-long, rewrite-short, rewrite-done}
use Rattle.subset.proofs.Scratch.{writes_from}
use Rattle.subset.proofs.Lengths.{file-holds}

module _ (font : Bytes) (s : Source) (kept : ℕ) (before after : List ℕ) (o : Opens font s) (w : Walked font s before kept) (d : Bytes) (p : Plan)
    (v : Planned (rewrite (font_of font s) (take kept before)) (font_of font s) s.n kept before after (Ok p)) where
  abbrev t : Tables
  t = font_of font s

  abbrev r : List ℕ
  r = take kept before

  found : Found t r p
  found = v.found p refl

  pub not_narrow : Narrow p.sized false → Rewrites t r s.n before after d d (Err (Refused Overflow))
  not_narrow n =
      let k = n.one refl in
      rewrite-long t s.n kept before after d p v (pieces-fine font s before kept o w) (omega (arith, file-holds t r p found o.long.head k.0 k.1, k.2))

  module _ (new : Layout) (e : new ≡ laid_out p.sized) where
    is_end : length (file (entries (renewed t r))) ≡ new.end
    is_end = file-length t r p found o.long.head ∙ ap (λ (x : Layout). x.end) (sym e)

    pub too_long : 4294967295 < new.end → Rewrites t r s.n before after d d (Err (Refused Overflow))
    too_long h = rewrite-long t s.n kept before after d p v (pieces-fine font s before kept o w) (omega (arith, is_end))

    module _ (small : new.end ≤ 4294967295) where
      pub too_short : length d < new.end → Rewrites t r s.n before after d d (Err (OutputTooShort new.end))
      too_short h = rewrite-short t s.n kept before after d p v (pieces-fine font s before kept o w) new.end is_end small h

      pub writes : WritesFrom font s after kept p new
      writes = writes_from font s before kept o w after p v new e small

      pub written : new.end ≤ length d → (out : Bytes) → out ≡ over (file (entries (renewed t (take kept after)))) d
          → Rewrites t r s.n before after d out (Ok (record { kept = kept; length = new.end }))
      written h out q =
          rewrite-done t s.n kept before after d p v (pieces-fine font s before kept o w) new.end is_end small h (size font s before kept o w) out
          (q ∙ ap (λ (r : List ℕ). over (file (entries (renewed t r))) d) (roster_stays font s before after kept o w v.untouched))
