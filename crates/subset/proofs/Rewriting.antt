-- Steps 6 to 10, case by case, from what the plan found.
use mathlib.Core.Path.{◌≡◌, refl, sym, ap, ◌∙◌}
use mathlib.Core.Bool.{Bool, true, false}
use mathlib.Core.List.{List}
use Prim.Native.Nat.{ℕ, ◌≤◌, ◌<◌}
use native.Mathlib.Omega.{arith}
use lib.ListN.{length, take}
use Rattle.model.specs.Res.{Res, refuse, ok, each, is_ok}
use Rattle.model.specs.Bytes.{Bytes, over, place}
use Rattle.model.specs.Font.{Tables}
use Rattle.model.specs.File.{entries, file}
use Rattle.model.specs.Cut.{CutFont, piece_of, rewrite}
use Rattle.model.specs.Call.{Answer, last, out_from}
use Rattle.model.proofs.Res.{true_false}
use Rattle.std.specs.Prelude.{Result, Ok, Err}
use Rattle.answer.specs.declared.Refusal.{Refusal}
use Rattle.answer.specs.declared.Refusal.TheVariants.{Overflow}
use Rattle.answer.specs.declared.CutError.{CutError}
use Rattle.answer.specs.declared.CutError.TheVariants.{Refused, OutputTooShort}
use Rattle.answer.specs.declared.Font.{Font}
use Rattle.answer.specs.Answers.{number, answer_of}
use Rattle.plan.specs.declared.Plan.{Plan}
use Rattle.plan.specs.Steps.{refusal_of, renewed, file_from}
use Rattle.plan.specs.Sources.{Planned}
use Rattle.plan.proofs.Planning.{rewrite-made}
use Rattle.subset.specs.Calls.{Rewrites}
use Rattle.subset.proofs.Call.{too_long, long-enough, no_room, room}

-- an error is no success
pub err-ok : {C : Type 0} (e : CutError) (f : Font) → Err e ≡ Ok f → C
err-ok e f h = true_false (ap ok? h)
  where
    ok? : Result Font CutError → Bool
    ok? (Ok f) = false
    ok? (Err e) = true

refuses : (d : Bytes) (m : Res CutFont) (e : Refusal) → false ≡ is_ok m → number e ≡ refusal_of m
    → (answer_of (Err (Refused e)) ≡ last (length d) (file_from m)) × (d ≡ out_from d (file_from m))
unfolding file_from
refuses d (refuse j) e f q = (rw q, refl)
refuses d (ok c) e f q = true_false (sym f)

pub rewrite-refused : (t : Tables) (n kept : ℕ) (before after : List ℕ) (d : Bytes) (e : Refusal) → Planned (rewrite t (take kept before)) t n kept before after (Err e)
    → Rewrites t (take kept before) n before after d d (Err (Refused e))
rewrite-refused t n kept before after d e v =
    let w = refuses d (rewrite t (take kept before)) e v.fits v.refusal in
    record { answers = w.0; done = λ f h. err-ok (Refused e) f h; writes = w.1; leaves = v.untouched }

module _ (t : Tables) (n kept : ℕ) (before after : List ℕ) (d : Bytes) (p : Plan) (v : Planned (rewrite t (take kept before)) t n kept before after (Ok p))
    (pieces : is_ok (each (piece_of t (place (take kept before))) (take kept before)) ≡ true) where
  is_made : rewrite t (take kept before) ≡ ok (record { roster = take kept before; tables = renewed t (take kept before) })
  is_made = rewrite-made t (take kept before) pieces (sym v.fits)

  pub rewrite-long : 4294967295 < length (file (entries (renewed t (take kept before)))) → Rewrites t (take kept before) n before after d d (Err (Refused Overflow))
  rewrite-long l =
      let e = ap file_from is_made ∙ too_long (record { roster = take kept before; tables = renewed t (take kept before) }) l in
      record { answers = sym (ap (last (length d)) e); done = λ f h. err-ok (Refused Overflow) f h; writes = sym (ap (out_from d) e); leaves = v.untouched }

  module _ (end : ℕ) (is_end : length (file (entries (renewed t (take kept before)))) ≡ end) (small : end ≤ 4294967295) where
    as-made : file_from (rewrite t (take kept before)) ≡ ok (record { roster = take kept before; bytes = file (entries (renewed t (take kept before))) })
    as-made = ap file_from is_made ∙ long-enough (record { roster = take kept before; tables = renewed t (take kept before) }) (omega (arith, is_end))

    pub rewrite-short : length d < end → Rewrites t (take kept before) n before after d d (Err (OutputTooShort end))
    rewrite-short l =
        let w = no_room d (record { roster = take kept before; bytes = file (entries (renewed t (take kept before))) }) (omega (arith, is_end)) in
        record {
          answers = ap (λ (k : ℕ). answer_of (Err (OutputTooShort k))) (sym is_end) ∙ sym (ap (last (length d)) as-made ∙ w.0);
          done = λ f h. err-ok (OutputTooShort end) f h;
          writes = sym (ap (out_from d) as-made ∙ w.1);
          leaves = v.untouched;
        }

    pub rewrite-done : end ≤ length d → length (take kept before) ≡ kept → (e : Bytes) → e ≡ over (file (entries (renewed t (take kept before)))) d
        → Rewrites t (take kept before) n before after d e (Ok (record { kept = kept; length = end }))
    rewrite-done l size e f =
        let w = room d (record { roster = take kept before; bytes = file (entries (renewed t (take kept before))) }) (omega (arith, is_end)) in
        record {
          answers = ap (λ (k : ℕ). font kept k) (sym is_end) ∙ ap (λ (k : ℕ). font k (length (file (entries (renewed t (take kept before)))))) (sym size) ∙ sym (ap (last (length d)) as-made ∙ w.0);
          done = λ g h. ap is_ok as-made;
          writes = f ∙ sym (ap (out_from d) as-made ∙ w.1);
          leaves = v.untouched;
        }
      where
        font : ℕ → ℕ → Answer
        font k l = answer_of (Ok (record { kept = k; length = l }))
