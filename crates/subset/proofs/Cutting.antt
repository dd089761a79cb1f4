-- Step 5 and the scratch: the walk's roster, and what is cleared in the end.
use mathlib.Core.Path.{◌≡◌, refl, sym, ap, ap₂, ◌∙◌, subst}
use mathlib.Core.Bool.{Bool, false}
use mathlib.Core.Option.{Option}
use mathlib.Core.List.{List, ◌++◌}
use Prim.Native.Nat.{ℕ, ◌*◌, ◌-◌, ◌≤◌, ◌<◌}
use native.Mathlib.Omega.{arith}
use native.Mathlib.Nat.{sub-zero}
use lib.Dec.{leb}
use lib.Seq.{length-take-le, get_or-take}
use lib.ListN.{length, get_or, take, drop, replicate, length-take}
use Rattle.model.specs.Res.{Res, refuse, ok, each, map_res, is_ok}
use Rattle.model.specs.Bytes.{Bytes, put, place}
use Rattle.model.specs.Font.{Tables}
use Rattle.model.specs.Glyf.{Width, width, width_of}
use Rattle.model.specs.Cut.{CutFont, closure, piece_of, optional, rewrite}
use Rattle.model.specs.Metrics.{metrics}
use Rattle.model.specs.Name.{cut_name}
use Rattle.model.specs.Post.{cut_post}
use Rattle.model.specs.File.{entries, file}
use Rattle.model.specs.Call.{Made, last, out_from, places_from}
use Rattle.model.proofs.Res.{map_inv, ok_inj, ok-refuse, bind_inv, need_inv}
use Rattle.model.proofs.Members.{by}
use Rattle.std.specs.Prelude.{Result, Ok, Err}
use Rattle.answer.specs.declared.Refusal.{Refusal}
use Rattle.answer.specs.declared.CutError.{CutError}
use Rattle.answer.specs.declared.CutError.TheVariants.{Refused}
use Rattle.answer.specs.declared.Font.{Font}
use Rattle.answer.specs.Answers.{number}
use Rattle.glyf.specs.Pieces.{length_at}
use Rattle.remapper.specs.Scratch.{Sparse, Sweepable}
use Rattle.remapper.specs.State.{Rostered, number_in}
use Rattle.closure.specs.declared.Kept.{Kept as Walk}
use Rattle.closure.specs.Closes.{walk_in, Offsets, even_length, raw_length, totals, Closes}
use Rattle.closure.proofs.Final.{walk_in_lem, glyphs-offsets}
use Rattle.remapper.proofs.Fills.{roster-left, nothing_left}
use Rattle.remapper.proofs.Clears.{sparse_apart}
use Rattle.plan.specs.Steps.{file_from}
use Rattle.plan.specs.declared.Source.{Source}
use Rattle.plan.specs.Sources.{font_of, Opens, Walked, OutlinesAdded, Unnamed, Kept}
use Rattle.plan.proofs.Sizes.{added}
use Rattle.plan.proofs.Planning.{roster_stays}
use Rattle.subset.specs.Calls.{Rewrites, Cuts}
use Rattle.subset.proofs.Call.{made-refused, made_from}
use Rattle.subset.proofs.Rewriting.{err-ok}

-- loca has the offsets that the walk reads
pub offsets : (font : Bytes) (s : Source) → Opens font s → (loca : Bytes) → loca ≡ (font_of font s).loca → Offsets (width s.long) s.n loca
offsets font s o loca e =
    subst (Offsets (width s.long) s.n) (sym e)
    (subst (λ (w : Width). Offsets w s.n (font_of font s).loca) (sym o.wide)
    (subst (λ (n : ℕ). Offsets (width_of (font_of font s).head) n (font_of font s).loca) (sym o.number) (glyphs-offsets (width_of (font_of font s).head) (font_of font s).loca)))

-- what stands in the scratch once the first 4n places are cleared but for the roster
pub cleared : (d : Bytes) (before after : List ℕ) (n : ℕ) (m : Res Made) (from : ℕ) → from ≡ (last (length d) m).kept → drop (4 * n) after ≡ drop (4 * n) before
    → ((v : Made) → m ≡ ok v → (take (length v.roster) after ≡ v.roster) × (length v.roster ≤ 4 * n))
    → put after from (replicate (4 * n - from) 0) ≡ places_from (4 * n) (length d) m ++ drop (4 * n) before
cleared d before after n (refuse k) from e p r = rw (e, sub-zero) (nothing_left n before after p)
cleared d before after n (ok v) from e p r =
    by (leb (length v.bytes) (length d))
    (λ t. rw (t, e, t) (roster-left n before after v.roster (r v refl).0 p (r v refl).1))
    (λ t. rw (t, e, t, sub-zero) (nothing_left n before after p))

-- a plan's file has the walk's roster
pub file-roster : (t : Tables) (r : List ℕ) (rest : Res CutFont) (v : Made) → ((c : CutFont) → rest ≡ ok c → c.roster ≡ r) → file_from rest ≡ ok v → v.roster ≡ r
unfolding file_from
file-roster t r rest v h e =
    let s = bind_inv rest _ v e in
    let c = s.value in
    let w = need_inv 5 (leb (length (file (entries c.tables))) 4294967295) (ok (record { roster = c.roster; bytes = file (entries c.tables) })) v s.then in
    sym (ap (λ (m : Made). m.roster) (ok_inj w.1)) ∙ h c s.first

pub rewrite-roster : (t : Tables) (r : List ℕ) (c : CutFont) → rewrite t r ≡ ok c → c.roster ≡ r
unfolding rewrite
rewrite-roster t r c e =
    let a = bind_inv (each (piece_of t (place r)) r) _ c e in
    let b = bind_inv (metrics t.hhea t.hmtx r) _ c a.then in
    let d = bind_inv (optional cut_name t.name) _ c b.then in
    let f = bind_inv (optional (λ x. cut_post x r) t.post) _ c d.then in
    sym (ap (λ (c : CutFont). c.roster) (ok_inj f.then))

refused-by : {A B : Type 0} (f : A → B) (m : Res A) (k : ℕ) → refuse k ≡ map_res f m → m ≡ refuse k
refused-by f (refuse j) k e = cc
refused-by f (ok a) k e = ok-refuse (sym e)

-- what the walk left is left by the rest too, but for names
sweepable_stays : (post : Option Bytes) (n kept : ℕ) (middle after : List ℕ) → Sweepable n middle kept false → Kept post n middle after
    → (written : Bool) → (written ≡ false → Unnamed post) → Sweepable n after kept written
sweepable_stays post n kept middle after w k written u =
    record {
      numbers = sparse_apart after w.numbers k.same_length (λ j h. same j (omega arith)) (λ j h m. same j (omega arith));
      links = λ e. subst (λ (s : List ℕ). Sparse n s kept (2 * n) × Sparse n s kept (3 * n)) (sym (k.same (u e))) (w.links refl);
    }
  where
    same : (j : ℕ) → j < 2 * n → get_or after j 0 ≡ get_or middle j 0
    same j h = sym (get_or-take (2 * n) after j 0 h) ∙ ap (λ (s : List ℕ). get_or s j 0) k.front ∙ get_or-take (2 * n) middle j 0 h

-- what the roster's rest gives, as the whole
from_rest : (t : Tables) (n : ℕ) (ids : List ℕ) (kept : ℕ) (before middle after : List ℕ) (d e : Bytes) (a : Result Font CutError) → closure t ids ≡ ok (take kept middle) → kept ≤ length middle → take kept after ≡ take kept middle
    → length middle ≡ length before → drop (4 * n) middle ≡ drop (4 * n) before → Sweepable n middle kept false → Rewrites t (take kept middle) n middle after d e a → Cuts t ids n before after d e a
from_rest t n ids kept before middle after d e a c l stays same past sw v =
    let m = made_from t ids (take kept middle) c in
    record {
      answers = v.answers ∙ sym (ap (last (length d)) m);
      done = λ f h. ap is_ok m ∙ v.done f h;
      writes = v.writes ∙ sym (ap (out_from d) m);
      same_length = v.leaves.same_length ∙ same;
      past = v.leaves.back ∙ past;
      roster = λ w f. stands w (is-roster w (sym m ∙ f));
      sweepable = λ w f written u.
          subst (λ (k : ℕ). Sweepable n after k written) (sym (ap length (is-roster w (sym m ∙ f)) ∙ length-take-le kept middle l)) (sweepable_stays t.post n kept middle after sw v.leaves written u);
    }
  where
    is-roster : (w : Made) → file_from (rewrite t (take kept middle)) ≡ ok w → w.roster ≡ take kept middle
    is-roster w f = file-roster t (take kept middle) (rewrite t (take kept middle)) w (rewrite-roster t (take kept middle)) f

    stands : (w : Made) → w.roster ≡ take kept middle → take (length w.roster) after ≡ w.roster
    stands w q =
        ap (λ (r : List ℕ). take (length r) after) q ∙ ap (λ (i : ℕ). take i after) (length-take-le kept middle l) ∙ stays ∙ sym q

-- the walk refused, or the roster stands in the scratch and its outlines' lengths are added up
module _ (font : Bytes) (s : Source) (ids before after : List ℕ) (o : Opens font s) (space : 4 * s.n ≤ length before) (same : length after ≡ length before)
    (loca glyf : Bytes) (is-loca : loca ≡ (font_of font s).loca) (is-glyf : glyf ≡ (font_of font s).glyf) where
  abbrev lengths : ℕ → ℕ
  lengths = length_at (width s.long) s.n loca glyf

  abbrev Closed : Result Walk Refusal → Type 0
  Closed = Closes lengths (walk_in (width s.long) s.n loca glyf ids) s.n before after

  walked : walk_in (width s.long) s.n loca glyf ids ≡ closure (font_of font s) ids
  walked = ap₂ (λ (l g : Bytes). walk_in (width s.long) s.n l g ids) is-loca is-glyf
      ∙ ap₂ (λ (w : Width) (n : ℕ). walk_in w n (font_of font s).loca (font_of font s).glyf ids) o.wide o.number ∙ sym (walk_in_lem (font_of font s) ids)

  pub walk_refused : (r : Refusal) → Closed (Err r) → (d : Bytes) → Cuts (font_of font s) ids s.n before after d d (Err (Refused r))
  walk_refused r v d =
      let q : closure (font_of font s) ids ≡ refuse (number r) =
      refused-by (totals lengths) (closure (font_of font s) ids) (number r) (v.answer ∙ ap (map_res (totals lengths)) walked) in
      let m = made-refused (font_of font s) ids (number r) q in
      record {
        answers = sym (ap (last (length d)) m);
        done = λ f h. err-ok (Refused r) f h;
        writes = sym (ap (out_from d) m);
        same_length = same;
        past = v.past;
        roster = λ w f. ok-refuse (sym f ∙ m);
        sweepable = λ w f. ok-refuse (sym f ∙ m);
      }

  module _ (k : Walk) (v : Closed (Ok k)) where
    -- the roster that the walk gives, and its sums
    whole : (r : List ℕ) × (closure (font_of font s) ids ≡ ok r) × (totals lengths r ≡ (k.kept, k.even, k.raw))
    whole = map_inv (totals lengths) (closure (font_of font s) ids) (k.kept, k.even, k.raw) (sym (v.answer ∙ ap (map_res (totals lengths)) walked))

    counted : length whole.0 ≡ k.kept
    counted = ap (λ (z : ℕ × ℕ × ℕ). z.0) whole.2

    stands : Rostered s.n after whole.0
    stands = v.scratch whole.0 (walked ∙ whole.1)

    is-roster : take k.kept after ≡ whole.0
    is-roster = ap (λ (i : ℕ). take i after) (sym counted) ∙ stands.ids

    walk-closes : closure (font_of font s) ids ≡ ok (take k.kept after)
    walk-closes = whole.1 ∙ ap ok (sym is-roster)

    pub walk_kept : Walked font s after k.kept
    walk_kept =
        record {
          ids = ids;
          closes = walk-closes;
          inside = omega (arith, counted, ap length stands.ids, length-take (length whole.0) after);
          numbers = λ g h. stands.numbers g h ∙ ap (λ (r : List ℕ). number_in r g) (sym is-roster);
          space = omega (arith, same);
        }

    walk-sweepable : Sweepable s.n after k.kept false
    walk-sweepable = subst (λ (i : ℕ). Sweepable s.n after i false) counted (v.sweepable whole.0 (walked ∙ whole.1))

    pub walk-added : OutlinesAdded (font_of font s) (take k.kept after) (record { even = k.even; raw = k.raw })
    walk-added =
        added font s after k.kept o walk_kept k.even k.raw
        (over-font (even_length) (ap (λ (z : ℕ × ℕ × ℕ). z.1) whole.2))
        (over-font (raw_length) (ap (λ (z : ℕ × ℕ × ℕ). z.2) whole.2))
      where
        over-font : (f : (ℕ → ℕ) → List ℕ → ℕ) {x : ℕ} → f lengths whole.0 ≡ x
            → x ≡ f (length_at (width s.long) s.n (font_of font s).loca (font_of font s).glyf) (take k.kept after)
        over-font f q =
            sym q ∙ ap (f lengths) (sym is-roster) ∙ ap₂ (λ (l g : Bytes). f (length_at (width s.long) s.n l g) (take k.kept after)) is-loca is-glyf

    -- what the roster's rest gives, as the whole
    pub from_walk : (later : List ℕ) (d e : Bytes) (a : Result Font CutError) → Rewrites (font_of font s) (take k.kept after) s.n after later d e a
        → Cuts (font_of font s) ids s.n before later d e a
    from_walk later d e a w =
        from_rest (font_of font s) s.n ids k.kept before after later d e a walk-closes walk_kept.inside (roster_stays font s after later k.kept o walk_kept w.leaves) same v.past
        walk-sweepable w
