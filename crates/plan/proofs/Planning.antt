-- What a plan for the steps left says: the first refusal decides, and a step that passes leaves the rest; the scratch's roster and numbers stay.
use mathlib.Core.Path.{◌≡◌, refl, sym, ap, ◌∙◌, subst}
use mathlib.Core.Bool.{true, false}
use mathlib.Core.Option.{Option, none, some}
use mathlib.Core.List.{List, []}
use Prim.Native.Nat.{ℕ, ◌+◌, ◌*◌, ◌≤◌}
use native.Mathlib.Omega.{arith}
use lib.ListN.{length, get_or, take}
use lib.Seq.{take-take, get_or-take}
use Rattle.model.specs.Res.{Res, refuse, ok, each, map_res, is_ok, value_of, ◌>>=◌, ◌>>◌}
use Rattle.model.specs.Bytes.{Bytes, word32, place}
use Rattle.model.specs.Font.{Tables}
use Rattle.model.specs.Metrics.{Metric, metrics}
use Rattle.model.specs.Name.{cut_name}
use Rattle.model.specs.Post.{cut_post}
use Rattle.model.specs.Cut.{CutFont, piece_of, new_tables, optional, rewrite}
use Rattle.model.proofs.Res.{true_false, ok-refuse}
use Rattle.std.specs.Prelude.{Result, Ok, Err}
use Rattle.answer.specs.declared.Refusal.{Refusal}
use Rattle.answer.specs.Answers.{number, res_of}
use Rattle.places.specs.declared.Tables.{Tables as Places}
use Rattle.places.specs.Places.{present_at, content_at, option_at, contents}
use Rattle.remapper.specs.State.{number_in}
use Rattle.post.specs.Post.{Indexed, Measured}
use Rattle.plan.specs.declared.Source.{Source}
use Rattle.plan.specs.declared.Plan.{Plan}
use Rattle.plan.specs.Steps.{refusal_of, renewed, there?, bytes_in, length_in}
use Rattle.plan.specs.Sources.{font_of, Opens, Walked, Kept, PostSized, Found, Planned, MetricsPassed, NamePassed, after_post, after_name, after_metrics}
use Rattle.hmtx.specs.Measures.{sizes}
use Rattle.plan.proofs.Rostered as rostered

-- an absent table's measure, and one that is there
module _ (font : Bytes) (t : Places) (k : ℕ) (f : Bytes → Res Bytes) where
  pub absent-size : present_at t k ≡ false → ok 0 ≡ map_res length_in (optional f (option_at font t k))
  unfolding option_at
  absent-size e = rw e

  pub present-size : present_at t k ≡ true → map_res length (f (content_at font t k)) ≡ map_res length_in (optional f (option_at font t k))
  unfolding option_at
  present-size e = rw e (go (f (content_at font t k)))
    where
      go : (m : Res Bytes) → map_res length m ≡ map_res length_in (m >>= λ c. ok (some c))
      go (refuse j) = refl
      go (ok c) = refl

-- the scratch
pub kept-all : (post : Option Bytes) (n : ℕ) (scratch : List ℕ) → Kept post n scratch scratch
kept-all post n scratch = record { same_length = refl; front = refl; back = refl; same = λ _. refl }

module _ (font : Bytes) (s : Source) (before after : List ℕ) (kept : ℕ) (o : Opens font s) (w : Walked font s before kept) (k : Kept (font_of font s).post s.n before after) where
  pub roster_stays : take kept after ≡ take kept before
  roster_stays =
      let h : kept ≤ 2 * s.n = omega (arith, rostered.fewer font s before kept o w) in
      sym (take-take kept (2 * s.n) after h) ∙ ap (take kept) k.front ∙ take-take kept (2 * s.n) before h

  pub walked_stays : Walked font s after kept
  walked_stays =
      record {
        ids = w.ids;
        closes = w.closes ∙ ap ok (sym roster_stays);
        inside = omega (arith, w.inside, k.same_length);
        numbers = λ g h.
            sym (get_or-take (2 * s.n) after (s.n + g) 0 (omega arith)) ∙ ap (λ (l : List ℕ). get_or l (s.n + g) 0) k.front ∙ get_or-take (2 * s.n) before (s.n + g) 0 (omega arith)
            ∙ w.numbers g h ∙ ap (λ (l : List ℕ). number_in l g) (sym roster_stays);
        space = omega (arith, w.space, k.same_length);
      }

-- post
module _ (font : Bytes) (t : Places) (n kept : ℕ) (before : List ℕ) where
  pub post-absent : present_at t 9 ≡ false → PostSized (contents font t) n kept before before (Ok 0)
  unfolding contents option_at
  post-absent e =
      record {
        size = absent-size font t 9 (λ b. cut_post b (take kept before)) e;
        untouched = kept-all _ n before;
        index = λ _ b q. true_false (sym (ap there? (rw e at q)));
      }

  pub post-present : (b after : List ℕ) (r : Result ℕ Refusal) → present_at t 9 ≡ true → b ≡ content_at font t 9 → Measured b before n kept r after → PostSized (contents font t) n kept before after r
  unfolding contents option_at
  post-present b after r e q m =
      record {
        size = m.size ∙ ap (λ (b : Bytes). map_res length (cut_post b (take kept before))) q ∙ present-size font t 9 (λ b. cut_post b (take kept before)) e;
        untouched = record { same_length = m.same_length; front = m.front; back = m.back; same = λ u. m.unnamed (λ v. (rw e at u) (ap (λ (x : Bytes). word32 x 0) (sym q) ∙ v)) };
        index = λ h c p. subst (λ (x : Bytes). Indexed x after n kept) (q ∙ ap bytes_in (rw e at p)) (m.index h);
      }

-- a step refuses, or passes and leaves the rest
module _ {A B : Type 0} (f : A → B) (m : Res A) (rest whole : Res CutFont) (is : whole ≡ (m >> rest)) (t : Tables) (n kept : ℕ) (before after : List ℕ) where
  pub planned_refused : (e : Refusal) → refuse (number e) ≡ map_res f m → Kept t.post n before after → Planned whole t n kept before after (Err e)
  planned_refused e q u =
      record {
        fits = sym (ap is_ok refused);
        refusal = sym (ap refusal_of refused);
        found = λ p h. err-ok h;
        untouched = u;
        index = λ h. true_false (sym h);
      }
    where
      go : (m : Res A) → refuse (number e) ≡ map_res f m → (m >> rest) ≡ refuse (number e)
      go (refuse j) q = ap refuse (sym (ap refusal_of q))
      go (ok a) q = ok-refuse (sym q)

      refused : whole ≡ refuse (number e)
      refused = is ∙ go m q

      err-ok : {C : Type 0} {p : Plan} → Err e ≡ Ok p → C
      err-ok h = ok-refuse (sym (ap res_of h))

  pub planned_passed : (b : B) → ok b ≡ map_res f m → (p : Result Plan Refusal) → Planned rest t n kept before after p → Planned whole t n kept before after p
  planned_passed b e p q = subst (λ (w : Res CutFont). Planned w t n kept before after p) (sym (is ∙ go m e)) q
    where
      go : (m : Res A) → ok b ≡ map_res f m → (m >> rest) ≡ rest
      go (refuse j) e = ok-refuse e
      go (ok a) e = refl

-- steps 8 and 7, and step 6: the outlines were read before, so they refuse nothing
pub post-step : (t : Tables) (r : List ℕ) → after_name t r ≡ (optional (λ b. cut_post b r) t.post >> after_post t r)
unfolding after_name
post-step t r = refl

pub name-step : (t : Tables) (r : List ℕ) → after_metrics t r ≡ (optional cut_name t.name >> after_name t r)
unfolding after_metrics
name-step t r = refl

abbrev cut_font : List ℕ → Tables → CutFont
cut_font r t = record { roster = r; tables = t }

rewritten : (t : Tables) (r : List ℕ) (bs : Res (List Bytes)) (ms : Res (List Metric)) (name post : Res (Option Bytes)) → is_ok bs ≡ true
    → (bs >>= λ bs. ms >>= λ ms. name >>= λ name. post >>= λ post. ok (cut_font r (new_tables t (length r) bs ms name post)))
    ≡ (ms >> (name >> (post >> ok (cut_font r (new_tables t (length r) (value_of [] bs) (value_of [] ms) (value_of none name) (value_of none post))))))
rewritten t r (refuse k) ms name post e = true_false (sym e)
rewritten t r (ok bs) (refuse k) name post e = refl
rewritten t r (ok bs) (ok ms) (refuse k) post e = refl
rewritten t r (ok bs) (ok ms) (ok name) (refuse k) e = refl
rewritten t r (ok bs) (ok ms) (ok name) (ok post) e = refl

pub metrics-step : (t : Tables) (r : List ℕ) → is_ok (each (piece_of t (place r)) r) ≡ true → rewrite t r ≡ (metrics t.hhea t.hmtx r >> after_metrics t r)
unfolding rewrite renewed after_metrics after_name after_post
metrics-step t r e = rewritten t r (each (piece_of t (place r)) r) (metrics t.hhea t.hmtx r) (optional cut_name t.name) (optional (λ b. cut_post b r) t.post) e

-- what steps 6 to 8 make if none refuses
rest_of : {A : Type 0} (m : Res A) (rest : Res CutFont) → is_ok (m >> rest) ≡ true → ((m >> rest) ≡ rest) × (is_ok rest ≡ true)
rest_of (refuse k) rest e = true_false (sym e)
rest_of (ok a) rest e = (refl, e)

pub rewrite-made : (t : Tables) (r : List ℕ) → is_ok (each (piece_of t (place r)) r) ≡ true → is_ok (rewrite t r) ≡ true → rewrite t r ≡ ok (record { roster = r; tables = renewed t r })
unfolding after_metrics after_name after_post
rewrite-made t r e h =
    let six = metrics-step t r e in
    let a = rest_of (metrics t.hhea t.hmtx r) (after_metrics t r) (sym (ap is_ok six) ∙ h) in
    let b = rest_of (optional cut_name t.name) (after_name t r) a.1 in
    let c = rest_of (optional (λ b. cut_post b r) t.post) (after_post t r) b.1 in
    six ∙ a.0 ∙ b.0 ∙ c.0

-- the three steps, of a roster whose outlines were read
module _ (font : Bytes) (s : Source) (before : List ℕ) (kept : ℕ) (o : Opens font s) (w : Walked font s before kept) where
  abbrev t : Tables
  t = font_of font s

  abbrev r : List ℕ
  r = take kept before

  after-six : rewrite t r ≡ (metrics t.hhea t.hmtx r >> after_metrics t r)
  after-six = metrics-step t r (rostered.pieces-fine font s before kept o w)

  pub metrics_refused : (e : Refusal) → refuse (number e) ≡ map_res sizes (metrics t.hhea t.hmtx r) → Planned (rewrite t r) t s.n kept before before (Err e)
  metrics_refused e q = planned_refused sizes (metrics t.hhea t.hmtx r) (after_metrics t r) (rewrite t r) after-six t s.n kept before before e q (kept-all t.post s.n before)

  module _ (count hmtx : ℕ) (metric : MetricsPassed t r count hmtx) where
    metrics_passed : (after : List ℕ) (p : Result Plan Refusal) → Planned (after_metrics t r) t s.n kept before after p → Planned (rewrite t r) t s.n kept before after p
    metrics_passed after p v = planned_passed sizes (metrics t.hhea t.hmtx r) (after_metrics t r) (rewrite t r) after-six t s.n kept before after (count, hmtx) metric p v

    pub name_refused : (e : Refusal) → refuse (number e) ≡ map_res length_in (optional cut_name t.name) → Planned (rewrite t r) t s.n kept before before (Err e)
    name_refused e q =
        metrics_passed before (Err e)
        (planned_refused length_in (optional cut_name t.name) (after_name t r) (after_metrics t r) (name-step t r) t s.n kept before before e q (kept-all t.post s.n before))

    module _ (name : ℕ) (named : NamePassed t name) (after : List ℕ) where
      name_passed : (p : Result Plan Refusal) → Planned (after_name t r) t s.n kept before after p → Planned (rewrite t r) t s.n kept before after p
      name_passed p v =
          metrics_passed after p (planned_passed length_in (optional cut_name t.name) (after_name t r) (after_metrics t r) (name-step t r) t s.n kept before after name named p v)

      pub post_refused : (e : Refusal) → PostSized t s.n kept before after (Err e) → Planned (rewrite t r) t s.n kept before after (Err e)
      post_refused e z =
          name_passed (Err e)
          (planned_refused length_in (optional (λ b. cut_post b r) t.post) (after_post t r) (after_name t r) (post-step t r) t s.n kept before after e z.size z.untouched)

      pub all_passed : (post : ℕ) → PostSized t s.n kept before after (Ok post) → (p : Plan) → Found t r p → Planned (rewrite t r) t s.n kept before after (Ok p)
      unfolding after_post
      all_passed post z p f =
          name_passed (Ok p)
          (planned_passed length_in (optional (λ b. cut_post b r) t.post) (after_post t r) (after_name t r) (post-step t r) t s.n kept before after post z.size (Ok p)
          (record {
            fits = refl;
            refusal = refl;
            found = λ q h. subst (Found t r) (ap the_plan h) f;
            untouched = z.untouched;
            index = λ _. z.index refl;
          }))
        where
          the_plan : Result Plan Refusal → Plan
          the_plan (Ok q) = q
          the_plan (Err e) = p
