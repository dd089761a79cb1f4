-- The places with the new lengths are those of the new tables, one by one: each new table's length is what its measure found, or the old one's.
use mathlib.Core.Path.{◌≡◌, refl, sym, ap, ap₂, ◌∙◌, subst}
use mathlib.Core.Bool.{Bool, true, false}
use mathlib.Core.Option.{Option, none, some}
use mathlib.Core.List.{List, [], ◌∷◌, map}
use Prim.Native.Nat.{ℕ, zero, suc, ◌+◌, ◌*◌, ◌≤◌, ◌<◌}
use native.Mathlib.Omega.{arith}
use lib.Dec.{ltb, lit<}
use lib.ListN.{length, get_or, take, length-append, length-take, length-drop}
use Rattle.model.specs.Res.{Res, refuse, ok, pick, each, map_res, value_of, ◌>>=◌}
use Rattle.model.specs.Bytes.{Bytes, put, sum, place}
use Rattle.model.specs.Glyf.{Width, short, long, width, entry_size, size, new_width, new_glyf, new_loca, width_bytes, new_head}
use Rattle.model.specs.Metrics.{new_hmtx, new_hhea}
use Rattle.model.specs.Name.{cut_name}
use Rattle.model.specs.Post.{cut_post}
use Rattle.model.specs.Cut.{count, piece_of, new_maxp, optional}
use Rattle.model.proofs.Res.{true_false, ok-refuse, ok_inj}
use Rattle.model.proofs.Members.{by}
use Rattle.model.proofs.Bytes.{length-put}
use Rattle.std.specs.Prelude.{Option as Maybe, None, is_some}
use Rattle.std.specs.Option.{unwrap_or}
use Rattle.places.specs.declared.Place.{Place}
use Rattle.places.specs.declared.Tables.{Tables as Places}
use Rattle.places.specs.Places.{missing, place_at, present_at, content_at, option_at, contents, Within}
use Rattle.face.proofs.Gather.{length-content}
use Rattle.hmtx.specs.Measures.{metrics_of}
use Rattle.hmtx.proofs.Step.{Fits, measured-fits}
use Rattle.glyf.specs.Pieces.{pieces, length_at, Readable}
use Rattle.glyf.proofs.Pieces.{each-piece_of, length-pieces}
use Rattle.glyf.proofs.Tables.{width-new, length-new_glyf, length-new_loca}
use Rattle.glyf.proofs.Walked.{readable_from, measured-roster}
use Rattle.closure.specs.Closes.{even_length, raw_length}
use Rattle.plan.specs.declared.Source.{Source}
use Rattle.plan.specs.declared.Sums.{Sums}
use Rattle.plan.specs.declared.Plan.{Plan}
use Rattle.plan.specs.Steps.{renewed, there?, length_in, tables_of, Sized, sized_place, sized_by, plan_of}
use Rattle.plan.specs.Sources.{font_of, Opens, Walked, OutlinesAdded, MetricsPassed, NamePassed, PostPassed, Found}
use Rattle.plan.proofs.Rostered as rostered

-- a place, or none, has the presence and the length of a table that may be there
pub record Fit (p : Maybe Place) (o : Option Bytes) : Type 0 where
  pub present : is_some p ≡ there? o
  pub length : (unwrap_or p missing).length ≡ length_in o

pub fit_place : (b : Bool) (l : ℕ) (o : Option Bytes) → b ≡ there? o → (there? o ≡ true → l ≡ length_in o) → Fit (sized_place b l) o
unfolding sized_place
fit_place true l none e f = true_false e
fit_place false l none e f = record { present = refl; length = refl }
fit_place true l (some c) e f = record { present = refl; length = f refl }
fit_place false l (some c) e f = true_false (sym e)

-- the eleven, one after the other
abbrev Fits-all : List (Maybe Place) → List (Option Bytes) → Type 0
Fits-all [] [] = Unit {0}
Fits-all [] (o ∷ os) = ⊥
Fits-all (p ∷ ps) [] = ⊥
Fits-all (p ∷ ps) (o ∷ os) = Fit p o × Fits-all ps os

fit_at : (ps : List (Maybe Place)) (os : List (Option Bytes)) → Fits-all ps os → (k : ℕ) → k < length os → Fit (get_or ps k None) (get_or os k none)
fit_at [] [] f k h = absurd (omega arith)
fit_at [] (o ∷ os) f k h = absurd f
fit_at (p ∷ ps) [] f k h = absurd f
fit_at (p ∷ ps) (o ∷ os) f zero h = f.0
fit_at (p ∷ ps) (o ∷ os) f (suc k) h = fit_at ps os f.1 k (omega arith)

-- a table that is copied
module _ (font : Bytes) (t : Places) (w : Within font t) (k : ℕ) (h : k < 11) where
  there-at : present_at t k ≡ there? (option_at font t k)
  unfolding option_at
  there-at = by (present_at t k) (λ e. rw e) (λ e. rw e)

  copied : Fit (sized_place (present_at t k) (place_at t k).length) (option_at font t k)
  unfolding option_at
  copied =
      fit_place (present_at t k) (place_at t k).length (option_at font t k) there-at
      (λ f. by (present_at t k) (λ e. rw e (sym (length-content font t w k h))) (λ e. true_false (sym f ∙ sym there-at ∙ e)))

  -- one that is cut, if it is there
  cut : (f : Bytes → Res Bytes) (l : ℕ) → ok l ≡ map_res length_in (optional f (option_at font t k))
      → Fit (sized_place (present_at t k) l) (value_of none (optional f (option_at font t k)))
  cut f l e = let g = go (option_at font t k) e in fit_place (present_at t k) l (value_of none (optional f (option_at font t k))) (there-at ∙ g.0) (λ _. g.1)
    where
      value : (m : Res Bytes) → ok l ≡ map_res length_in (m >>= λ c. ok (some c))
          → (true ≡ there? (value_of none (m >>= λ c. ok (some c)))) × (l ≡ length_in (value_of none (m >>= λ c. ok (some c))))
      value (refuse j) q = ok-refuse q
      value (ok c) q = (refl, ok_inj q)

      go : (o : Option Bytes) → ok l ≡ map_res length_in (optional f o) → (there? o ≡ there? (value_of none (optional f o))) × (l ≡ length_in (value_of none (optional f o)))
      go none q = (refl, ok_inj q)
      go (some b) q = value (f b) q

-- one that must be there
made : (l : ℕ) (b : Bytes) → l ≡ length b → Fit (sized_place true l) (some b)
made l b e = fit_place true l (some b) refl (λ _. e)

length_width_bytes : (w : Width) → length (width_bytes w) ≡ 2
length_width_bytes short = refl
length_width_bytes long = refl

pub length-new_head : (w : Width) (head : Bytes) → 52 ≤ length head → length (new_head w head) ≡ length head
length-new_head w head h =
    let e = length-put head 50 (width_bytes w) (omega (arith, length_width_bytes w)) in
    length-put (put head 50 (width_bytes w)) 8 (0 ∷ 0 ∷ 0 ∷ 0 ∷ []) (omega arith) ∙ e

pub length-new_hhea : (hhea : Bytes) (k : ℕ) → 36 ≤ length hhea → length (new_hhea hhea k) ≡ length hhea
length-new_hhea hhea k h = simp (length-append, length-take) (omega arith)

pub length-new_maxp : (maxp : Bytes) (n : ℕ) → 6 ≤ length maxp → length (new_maxp maxp n) ≡ length maxp
length-new_maxp maxp n h = simp length-drop (omega arith)

-- what every measure found
module _ (font : Bytes) (s : Source) (scratch : List ℕ) (kept : ℕ) (o : Opens font s) (w : Walked font s scratch kept) where
  pub readable : Readable (width s.long) s.n (font_of font s).loca (font_of font s).glyf (take kept scratch)
  readable =
      subst (λ (n : ℕ). Readable (width s.long) n (font_of font s).loca (font_of font s).glyf (take kept scratch)) (sym o.number)
      (subst (λ (v : Width). Readable v (count (font_of font s)) (font_of font s).loca (font_of font s).glyf (take kept scratch)) (sym o.wide)
      (readable_from (font_of font s) w.ids (take kept scratch) w.closes))

  -- the outlines, and that they are the model's
  abbrev outlines : List Bytes
  outlines = value_of [] (each (piece_of (font_of font s) (place (take kept scratch))) (take kept scratch))

  pieces_are : pieces (width s.long) s.n (font_of font s).loca (font_of font s).glyf (take kept scratch) ≡ outlines
  unfolding pieces
  pieces_are =
      ap₂ (λ (v : Width) (n : ℕ). pieces v n (font_of font s).loca (font_of font s).glyf (take kept scratch)) o.wide o.number
      ∙ ap (value_of []) (sym (each-piece_of (font_of font s) (place (take kept scratch)) (take kept scratch)))

  -- what the walk added up over the roster
  pub added : (even raw : ℕ) → even ≡ even_length (length_at (width s.long) s.n (font_of font s).loca (font_of font s).glyf) (take kept scratch)
      → raw ≡ raw_length (length_at (width s.long) s.n (font_of font s).loca (font_of font s).glyf) (take kept scratch)
      → OutlinesAdded (font_of font s) (take kept scratch) (record { even = even; raw = raw })
  added even raw e f =
      let m = measured-roster (width s.long) s.n (font_of font s).loca (font_of font s).glyf (take kept scratch) readable in
      record { is_even = e ∙ m.is_even ∙ ap size pieces_are; is_raw = f ∙ m.is_raw ∙ ap (λ (l : List Bytes). sum (map (λ (b : Bytes). length b) l)) pieces_are }

  module _ (count hmtx name post : ℕ) (z : Sums) (sums : OutlinesAdded (font_of font s) (take kept scratch) z)
      (metric : MetricsPassed (font_of font s) (take kept scratch) count hmtx) (named : NamePassed (font_of font s) name) (posted : PostPassed (font_of font s) (take kept scratch) post) where
    abbrev wide : Bool
    wide = ltb 131070 z.even

    fits : Fits (font_of font s).hhea (font_of font s).hmtx (take kept scratch) count hmtx
    fits = measured-fits (font_of font s).hhea (font_of font s).hmtx (take kept scratch) count hmtx metric (omega (arith, rostered.size font s scratch kept o w, rostered.some font s scratch kept o w))

    new-width : width wide ≡ new_width (size outlines)
    new-width = width-new outlines wide (ap (ltb 131070) sums.is_even)

    loca-length : entry_size (width wide) * (kept + 1) ≡ length (new_loca (new_width (size outlines)) 0 outlines)
    loca-length =
        ap (λ (m : ℕ). entry_size (width wide) * (m + 1)) (sym (sym (ap length pieces_are) ∙ length-pieces readable ∙ rostered.size font s scratch kept o w))
        ∙ sym (length-new_loca (width wide) 0 outlines) ∙ ap (λ (v : Width). length (new_loca v 0 outlines)) new-width

    all_fit : Fits-all (sized_by s.tables (pick wide z.raw z.even) hmtx (entry_size (width wide) * (kept + 1)) name post).places (tables_of (renewed (font_of font s) (take kept scratch)))
    unfolding sized_by renewed contents
    all_fit = (
      copy 0 (lit< tt),
      (
        copy 1 (lit< tt),
        (
          made _ _ (sym (length-new_glyf outlines wide z.even z.raw sums) ∙ ap (λ (v : Width). length (new_glyf v outlines)) new-width),
          (
            made _ _ (old 3 (lit< tt) ∙ sym (length-new_head (new_width (size outlines)) (content_at font s.tables 3) o.long.head)),
            (
              made _ _ (old 4 (lit< tt) ∙ sym (length-new_hhea (content_at font s.tables 4) _ o.long.hhea)),
              (
                made _ _ (fits.is-size ∙ ap (λ (k : ℕ). length (new_hmtx k (metrics_of (content_at font s.tables 4) (content_at font s.tables 5) (take kept scratch)))) fits.is-count),
                (
                  made _ _ loca-length,
                  (
                    made _ _ (old 7 (lit< tt) ∙ sym (length-new_maxp (content_at font s.tables 7) (length (take kept scratch)) o.long.maxp)),
                    (
                      cut font s.tables o.within 8 (lit< tt) cut_name name named,
                      (
                        cut font s.tables o.within 9 (lit< tt) (λ b. cut_post b (take kept scratch)) post posted,
                        (copy 10 (lit< tt), tt),
                      ),
                    ),
                  ),
                ),
              ),
            ),
          ),
        ),
      ),
    )
      where
        copy : (k : ℕ) → k < 11 → Fit (sized_place (present_at s.tables k) (place_at s.tables k).length) (option_at font s.tables k)
        copy = copied font s.tables o.within

        old : (k : ℕ) → k < 11 → (place_at s.tables k).length ≡ length (content_at font s.tables k)
        old k h = sym (length-content font s.tables o.within k h)

    sized : Sized (renewed (font_of font s) (take kept scratch)) (sized_by s.tables (pick wide z.raw z.even) hmtx (entry_size (width wide) * (kept + 1)) name post)
    sized k h =
        let f = fit_at (sized_by s.tables (pick wide z.raw z.even) hmtx (entry_size (width wide) * (kept + 1)) name post).places (tables_of (renewed (font_of font s) (take kept scratch))) all_fit k h in
        (f.present, f.length)

    pub found : (p : Plan) → p ≡ plan_of s.tables kept z count hmtx name post → Found (font_of font s) (take kept scratch) p
    unfolding plan_of
    found p e =
        record {
          sized = subst (Sized (renewed (font_of font s) (take kept scratch))) (sym (ap (λ (p : Plan). p.sized) e)) sized;
          counted = ap (λ (p : Plan). p.count) e ∙ fits.is-count;
          width = ap (λ (p : Plan). width p.wide) e ∙ new-width;
        }
