-- What each table's writer asks for, and that its bytes are the new table: from the steps that have passed.
use mathlib.Core.Logic.{◌⊎◌, inl, inr}
use mathlib.Core.Path.{◌≡◌, refl, sym, ap, ap₂, ◌∙◌, subst}
use mathlib.Core.Bool.{Bool, true, false}
use mathlib.Core.Option.{Option, none, some}
use mathlib.Core.List.{List, []}
use Prim.Native.Nat.{ℕ, zero, suc, ◌+◌, ◌*◌, ◌≤◌, ◌<◌}
use native.Mathlib.Omega.{arith}
use native.Mathlib.Decide.{dec_lt}
use native.Mathlib.Numerals.{add-one}
use lib.ListN.{length, get_or, take}
use Rattle.model.specs.Res.{Res, refuse, ok, pick, each, map_res, is_ok, value_of, ◌>>=◌}
use Rattle.model.specs.Bytes.{Bytes, put, over, member, place}
use Rattle.model.specs.Font.{Tables}
use Rattle.model.specs.Glyf.{Width, width, width_of, entry_size, size, new_width, new_glyf, new_loca, new_head}
use Rattle.model.specs.Metrics.{Metric, metrics, new_count, new_hmtx, new_hhea}
use Rattle.model.specs.Name.{cut_name}
use Rattle.model.specs.Post.{cut_post}
use Rattle.model.specs.Cut.{CutFont, count, piece_of, new_maxp, optional, rewrite}
use Rattle.model.proofs.Res.{true_false}
use Rattle.places.specs.Places.{present_at, content_at, option_at, contents}
use Rattle.hmtx.specs.Measures.{sizes, metrics_of}
use Rattle.hmtx.proofs.Step.{Fits as MetricsFit, measured-fits}
use Rattle.glyf.specs.Pieces.{pieces, Readable, Numbered, both_tables, TablesRoom}
use Rattle.glyf.proofs.Pieces.{each-piece_of, value_of_lem, length-pieces}
use Rattle.glyf.proofs.Tables.{length-new_loca}
use Rattle.glyf.proofs.Walked.{readable_from, numbered_from}
use Rattle.post.specs.Post.{Indexed}
use Rattle.construct.specs.Construct.{body_of}
use Rattle.plan.specs.declared.Source.{Source}
use Rattle.plan.specs.declared.Plan.{Plan}
use Rattle.plan.specs.Steps.{renewed, tables_of, there?, bytes_in}
use Rattle.plan.specs.Sources.{font_of}
use Rattle.plan.proofs.Rostered as rostered
use Rattle.tables.specs.Writing.{body_from, Ran, FitsFrom, OutlinesFitFrom}
use Rattle.tables.proofs.Standing.{body_is}
use Rattle.tables.proofs.Lengths.{offsets_fit, length-new_head, length-new_hhea, length-new_maxp}

-- what hmtx's writer asks for
abbrev pub HmtxRoom : Bytes → Bytes → List ℕ → ℕ → Bytes → Type 0
HmtxRoom hhea hmtx r n out =
    ((36 ≤ length hhea) × (0 < length r) × (length r ≤ 65535))
    × ((is_ok (metrics hhea hmtx r) ≡ true)
    × ((n ≡ new_count (metrics_of hhea hmtx r)) × (length (new_hmtx n (metrics_of hhea hmtx r)) ≤ length out)))

-- and post's
abbrev pub PostRoom : Bytes → List ℕ → ℕ → ℕ → Bytes → Type 0
PostRoom post scratch n kept out =
    ((kept ≤ 65535) × (kept ≤ n) × (n ≤ 65536) × (4 * n ≤ length scratch))
    × (Indexed post scratch n kept
    × ((is_ok (cut_post post (take kept scratch)) ≡ true) × (length (value_of [] (cut_post post (take kept scratch))) ≤ length out)))

-- no step refuses
record Passed (t : Tables) (r : List ℕ) : Type 0 where
  metrics : is_ok (metrics t.hhea t.hmtx r) ≡ true
  name : is_ok (optional cut_name t.name) ≡ true
  post : is_ok (optional (λ b. cut_post b r) t.post) ≡ true

steps : (bs : Res (List Bytes)) (ms : Res (List Metric)) (name post : Res (Option Bytes)) (f : List Bytes → List Metric → Option Bytes → Option Bytes → CutFont)
    → is_ok (bs >>= λ bs. ms >>= λ ms. name >>= λ name. post >>= λ post. ok (f bs ms name post)) ≡ true
    → (is_ok ms ≡ true) × (is_ok name ≡ true) × (is_ok post ≡ true)
steps (refuse k) ms name post f e = true_false (sym e)
steps (ok bs) (refuse k) name post f e = true_false (sym e)
steps (ok bs) (ok ms) (refuse k) post f e = true_false (sym e)
steps (ok bs) (ok ms) (ok name) (refuse k) f e = true_false (sym e)
steps (ok bs) (ok ms) (ok name) (ok post) f e = (refl, refl, refl)

-- a table that may be absent: what is there of the new one is the old one's, cut
record Cut (f : Bytes → Res Bytes) (x : Bytes) (o : Option Bytes) (present : Bool) : Type 0 where
  old : present ≡ true
  good : is_ok (f x) ≡ true
  same : value_of [] (f x) ≡ bytes_in o

cut-there : (f : Bytes → Res Bytes) (b : Bool) (x : Bytes) → is_ok (optional f (pick b (some x) none)) ≡ true
    → there? (value_of none (optional f (pick b (some x) none))) ≡ true → Cut f x (value_of none (optional f (pick b (some x) none))) b
cut-there f false x e t = true_false (sym t)
cut-there f true x e t = go (f x) refl e
  where
    go : (m : Res Bytes) → f x ≡ m → is_ok (m >>= λ c. ok (some c)) ≡ true → Cut f x (value_of none (m >>= λ c. ok (some c))) true
    go (refuse k) q e = true_false (sym e)
    go (ok y) q e = record { old = refl; good = ap is_ok q; same = ap (value_of []) q }

copied-there : (b : Bool) (x : Bytes) → there? (pick b (some x) none) ≡ true → x ≡ bytes_in (pick b (some x) none)
copied-there true x e = refl
copied-there false x e = true_false (sym e)

-- by its number
pub at-number : {font : Bytes} {s : Source} {scratch : List ℕ} {kept : ℕ} {p : Plan} {out : Bytes} {k j : ℕ} → k ≡ j
    → FitsFrom font s scratch kept p k out → FitsFrom font s scratch kept p j out
at-number {font = font} {s = s} {scratch = scratch} {kept = kept} {p = p} {out = out} e f = subst (λ (n : ℕ). FitsFrom font s scratch kept p n out) e f

-- which tables are copied
abbrev pub Copied : ℕ → Type 0
Copied k = (k ≡ 0) ⊎ ((k ≡ 1) ⊎ (k ≡ 10))

past : (k m : ℕ) → m ≤ k → (k ≡ m → ⊥) → m + 1 ≤ k
past k m h n = omega arith

first : (k : ℕ) → (k < 2 → ⊥) → 2 ≤ k
first k n = omega arith

tenth : (k : ℕ) → 10 ≤ k → k < 11 → k ≡ 10
tenth k l h = omega arith

low : (k : ℕ) → k < 2 → Copied k
low zero h = inl refl
low (suc zero) h = inr (inl refl)
low (suc (suc k)) h = absurd (omega arith)

pub the_others : (k : ℕ) → k < 11 → (k ≡ 2 → ⊥) → (k ≡ 3 → ⊥) → (k ≡ 4 → ⊥) → (k ≡ 5 → ⊥) → (k ≡ 6 → ⊥) → (k ≡ 7 → ⊥) → (k ≡ 8 → ⊥) → (k ≡ 9 → ⊥) → Copied k
the_others k h n₂ n₃ n₄ n₅ n₆ n₇ n₈ n₉ =
    elim (dec_lt k 2) [
      | yes l ↦ low k l
      | no g ↦ inr (inr (tenth k (past k 9 (past k 8 (past k 7 (past k 6 (past k 5 (past k 4 (past k 3 (past k 2 (first k g) n₂) n₃) n₄) n₅) n₆) n₇) n₈) n₉) h))
    ]

module _ {font : Bytes} {s : Source} {scratch : List ℕ} {kept : ℕ} {p : Plan} (w : Ran font s scratch kept p) where
  passed : Passed (font_of font s) (take kept scratch)
  unfolding rewrite
  passed =
      let e = steps (each (piece_of (font_of font s) (place (take kept scratch))) (take kept scratch)) (metrics (font_of font s).hhea (font_of font s).hmtx (take kept scratch)) (optional cut_name (font_of font s).name) (optional (λ b. cut_post b (take kept scratch)) (font_of font s).post) _ w.passed in
      record { metrics = e.0; name = e.1; post = e.2 }

  pub roster-size : length (take kept scratch) ≡ kept
  roster-size = rostered.size font s scratch kept w.opens w.walked

  pub roster-few : kept ≤ 65535
  roster-few = rostered.few font s scratch kept w.opens w.walked

  pub roster-some : 0 < kept
  roster-some = rostered.some font s scratch kept w.opens w.walked

  -- head
  pub head_body : new_head (width p.wide) (content_at font s.tables 3) ≡ body_from font s scratch kept 3
  unfolding body_from body_of renewed contents
  head_body = ap (λ (v : Width). new_head v (content_at font s.tables 3)) w.found.width

  pub head-room : (out : Bytes) → length (body_from font s scratch kept 3) ≤ length out → (52 ≤ length (content_at font s.tables 3)) × (length (content_at font s.tables 3) ≤ length out)
  unfolding contents
  head-room out h =
      let l = w.opens.long.head in
      let e = ap length head_body in
      let n = length-new_head (width p.wide) (content_at font s.tables 3) l in
      (l, omega arith)

  -- hhea and hmtx
  metrics_fit : MetricsFit (content_at font s.tables 4) (content_at font s.tables 5) (take kept scratch) p.count
      (length (new_hmtx (new_count (metrics_of (content_at font s.tables 4) (content_at font s.tables 5) (take kept scratch))) (metrics_of (content_at font s.tables 4) (content_at font s.tables 5) (take kept scratch))))
  unfolding contents
  metrics_fit =
      let m = metrics (content_at font s.tables 4) (content_at font s.tables 5) (take kept scratch) in
      let ms = metrics_of (content_at font s.tables 4) (content_at font s.tables 5) (take kept scratch) in
      let l = length (new_hmtx (new_count ms) ms) in
      measured-fits (content_at font s.tables 4) (content_at font s.tables 5) (take kept scratch) p.count l
      (ap (λ (c : ℕ). ok (c, l)) w.found.counted ∙ sym (ap (map_res sizes) (value_of_lem [] m passed.metrics)))
      (omega (arith, roster-size, roster-some))

  pub hhea_body : new_hhea (content_at font s.tables 4) p.count ≡ body_from font s scratch kept 4
  unfolding body_from body_of renewed contents
  hhea_body = ap (new_hhea (content_at font s.tables 4)) w.found.counted

  pub hhea-room : (out : Bytes) → length (body_from font s scratch kept 4) ≤ length out
      → (2 ≤ length (content_at font s.tables 4)) × (length (content_at font s.tables 4) ≤ length out) × (p.count ≤ 65535)
  unfolding contents
  hhea-room out h =
      let l = w.opens.long.hhea in
      let e = ap length hhea_body in
      let n = length-new_hhea (content_at font s.tables 4) p.count (omega arith) in
      let c = metrics_fit.most in
      let z = roster-size in
      let f = roster-few in
      (omega arith, omega arith, omega arith)

  pub hmtx_body : new_hmtx p.count (metrics_of (content_at font s.tables 4) (content_at font s.tables 5) (take kept scratch)) ≡ body_from font s scratch kept 5
  unfolding body_from body_of renewed contents
  hmtx_body =
      ap (λ (c : ℕ). new_hmtx c (metrics_of (content_at font s.tables 4) (content_at font s.tables 5) (take kept scratch))) w.found.counted

  pub hmtx-room : (out : Bytes) → length (body_from font s scratch kept 5) ≤ length out → HmtxRoom (content_at font s.tables 4) (content_at font s.tables 5) (take kept scratch) p.count out
  unfolding contents
  hmtx-room out h =
      let l = w.opens.long.hhea in
      let e = ap length hmtx_body in
      let z = roster-size in
      let f = roster-few in
      let g = roster-some in
      ((l, omega arith, omega arith), (metrics_fit.good, (metrics_fit.is-count, omega arith)))

  -- glyf and loca
  pieces-same : pieces (width s.long) s.n (content_at font s.tables 6) (content_at font s.tables 2) (take kept scratch)
      ≡ value_of [] (each (piece_of (font_of font s) (place (take kept scratch))) (take kept scratch))
  unfolding pieces contents
  pieces-same =
      ap₂ (λ (v : Width) (n : ℕ). pieces v n (content_at font s.tables 6) (content_at font s.tables 2) (take kept scratch)) w.opens.wide w.opens.number
      ∙ ap (value_of []) (sym (each-piece_of (font_of font s) (place (take kept scratch)) (take kept scratch)))

  -- what the walk made sure of, of the width and the number of glyphs that the code carries
  as_carried : (P : Width → ℕ → Type 0) → P (width_of (font_of font s).head) (count (font_of font s)) → P (width s.long) s.n
  as_carried P x = subst (λ (v : Width). P v s.n) (sym w.opens.wide) (subst (λ (n : ℕ). P (width_of (font_of font s).head) n) (sym w.opens.number) x)

  readable : Readable (width s.long) s.n (content_at font s.tables 6) (content_at font s.tables 2) (take kept scratch)
  unfolding contents
  readable =
      as_carried (λ (v : Width) (n : ℕ). Readable v n (content_at font s.tables 6) (content_at font s.tables 2) (take kept scratch))
      (readable_from (font_of font s) w.walked.ids (take kept scratch) w.walked.closes)

  number : (g : ℕ) → member g (take kept scratch) ≡ true → get_or scratch (count (font_of font s) + g) 0 ≡ place (take kept scratch) g + 1
  number g m =
      ap (λ (n : ℕ). get_or scratch (n + g) 0) (sym w.opens.number) ∙ w.walked.numbers g (rostered.low font s scratch kept w.opens w.walked g m)
      ∙ ap (λ (b : Bool). pick b (suc (place (take kept scratch) g)) 0) m ∙ sym (add-one (place (take kept scratch) g))

  numbered : Numbered (width s.long) s.n (content_at font s.tables 6) (content_at font s.tables 2) scratch kept
  unfolding contents
  numbered =
      as_carried (λ (v : Width) (n : ℕ). Numbered v n (content_at font s.tables 6) (content_at font s.tables 2) scratch kept)
      (subst (λ (k : ℕ). Numbered (width_of (font_of font s).head) (count (font_of font s)) (content_at font s.tables 6) (content_at font s.tables 2) scratch k) roster-size
      (numbered_from (font_of font s) w.walked.ids (take kept scratch) w.walked.closes scratch (ap (λ (k : ℕ). take k scratch) roster-size)
      (omega (arith, w.opens.number, w.walked.space)) number))

  glyf_body : new_glyf (width p.wide) (pieces (width s.long) s.n (content_at font s.tables 6) (content_at font s.tables 2) (take kept scratch)) ≡ body_from font s scratch kept 2
  unfolding body_from body_of renewed
  glyf_body = ap₂ (λ (v : Width) (bs : List Bytes). new_glyf v bs) w.found.width pieces-same

  loca_body : new_loca (width p.wide) 0 (pieces (width s.long) s.n (content_at font s.tables 6) (content_at font s.tables 2) (take kept scratch)) ≡ body_from font s scratch kept 6
  unfolding body_from body_of renewed
  loca_body = ap₂ (λ (v : Width) (bs : List Bytes). new_loca v 0 bs) w.found.width pieces-same

  pub both-bodies : (distance : ℕ) (out : Bytes)
      → both_tables (width p.wide) (pieces (width s.long) s.n (content_at font s.tables 6) (content_at font s.tables 2) (take kept scratch)) distance out
      ≡ put (over (body_from font s scratch kept 2) out) distance (body_from font s scratch kept 6)
  unfolding both_tables
  both-bodies distance out = ap₂ (λ (g l : Bytes). put (over g out) distance l) glyf_body loca_body

  pub tables-room : (distance : ℕ) (out : Bytes) → OutlinesFitFrom font s scratch kept p out distance
      → TablesRoom (width s.long) (width p.wide) s.n (content_at font s.tables 6) (content_at font s.tables 2) scratch kept out distance
  tables-room distance out f =
      let bs = pieces (width s.long) s.n (content_at font s.tables 6) (content_at font s.tables 2) (take kept scratch) in
      let l = ap length loca_body in
      let n = length-new_loca (width p.wide) 0 bs ∙ ap (λ (k : ℕ). entry_size (width p.wide) * (k + 1)) (length-pieces readable ∙ roster-size) in
      let g = ap length glyf_body in
      record {
        numbered = numbered;
        offsets = offsets_fit (width p.wide) bs (w.found.width ∙ ap (λ (x : List Bytes). new_width (size x)) (sym pieces-same)) (omega (arith, f.offsets));
        behind = omega (arith, f.behind);
        room = omega (arith, f.room);
      }

  -- maxp
  pub maxp_body : new_maxp (content_at font s.tables 7) kept ≡ body_from font s scratch kept 7
  unfolding body_from body_of renewed contents
  maxp_body = ap (new_maxp (content_at font s.tables 7)) (sym roster-size)

  pub maxp-room : (out : Bytes) → length (body_from font s scratch kept 7) ≤ length out → (6 ≤ length (content_at font s.tables 7)) × (length (content_at font s.tables 7) ≤ length out)
  unfolding contents
  maxp-room out h =
      let l = w.opens.long.maxp in
      let e = ap length maxp_body in
      let n = length-new_maxp (content_at font s.tables 7) kept l in
      (l, omega arith)

  -- name and post, where they are there
  module _ (there : there? (get_or (tables_of (renewed (font_of font s) (take kept scratch))) 8 none) ≡ true) where
    name-cut : Cut cut_name (content_at font s.tables 8) (value_of none (optional cut_name (option_at font s.tables 8))) (present_at s.tables 8)
    unfolding option_at contents renewed
    name-cut = cut-there cut_name (present_at s.tables 8) (content_at font s.tables 8) passed.name there

    pub name_body : value_of [] (cut_name (content_at font s.tables 8)) ≡ body_from font s scratch kept 8
    unfolding body_from renewed contents
    name_body = name-cut.same ∙ sym (body_is (renewed (font_of font s) (take kept scratch)) 8)

    pub name-room : (out : Bytes) → length (body_from font s scratch kept 8) ≤ length out
        → (is_ok (cut_name (content_at font s.tables 8)) ≡ true) × (length (value_of [] (cut_name (content_at font s.tables 8))) ≤ length out)
    name-room out h = let e = ap length name_body in (name-cut.good, omega arith)

  module _ (there : there? (get_or (tables_of (renewed (font_of font s) (take kept scratch))) 9 none) ≡ true) where
    post-cut : Cut (λ b. cut_post b (take kept scratch)) (content_at font s.tables 9) (value_of none (optional (λ b. cut_post b (take kept scratch)) (option_at font s.tables 9))) (present_at s.tables 9)
    unfolding option_at contents renewed
    post-cut = cut-there (λ b. cut_post b (take kept scratch)) (present_at s.tables 9) (content_at font s.tables 9) passed.post there

    pub post-body : value_of [] (cut_post (content_at font s.tables 9) (take kept scratch)) ≡ body_from font s scratch kept 9
    unfolding body_from renewed contents
    post-body = post-cut.same ∙ sym (body_is (renewed (font_of font s) (take kept scratch)) 9)

    pub post-room : (out : Bytes) → length (body_from font s scratch kept 9) ≤ length out → PostRoom (content_at font s.tables 9) scratch s.n kept out
    unfolding option_at contents
    post-room out h =
        let e = ap length post-body in
        let index = w.index (content_at font s.tables 9) (ap (λ (b : Bool). pick b (some (content_at font s.tables 9)) none) post-cut.old) in
        ((roster-few, rostered.fewer font s scratch kept w.opens w.walked, rostered.most font s scratch kept w.opens w.walked, w.walked.space), (index, (post-cut.good, omega arith)))

  -- cvt, fpgm, prep
  copied-same : (k : ℕ) → get_or (tables_of (renewed (font_of font s) (take kept scratch))) k none ≡ option_at font s.tables k
      → there? (get_or (tables_of (renewed (font_of font s) (take kept scratch))) k none) ≡ true → content_at font s.tables k ≡ body_from font s scratch kept k
  unfolding option_at body_from
  copied-same k e there =
      copied-there (present_at s.tables k) (content_at font s.tables k) (ap there? (sym e) ∙ there)
      ∙ ap bytes_in (sym e) ∙ sym (body_is (renewed (font_of font s) (take kept scratch)) k)

  pub copied_body : (k : ℕ) → Copied k → there? (get_or (tables_of (renewed (font_of font s) (take kept scratch))) k none) ≡ true
      → content_at font s.tables k ≡ body_from font s scratch kept k
  unfolding renewed contents
  copied_body k (inl e) there = copied-same k (rw e refl) there
  copied_body k (inr (inl e)) there = copied-same k (rw e refl) there
  copied_body k (inr (inr e)) there = copied-same k (rw e refl) there
