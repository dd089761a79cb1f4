-- The whole call: refused before step 5, or cut and cleared.
use mathlib.Core.Path.{◌≡◌, refl, sym, ap, ◌∙◌, subst}
use mathlib.Core.Bool.{Bool, true, false}
use mathlib.Core.Option.{none, some}
use mathlib.Core.List.{List, [], ◌∷◌, ◌++◌}
use Prim.Native.Nat.{ℕ, ◌*◌, ◌-◌, ◌≤◌, ◌<◌}
use native.Mathlib.Omega.{arith}
use native.Mathlib.Nat.{sub-zero}
use lib.Dec.{leb}
use lib.ListN.{length, drop, replicate}
use Rattle.model.specs.Res.{Res, refuse, ok, pick, is_ok, ◌>>=◌}
use Rattle.model.specs.Bytes.{Bytes, word32, put}
use Rattle.model.specs.Font.{Tables, Entry, read, face_start, directory, gather, usable, find, must, GLYF, LOCA, HEAD, HHEA, HMTX, MAXP}
use Rattle.model.specs.Glyf.{width_of}
use Rattle.model.specs.File.{entries, file}
use Rattle.model.specs.Cut.{count, closure, cut_tables}
use Rattle.model.specs.Call.{Input, Made, Promise, ready, made, last, answer, places_from, Answer as Answers}
use Rattle.model.proofs.Res.{true_false, bind_inv, need_inv, ok_inj}
use Rattle.model.proofs.Members.{by, in_under}
use Rattle.model.proofs.Closure.{closure-roster}
use Rattle.model.proofs.Chosen.{pigeons}
use Rattle.model.proofs.Must.{must_inv}
use Rattle.std.specs.Prelude.{Result, Ok, Err}
use Rattle.answer.specs.declared.Refusal.{Refusal}
use Rattle.answer.specs.declared.Refusal.TheVariants.{ScratchTooShort}
use Rattle.answer.specs.declared.CutError.{CutError}
use Rattle.answer.specs.declared.CutError.TheVariants.{Refused, OutputTooShort}
use Rattle.answer.specs.declared.Font.{Font}
use Rattle.answer.specs.Answers.{number, answer_of}
use Rattle.places.specs.declared.Tables.{Tables as Places}
use Rattle.places.specs.Places.{present_at, content_at, option_at, contents, Within}
use Rattle.face.specs.Opening.{Opened}
use Rattle.closure.proofs.Final.{glyphs-small}
use Rattle.plan.specs.declared.Source.{Source}
use Rattle.remapper.specs.Scratch.{Sweepable}
use Rattle.plan.specs.Sources.{font_of, Long, Opens, Unnamed}
use Rattle.subset.specs.Calls.{lent, Cuts}
use Rattle.subset.proofs.Call.{not-ready, read-refuses, scratch-short, is-ready, from_made}
use Rattle.subset.proofs.Cutting.{cleared, rewrite-roster}

-- step 3's least lengths, of a font that was read
gathered : (es : List Entry) (t : Tables) → gather es ≡ ok t → Long t
unfolding gather
gathered es t e =
    let a = bind_inv (must 2 0 (find GLYF es)) _ t e in
    let b = bind_inv (must 3 0 (find LOCA es)) _ t a.then in
    let c = bind_inv (must 3 52 (find HEAD es)) _ t b.then in
    let d = bind_inv (must 3 36 (find HHEA es)) _ t c.then in
    let f = bind_inv (must 3 0 (find HMTX es)) _ t d.then in
    let g = bind_inv (must 3 6 (find MAXP es)) _ t f.then in
    subst Long (ok_inj g.then)
    (record {
      head = (must_inv 3 52 (find HEAD es) c.value c.first).1;
      hhea = (must_inv 3 36 (find HHEA es) d.value d.first).1;
      maxp = (must_inv 3 6 (find MAXP es) g.value g.first).1;
    })

read-long : (font : Bytes) (index : ℕ) (t : Tables) → read font index ≡ ok t → Long t
unfolding read
read-long font index t e =
    let a = bind_inv (face_start font index) _ t e in
    let b = bind_inv (directory font a.value) _ t a.then in
    gathered (usable font b.value) t b.then

-- a file's roster is the walk's, and so has at most n glyphs
roster-closed : (t : Tables) (ids : List ℕ) (v : Made) → made t ids ≡ ok v → closure t ids ≡ ok v.roster
unfolding made cut_tables
roster-closed t ids v e =
    let a = bind_inv (cut_tables t ids) _ v e in
    let c = a.value in
    let w = need_inv 5 (leb (length (file (entries c.tables))) 4294967295) (ok (record { roster = c.roster; bytes = file (entries c.tables) })) v a.then in
    let b = bind_inv (closure t ids) _ c a.first in
    b.first ∙ ap ok (sym (rewrite-roster t b.value c b.then) ∙ ap (λ (m : Made). m.roster) (ok_inj w.1))

roster-few : (t : Tables) (ids : List ℕ) (v : Made) → made t ids ≡ ok v → length v.roster ≤ count t
roster-few t ids v e =
    let r = closure-roster t ids v.roster (roster-closed t ids v e) in
    pigeons (count t) v.roster r.once (in_under (count t) v.roster r.within)

module _ (font : Bytes) (s : Source) (o : Opens font s) (ids before after : List ℕ) (d e : Bytes) (a : Result Font CutError) (v : Cuts (font_of font s) ids s.n before after d e a) where
  roster-room : (w : Made) → made (font_of font s) ids ≡ ok w → length w.roster ≤ 4 * s.n
  roster-room w q = omega (arith, o.number, roster-few (font_of font s) ids w q)

  -- a roster was answered, so its font was made, and what the walk left is known
  kept-sweepable : (f : Font) → a ≡ Ok f → (written : Bool) → (written ≡ false → Unnamed (font_of font s).post) → Sweepable s.n after f.kept written
  kept-sweepable f is written u = go (made (font_of font s) ids) refl
    where
      is_last : answer_of (Ok f) ≡ last (length d) (made (font_of font s) ids)
      is_last = ap answer_of (sym is) ∙ v.answers

      go : (m : Res Made) → made (font_of font s) ids ≡ m → Sweepable s.n after f.kept written
      go (refuse j) q = true_false (sym (v.done f is) ∙ ap is_ok q)
      go (ok w) q =
          let e = is_last ∙ ap (last (length d)) q in
          by (leb (length w.bytes) (length d))
          (λ t. subst (λ (n : ℕ). Sweepable s.n after n written) (sym (ap (λ (x : Answers). x.kept) (rw t at e))) (v.sweepable w q written u))
          (λ t. let z : 0 ≡ 6 = ap (λ (x : Answers). x.refusal) (rw t at e) in absurd (omega arith))

-- a table of no bytes has no names
pub nothing-named : (b : Bytes) → length b ≡ 0 → word32 b 0 ≡ 0x00020000 → ⊥
nothing-named [] e v = absurd (omega arith)
nothing-named (x ∷ xs) e v = absurd (omega arith)

-- what stands where post would is not of version 2: then there are no names
pub post-unnamed : (font : Bytes) (t : Places) → (word32 (content_at font t 9) 0 ≡ 0x00020000 → ⊥) → Unnamed (contents font t).post
unfolding contents option_at
post-unnamed font t u = go (present_at t 9)
  where
    go : (present : Bool) → Unnamed (pick present (some (content_at font t 9)) none)
    go true = u
    go false = tt

-- an error has no roster
none_kept : (e : CutError) → 0 ≡ (answer_of (Err e)).kept
none_kept (Refused r) = refl
none_kept (OutputTooShort needed) = refl

module _ (font : Bytes) (index : ℕ) (ids scratch : List ℕ) (out : Bytes) where
  abbrev x : Input
  x = lent font index ids scratch out

  pub refused-early : (r : Refusal) → refuse (number r) ≡ read font index → Promise x (answer_of (Err (Refused r))) out scratch
  refused-early r e = not-ready x (number r) (read-refuses x (number r) (sym e))

  module _ (t : Places) (f : Opened font index (Ok t)) where
    pub may_open : Within font t × Long (contents font t)
    may_open = (f.within, read-long font index (contents font t) (sym f.reads))

    module _ (s : Source) (opened : (s.tables ≡ t) × Opens font s) where
      o : Opens font s
      o = opened.1

      is_read : read font index ≡ ok (font_of font s)
      is_read = sym f.reads ∙ ap (λ (t : Places). ok (contents font t)) (sym opened.0)

      pub refused-short : length scratch < 4 * s.n → Promise x (answer_of (Err (Refused ScratchTooShort))) out scratch
      refused-short h = not-ready x 8 (scratch-short x (font_of font s) is_read (subst (λ (n : ℕ). length scratch < 4 * n) o.number h))

      module _ (h : 4 * s.n ≤ length scratch) (after : List ℕ) (e : Bytes) (a : Result Font CutError) (v : Cuts (font_of font s) ids s.n scratch after out e a) where
        cut-cleared : (from : ℕ) → from ≡ (answer_of a).kept → (z : List ℕ) → z ≡ put after from (replicate (4 * s.n - from) 0) → Promise x (answer_of a) e z
        cut-cleared from k z q =
            let m = made (font_of font s) ids in
            from_made x (font_of font s) m (answer_of a) e z (is-ready x (font_of font s) is_read (subst (λ (n : ℕ). 4 * n ≤ length scratch) o.number h)) refl v.answers v.writes
            (q
            ∙ cleared out scratch after s.n m from (k ∙ ap (λ (r : Answers). r.kept) v.answers) v.past
            (λ w e. (v.roster w e, roster-room font s o ids scratch after out _ a v w e))
            ∙ ap (λ (n : ℕ). places_from (4 * n) (length out) m ++ drop (4 * n) scratch) o.number)

        pub may_sweep : (g : Font) → a ≡ Ok g → (written : Bool) → (written ≡ false → Unnamed (font_of font s).post)
            → (s.n ≤ 65536) × (4 * s.n ≤ length after) × Sweepable s.n after g.kept written
        may_sweep g is written u = (
          omega (arith, o.number, glyphs-small (width_of (font_of font s).head) (font_of font s).loca),
          omega (arith, v.same_length, h),
          kept-sweepable font s o ids scratch after out e a v g is written u,
        )

        pub swept : (g : Font) → a ≡ Ok g → (z : List ℕ) → z ≡ put after g.kept (replicate (4 * s.n - g.kept) 0) → Promise x (answer_of a) e z
        swept g is = cut-cleared g.kept (sym (ap (λ (a : Result Font CutError). (answer_of a).kept) is))

        pub zeroed : (y : CutError) → a ≡ Err y → (z : List ℕ) → z ≡ put after 0 (replicate (4 * s.n) 0) → Promise x (answer_of a) e z
        zeroed y is z q =
            cut-cleared 0 (none_kept y ∙ sym (ap (λ (a : Result Font CutError). (answer_of a).kept) is)) z
            (q ∙ ap (λ (k : ℕ). put after 0 (replicate k 0)) (sym (sub-zero (4 * s.n))))

-- N is at most 65,536, whatever the call
pub answer-few : (x : Input) → (answer x).kept ≤ 65536
unfolding answer
answer-few x = go (ready x)
  where
    cut : (t : Tables) (m : Res Made) → made t x.ids ≡ m → (last (length x.out) m).kept ≤ 65536
    cut t (refuse k) e = omega arith
    cut t (ok w) e =
        by (leb (length w.bytes) (length x.out))
        (λ q. rw q (omega (arith, roster-few t x.ids w e, glyphs-small (width_of t.head) t.loca)))
        (λ q. rw q (omega arith))

    go : (r : Res Tables) → (last (length x.out) (r >>= λ t. made t x.ids)).kept ≤ 65536
    go (refuse k) = omega arith
    go (ok t) = cut t (made t x.ids) refl

pub font-few : (x : Input) (a : Result Font CutError) (o : Bytes) (s : List ℕ) → Promise x (answer_of a) o s → (f : Font) → a ≡ Ok f → f.kept ≤ 65536
font-few x a o s p f e = omega (arith, answer-few x, ap (λ (r : Answers). r.kept) (ap answer_of (sym e) ∙ p.answers))
