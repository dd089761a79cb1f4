-- Each step refuses exactly for the reasons stated of it: a test that fails gives its number, and a refusal comes from the first test that failed.
use mathlib.Core.Path.{◌≡◌, refl, sym, ap, ◌∙◌, subst}
use mathlib.Core.Bool.{Bool, true, false, not}
use mathlib.Core.Option.{Option, none, some}
use mathlib.Core.List.{List, [], ◌∷◌}
use mathlib.Core.Logic.{◌⊎◌, inl, inr}
use Prim.Native.Nat.{ℕ, ◌+◌, ◌*◌, ◌-◌, ◌≤◌, ◌<◌}
use native.Mathlib.Omega.{arith}
use lib.Dec.{ltb, leb, eqb}
use lib.ListN.{length, take, drop}
use borrow.Author.Tests.{lt-leb, le-leb, leb-true, leb-false, lt-ltb, le-ltb, ltb-true, ltb-false, eq-eqb, ne_eqb, eqb-true, eqb-false}
use Rattle.model.specs.Res.{Res, refuse, ok, pick, need, each, ◌>>=◌, ◌>>◌}
use Rattle.model.specs.Bytes.{Bytes, word16, word32, holds, concat}
use Rattle.model.proofs.Res.{need-ok, bind_ok, pick_true, pick_false, ok-refuse}
use Rattle.model.specs.Font.{Entry, OTTO, TTCF, outlines, face_at, face_start, rows, ascending, directory, find, must, gather, GLYF, HEAD, HHEA, HMTX, LOCA, MAXP}
use Rattle.model.proofs.Must.{must-ok, must_inv}
use Rattle.model.specs.Metrics.{Metric, metric, old_count, metrics}
use Rattle.model.specs.Name.{NameEntry, kept_rows, name_rows, name_entry, name_entries, store, new_name, cut_name}
use Rattle.model.specs.Post.{post_index, new_names, new_indexes, names_of, new_post, cut_post}
use Rattle.theorems.specs.Refusals.{Among, here, there, face_offset, KindFails, under4, otto, unknown, missing, past, face_otto, face_unknown, DirectoryFails, cut, unordered, Lacks, absent, too_short, TablesFail, no_glyf, no_other, Outside, pair_out, bearing_out, MetricsFail, no_count, last_out, glyph_out, NameFails, under2, rows_cut, storage_cut, string_out, storage_full, PostFails, post_under4, array_cut, no_index, index_over}

-- Forwards: a test fails; or what follows gives the same number anyway
pub stop : {A : Type 0} (k : ℕ) (t : Bool) (r : Res A) → t ≡ false → (need k t >> r) ≡ refuse k
stop k t r e = ap (λ (t : Bool). need k t >> r) e

pub same : {A : Type 0} (k : ℕ) (t : Bool) (r : Res A) → r ≡ refuse k → (need k t >> r) ≡ refuse k
same k true r e = e
same k false r e = refl

pub bind_stop : {A B : Type 0} (m : Res A) (f : A → Res B) (k : ℕ) → m ≡ refuse k → (m >>= f) ≡ refuse k
bind_stop m f k e = ap (λ m. m >>= f) e

-- Backwards
refuse_inj : {A : Type 0} {j k : ℕ} → ◌≡◌ {A = Res A} (refuse j) (refuse k) → j ≡ k
refuse_inj e = cc

pub tested : {A : Type 0} (F : ℕ → Type 0) (j : ℕ) (t : Bool) (r : Res A) (k : ℕ) → (need j t >> r) ≡ refuse k
    → (t ≡ false → F j) → (t ≡ true → r ≡ refuse k → F k) → F k
tested F j true r k e f g = g refl e
tested F j false r k e f g = subst F (refuse_inj e) (f refl)

pub bound : {A B : Type 0} (F : Type 0) (m : Res A) (f : A → Res B) (k : ℕ) → (m >>= f) ≡ refuse k
    → (m ≡ refuse k → F) → ((a : A) → m ≡ ok a → f a ≡ refuse k → F) → F
bound F (refuse j) f k e g h = g (ap refuse (refuse_inj e))
bound F (ok a) f k e g h = h a refl e

pub record Exactly {A : Type 0} (m : Res A) (F : ℕ → Type 0) : Type 0 where
  pub says : (k : ℕ) → m ≡ refuse k → F k
  pub given : (k : ℕ) → F k → m ≡ refuse k

-- 1
module _ (font : Bytes) (index : ℕ) where
  abbrev word : ℕ
  word = word32 font 0

  abbrev at : ℕ
  at = face_offset font index

  kind_says : (k : ℕ) → face_start font index ≡ refuse k → KindFails font index k
  unfolding face_start face_at
  kind_says k e =
      tested F 1 (holds font 0 4) _ k e (λ q. under4 (leb-false 4 (length font) q))
      (λ q d. go (leb-true 4 (length font) q) (outlines word) refl (eqb word OTTO) refl (eqb word TTCF) refl d)
    where
      F : ℕ → Type 0
      F = KindFails font index

      face : 4 ≤ length font → word ≡ TTCF → (need 3 (holds font (12 + 4 * index) 4) >> face_at font at) ≡ refuse k → F k
      face l c d =
          tested F 3 (holds font (12 + 4 * index) 4) _ k d (λ q. missing (l, c) (leb-false (12 + 4 * index + 4) (length font) q)) (λ q₁ d.
          let l₁ = leb-true (12 + 4 * index + 4) (length font) q₁ in
          tested F 3 (holds font at 4) _ k d (λ q. past (l, c) l₁ (leb-false (at + 4) (length font) q)) (λ q₂ d.
          let l₂ = leb-true (at + 4) (length font) q₂ in
          tested F 2 (not (eqb (word32 font at) OTTO)) _ k d (λ q. face_otto ((l, c), l₁, l₂) (eqb-true (word32 font at) OTTO (not_false (eqb (word32 font at) OTTO) q))) (λ q₃ d.
          tested F 3 (outlines (word32 font at)) _ k d (λ q. face_unknown ((l, c), l₁, l₂) q (eqb-false (word32 font at) OTTO (not_true (eqb (word32 font at) OTTO) q₃))) (λ q d. ok-refuse d))))
        where
          not_false : (t : Bool) → not t ≡ false → t ≡ true
          not_false true e = refl
          not_false false e = sym e

          not_true : (t : Bool) → not t ≡ true → t ≡ false
          not_true true e = sym e
          not_true false e = refl

      go : 4 ≤ length font → (s : Bool) → outlines word ≡ s → (t : Bool) → eqb word OTTO ≡ t → (u : Bool) → eqb word TTCF ≡ u
          → pick s (ok 0) (pick t (refuse 2) (pick u (need 3 (holds font (12 + 4 * index) 4) >> face_at font at) (refuse 1))) ≡ refuse k → F k
      go l true a t b u c d = ok-refuse d
      go l false a true b u c d = subst F (refuse_inj d) (otto l (eqb-true word OTTO b))
      go l false a false b true c d = face l (eqb-true word TTCF c) d
      go l false a false b false c d = subst F (refuse_inj d) (unknown l a (eqb-false word OTTO b) (eqb-false word TTCF c))

  kind_given : (k : ℕ) → KindFails font index k → face_start font index ≡ refuse k
  unfolding face_start face_at
  kind_given k f = go k f
    where
      single : 4 ≤ length font → (m : Res ℕ) {n : Res ℕ} → m ≡ n → (need 1 (holds font 0 4) >> m) ≡ n
      single l m e = need-ok 1 (holds font 0 4) m (le-leb 4 (length font) l) e

      collection : 4 ≤ length font → word ≡ TTCF → {n : Res ℕ} → (need 3 (holds font (12 + 4 * index) 4) >> face_at font at) ≡ n → face_start font index ≡ n
      collection l c e =
          single l _ (pick_false _ _ _ (ap outlines c) (pick_false _ _ _ (ap (λ (w : ℕ). eqb w OTTO) c) (pick_true _ _ _ (eq-eqb word TTCF c) e)))

      go : (k : ℕ) → KindFails font index k → face_start font index ≡ refuse k
      go _ (under4 l) = stop 1 (holds font 0 4) _ (lt-leb 4 (length font) l)
      go _ (otto l e) = single l _ (pick_false _ _ _ (ap outlines e) (pick_true _ _ _ (eq-eqb word OTTO e) refl))
      go _ (unknown l o n m) = single l _ (pick_false _ _ _ o (pick_false _ _ _ (ne_eqb word OTTO n) (pick_false _ _ _ (ne_eqb word TTCF m) refl)))
      go _ (missing c l) = collection c.0 c.1 (stop 3 (holds font (12 + 4 * index) 4) _ (lt-leb (12 + 4 * index + 4) (length font) l))
      go _ (past c l₁ l) =
          collection c.0 c.1
          (need-ok _ _ _ (le-leb (12 + 4 * index + 4) (length font) l₁) (stop 3 (holds font at 4) _ (lt-leb (at + 4) (length font) l)))
      go _ (face_otto f e) =
          collection f.0.0 f.0.1
          (need-ok _ _ _ (le-leb (12 + 4 * index + 4) (length font) f.1)
          (need-ok _ _ _ (le-leb (at + 4) (length font) f.2) (stop 2 _ _ (ap not (eq-eqb (word32 font at) OTTO e)))))
      go _ (face_unknown f o n) =
          collection f.0.0 f.0.1
          (need-ok _ _ _ (le-leb (12 + 4 * index + 4) (length font) f.1)
          (need-ok _ _ _ (le-leb (at + 4) (length font) f.2)
          (need-ok _ _ _ (ap not (ne_eqb (word32 font at) OTTO n)) (stop 3 (outlines (word32 font at)) _ o))))

  pub kind_exactly : Exactly (face_start font index) (KindFails font index)
  kind_exactly = record { says = kind_says; given = kind_given }

-- 2
pub directory-says : (font : Bytes) (at k : ℕ) → directory font at ≡ refuse k → (k ≡ 3) × DirectoryFails font at
unfolding directory
directory-says font at k e =
    tested F 3 (holds font at 12) _ k e (λ q. (refl, cut (omega (arith, leb-false (at + 12) (length font) q)))) (λ _ d.
    tested F 3 (holds font (at + 12) (16 * word16 font (at + 4))) _ k d (λ q. (refl, cut (leb-false (at + 12 + 16 * word16 font (at + 4)) (length font) q))) (λ _ d.
    tested F 3 (ascending (rows (word16 font (at + 4)) (drop (at + 12) font))) _ k d (λ q. (refl, unordered q)) (λ _ d. ok-refuse d)))
  where
    F : ℕ → Type 0
    F k = (k ≡ 3) × DirectoryFails font at

pub directory-given : (font : Bytes) (at : ℕ) → DirectoryFails font at → directory font at ≡ refuse 3
unfolding directory
directory-given font at (cut l) =
    same 3 (holds font at 12) _ (stop 3 (holds font (at + 12) (16 * word16 font (at + 4))) _ (lt-leb (at + 12 + 16 * word16 font (at + 4)) (length font) l))
directory-given font at (unordered e) =
    same 3 (holds font at 12) _ (same 3 (holds font (at + 12) (16 * word16 font (at + 4))) _ (stop 3 (ascending (rows (word16 font (at + 4)) (drop (at + 12) font))) _ e))

-- 3
must-says : (j least tag : ℕ) (es : List Entry) (k : ℕ) → must j least (find tag es) ≡ refuse k → (j ≡ k) × Lacks tag least es
must-says j least tag es k e = go (find tag es) refl e
  where
    go : (o : Option Bytes) → find tag es ≡ o → must j least o ≡ refuse k → (j ≡ k) × Lacks tag least es
    go none q d = (refuse_inj d, absent q)
    go (some b) q d =
        tested (λ i. (j ≡ i) × Lacks tag least es) j (leb least (length b)) _ k d (λ r. (refl, too_short b q (leb-false least (length b) r))) (λ _ d. ok-refuse d)

lacking : {B : Type 0} (j least tag : ℕ) (es : List Entry) (f : Bytes → Res B) → Lacks tag least es → (must j least (find tag es) >>= f) ≡ refuse j
lacking {B} j least tag es f (absent q) = ap {B = Res B} (λ o. must j least o >>= f) q
lacking {B} j least tag es f (too_short b q l) =
    ap {B = Res B} (λ o. must j least o >>= f) q ∙ bind_stop (must j least (some b)) f j (stop j (leb least (length b)) _ (lt-leb least (length b) l))

-- whatever is found, what follows refuses
anyway : {B : Type 0} (j least : ℕ) (o : Option Bytes) (f : Bytes → Res B) → ((b : Bytes) → f b ≡ refuse j) → (must j least o >>= f) ≡ refuse j
anyway j least none f h = refl
anyway j least (some b) f h = go (leb least (length b))
  where
    go : (t : Bool) → ((need j t >> ok b) >>= f) ≡ refuse j
    go true = h b
    go false = refl

abbrev Other : List Entry → Type 0
Other es = Lacks LOCA 0 es ⊎ (Lacks HEAD 52 es ⊎ (Lacks HHEA 36 es ⊎ (Lacks HMTX 0 es ⊎ Lacks MAXP 6 es)))

tables-says : (es : List Entry) (k : ℕ) → gather es ≡ refuse k → TablesFail es k
unfolding gather
tables-says es k e =
    bound F (must 2 0 (find GLYF es)) _ k e (λ d. glyf (must-says 2 0 GLYF es k d)) (λ b q d.
    let has = (must_inv 2 0 (find GLYF es) b q).0 in
    bound F (must 3 0 (find LOCA es)) _ k d (λ d. other b has inl (must-says 3 0 LOCA es k d)) (λ _ _ d.
    bound F (must 3 52 (find HEAD es)) _ k d (λ d. other b has (λ l. inr (inl l)) (must-says 3 52 HEAD es k d)) (λ _ _ d.
    bound F (must 3 36 (find HHEA es)) _ k d (λ d. other b has (λ l. inr (inr (inl l))) (must-says 3 36 HHEA es k d)) (λ _ _ d.
    bound F (must 3 0 (find HMTX es)) _ k d (λ d. other b has (λ l. inr (inr (inr (inl l)))) (must-says 3 0 HMTX es k d)) (λ _ _ d.
    bound F (must 3 6 (find MAXP es)) _ k d (λ d. other b has (λ l. inr (inr (inr (inr l)))) (must-says 3 6 MAXP es k d)) (λ _ _ d. ok-refuse d))))))
  where
    F : Type 0
    F = TablesFail es k

    glyf : (2 ≡ k) × Lacks GLYF 0 es → F
    glyf (q, absent e) = subst (TablesFail es) q (no_glyf e)
    glyf (q, too_short b e l) = absurd (omega arith)

    other : {A : Type 0} (b : Bytes) → find GLYF es ≡ some b → (A → Other es) → (3 ≡ k) × A → F
    other b has f q = subst (TablesFail es) q.0 (no_other b has (f q.1))

tables-given : (es : List Entry) (k : ℕ) → TablesFail es k → gather es ≡ refuse k
unfolding gather
tables-given es _ (no_glyf q) = lacking 2 0 GLYF es _ (absent q)
tables-given es _ (no_other b q (inl l)) = bind_ok _ _ (must-ok 2 0 (find GLYF es) b q (omega arith)) (lacking 3 0 LOCA es _ l)
tables-given es _ (no_other b q (inr (inl l))) = bind_ok _ _ (must-ok 2 0 (find GLYF es) b q (omega arith)) (anyway 3 0 (find LOCA es) _ (λ _. lacking 3 52 HEAD es _ l))
tables-given es _ (no_other b q (inr (inr (inl l)))) =
    bind_ok _ _ (must-ok 2 0 (find GLYF es) b q (omega arith)) (anyway 3 0 (find LOCA es) _ (λ _. anyway 3 52 (find HEAD es) _ (λ _. lacking 3 36 HHEA es _ l)))
tables-given es _ (no_other b q (inr (inr (inr (inl l))))) =
    bind_ok _ _ (must-ok 2 0 (find GLYF es) b q (omega arith))
    (anyway 3 0 (find LOCA es) _ (λ _. anyway 3 52 (find HEAD es) _ (λ _. anyway 3 36 (find HHEA es) _ (λ _. lacking 3 0 HMTX es _ l))))
tables-given es _ (no_other b q (inr (inr (inr (inr l))))) =
    bind_ok _ _ (must-ok 2 0 (find GLYF es) b q (omega arith))
    (anyway 3 0 (find LOCA es) _ (λ _. anyway 3 52 (find HEAD es) _ (λ _. anyway 3 36 (find HHEA es) _ (λ _. anyway 3 0 (find HMTX es) _ (λ _. lacking 3 6 MAXP es _ l)))))

pub tables_exactly : (es : List Entry) → Exactly (gather es) (TablesFail es)
tables_exactly es = record { says = tables-says es; given = tables-given es }

-- each element of a list: the first that fails gives its number
each-says : {A B : Type 0} (f : A → Res B) (xs : List A) (k : ℕ) → each f xs ≡ refuse k → (x : A) × Among x xs × (f x ≡ refuse k)
each-says f [] k e = ok-refuse e
each-says {A} f (x ∷ xs) k e =
    bound F (f x) _ k e (λ d. (x, here xs, d)) (λ y _ d.
    bound F (each f xs) _ k d (λ d. let q = each-says f xs k d in (q.0, there x xs q.1, q.2)) (λ ys _ d. ok-refuse d))
  where
    F : Type 0
    F = (x' : A) × Among x' (x ∷ xs) × (f x' ≡ refuse k)

each-given : {A B : Type 0} (f : A → Res B) (j : ℕ) → ((y : A) (k : ℕ) → f y ≡ refuse k → k ≡ j) → (x : A) (xs : List A) → Among x xs → f x ≡ refuse j → each f xs ≡ refuse j
each-given f j only x _ (here xs) e = bind_stop (f x) _ j e
each-given {A} {B} f j only x _ (there y xs a) e = go (f y) refl (each-given f j only x xs a e)
  where
    go : (m : Res B) → f y ≡ m → each f xs ≡ refuse j → (m >>= λ y. each f xs >>= λ ys. ok (y ∷ ys)) ≡ refuse j
    go (refuse k) q ih = ap refuse (only y k q)
    go (ok b) q ih = bind_stop (each f xs) _ j ih

-- 6
metric-says : (hmtx : Bytes) (c g k : ℕ) → metric hmtx c g ≡ refuse k → (k ≡ 3) × Outside hmtx c g
unfolding metric
metric-says hmtx c g k e = go (ltb g c) refl e
  where
    F : ℕ → Type 0
    F k = (k ≡ 3) × Outside hmtx c g

    go : (t : Bool) → ltb g c ≡ t
        → ◌≡◌ {A = Res Metric}
        (pick t
        (need 3 (holds hmtx (4 * g) 4) >> ok (word16 hmtx (4 * g), word16 hmtx (4 * g + 2)))
        (need 3 (holds hmtx (4 * c + 2 * (g - c)) 2) >> ok (word16 hmtx (4 * (c - 1)), word16 hmtx (4 * c + 2 * (g - c)))))
        (refuse k)
        → F k
    go true q d = tested F 3 (holds hmtx (4 * g) 4) _ k d (λ r. (refl, pair_out (ltb-true g c q) (leb-false (4 * g + 4) (length hmtx) r))) (λ _ d. ok-refuse d)
    go false q d =
        tested F 3 (holds hmtx (4 * c + 2 * (g - c)) 2) _ k d
        (λ r. (refl, bearing_out (ltb-false g c q) (leb-false (4 * c + 2 * (g - c) + 2) (length hmtx) r))) (λ _ d. ok-refuse d)

metric-given : (hmtx : Bytes) (c g : ℕ) → Outside hmtx c g → metric hmtx c g ≡ refuse 3
unfolding metric
metric-given hmtx c g (pair_out l h) = pick_true _ _ _ (lt-ltb g c l) (stop 3 (holds hmtx (4 * g) 4) _ (lt-leb (4 * g + 4) (length hmtx) h))
metric-given hmtx c g (bearing_out l h) =
    pick_false _ _ _ (le-ltb g c l) (stop 3 (holds hmtx (4 * c + 2 * (g - c)) 2) _ (lt-leb (4 * c + 2 * (g - c) + 2) (length hmtx) h))

pub metrics_exactly : (hhea hmtx : Bytes) (r : List ℕ) → Exactly (metrics hhea hmtx r) (MetricsFail hhea hmtx r)
unfolding metrics
metrics_exactly hhea hmtx r = record { says = says; given = given }
  where
    c : ℕ
    c = old_count hhea

    F : ℕ → Type 0
    F = MetricsFail hhea hmtx r

    says : (k : ℕ) → metrics hhea hmtx r ≡ refuse k → F k
    says k e =
        tested F 5 (ltb 0 c) _ k e (λ q. no_count (omega (arith, ltb-false 0 c q))) (λ q₁ d.
        let some = ltb-true 0 c q₁ in
        tested F 3 (holds hmtx (4 * (c - 1)) 2) _ k d (λ q. last_out some (leb-false (4 * (c - 1) + 2) (length hmtx) q)) (λ _ d.
        let a = each-says (metric hmtx c) r k d in
        let m = metric-says hmtx c a.0 k a.2 in
        subst F (sym m.0) (glyph_out a.0 some a.1 m.1)))

    given : (k : ℕ) → F k → metrics hhea hmtx r ≡ refuse k
    given _ (no_count e) = stop 5 (ltb 0 c) _ (ap (ltb 0) e)
    given _ (last_out p l) = need-ok _ _ _ (lt-ltb 0 c p) (stop 3 (holds hmtx (4 * (c - 1)) 2) _ (lt-leb (4 * (c - 1) + 2) (length hmtx) l))
    given _ (glyph_out g p a o) =
        need-ok _ _ _ (lt-ltb 0 c p)
        (same 3 (holds hmtx (4 * (c - 1)) 2) _ (each-given (metric hmtx c) 3 (λ y k q. (metric-says hmtx c y k q).0) g r a (metric-given hmtx c g o)))

-- 7
row-says : (storage r : Bytes) (k : ℕ) → name_entry storage r ≡ refuse k
    → (k ≡ 4) × ((65535 < word16 r 10 + word16 r 8) ⊎ (length storage < word16 r 10 + word16 r 8))
unfolding name_entry
row-says storage r k e =
    tested F 4 (leb (word16 r 10 + word16 r 8) 65535) _ k e (λ q. (refl, inl (leb-false (word16 r 10 + word16 r 8) 65535 q))) (λ _ d.
    tested F 4 (holds storage (word16 r 10) (word16 r 8)) _ k d (λ q. (refl, inr (leb-false (word16 r 10 + word16 r 8) (length storage) q))) (λ _ d. ok-refuse d))
  where
    F : ℕ → Type 0
    F k = (k ≡ 4) × ((65535 < word16 r 10 + word16 r 8) ⊎ (length storage < word16 r 10 + word16 r 8))

row-given : (storage r : Bytes) → (65535 < word16 r 10 + word16 r 8) ⊎ (length storage < word16 r 10 + word16 r 8) → name_entry storage r ≡ refuse 4
unfolding name_entry
row-given storage r (inl l) = stop 4 (leb (word16 r 10 + word16 r 8) 65535) _ (lt-leb (word16 r 10 + word16 r 8) 65535 l)
row-given storage r (inr l) =
    same 4 (leb (word16 r 10 + word16 r 8) 65535) _ (stop 4 (holds storage (word16 r 10) (word16 r 8)) _ (lt-leb (word16 r 10 + word16 r 8) (length storage) l))

module _ (b : Bytes) where
  abbrev N : ℕ → Type 0
  N = NameFails b

  abbrev body : List NameEntry → Res Bytes
  body es = need 5 (leb (length (concat (store [] es))) 65535) >> (need 5 (leb (length es) 5460) >> ok (new_name es))

  entries-says : 2 ≤ length b → word16 b 0 ≡ 0 → (k : ℕ) → name_entries b ≡ refuse k → N k
  unfolding name_entries
  entries-says l v k e =
      tested N 3 (holds b 0 6) _ k e (λ q. rows_cut l v (omega (arith, leb-false 6 (length b) q))) (λ _ d.
      tested N 3 (holds b 6 (12 * word16 b 2)) _ k d (λ q. rows_cut l v (leb-false (6 + 12 * word16 b 2) (length b) q)) (λ q₁ d.
      tested N 3 (leb (word16 b 4) (length b)) _ k d (λ q. storage_cut l v (leb-false (word16 b 4) (length b) q)) (λ q₂ d.
      let a = each-says (name_entry (drop (word16 b 4) b)) (kept_rows (name_rows (word16 b 2) (drop 6 b))) k d in
      let s = row-says (drop (word16 b 4) b) a.0 k a.2 in
      subst N (sym s.0) (string_out a.0 v (leb-true (6 + 12 * word16 b 2) (length b) q₁) (leb-true (word16 b 4) (length b) q₂) a.1 s.1))))

  name-says : (k : ℕ) → cut_name b ≡ refuse k → N k
  unfolding cut_name
  name-says k e = tested N 3 (holds b 0 2) _ k e (λ q. under2 (leb-false 2 (length b) q)) (λ q d. go (leb-true 2 (length b) q) (eqb (word16 b 0) 0) refl d)
    where
      go : 2 ≤ length b → (t : Bool) → eqb (word16 b 0) 0 ≡ t → pick t (name_entries b >>= body) (ok b) ≡ refuse k → N k
      go l false q d = ok-refuse d
      go l true q d =
          let v = eqb-true (word16 b 0) 0 q in
          bound (N k) (name_entries b) _ k d (entries-says l v k) (λ es is d.
          tested N 5 (leb (length (concat (store [] es))) 65535) _ k d (λ q. storage_full es l v is (inl (leb-false (length (concat (store [] es))) 65535 q))) (λ _ d.
          tested N 5 (leb (length es) 5460) _ k d (λ q. storage_full es l v is (inr (leb-false (length es) 5460 q))) (λ _ d. ok-refuse d)))

  -- of version 0, and what its entries give
  version_0 : 2 ≤ length b → word16 b 0 ≡ 0 → (k : ℕ) → (name_entries b >>= body) ≡ refuse k → cut_name b ≡ refuse k
  unfolding cut_name
  version_0 l v k e = need-ok _ _ _ (le-leb 2 (length b) l) (pick_true _ _ _ (eq-eqb (word16 b 0) 0 v) e)

  name-given : (k : ℕ) → N k → cut_name b ≡ refuse k
  unfolding cut_name name_entries
  name-given _ (under2 l) = stop 3 (holds b 0 2) _ (lt-leb 2 (length b) l)
  name-given _ (rows_cut l v h) =
      version_0 l v 3
      (bind_stop (name_entries b) _ 3 (same 3 (holds b 0 6) _ (stop 3 (holds b 6 (12 * word16 b 2)) _ (lt-leb (6 + 12 * word16 b 2) (length b) h))))
  name-given _ (storage_cut l v h) =
      version_0 l v 3
      (bind_stop (name_entries b) _ 3
      (same 3 (holds b 0 6) _ (same 3 (holds b 6 (12 * word16 b 2)) _ (stop 3 (leb (word16 b 4) (length b)) _ (lt-leb (word16 b 4) (length b) h)))))
  name-given _ (string_out r v h₁ h₂ a o) =
      version_0 (omega arith) v 4
      (bind_stop (name_entries b) _ 4
      (need-ok _ _ _ (le-leb 6 (length b) (omega arith))
      (need-ok _ _ _ (le-leb (6 + 12 * word16 b 2) (length b) h₁)
      (need-ok _ _ _ (le-leb (word16 b 4) (length b) h₂)
      (each-given (name_entry (drop (word16 b 4) b)) 4 (λ y k q. (row-says (drop (word16 b 4) b) y k q).0) r _ a (row-given (drop (word16 b 4) b) r o))))))
  name-given _ (storage_full es l v is (inl h)) =
      version_0 l v 5 (bind_ok _ _ is (stop 5 (leb (length (concat (store [] es))) 65535) _ (lt-leb (length (concat (store [] es))) 65535 h)))
  name-given _ (storage_full es l v is (inr h)) =
      version_0 l v 5
      (bind_ok _ _ is (same 5 (leb (length (concat (store [] es))) 65535) _ (stop 5 (leb (length es) 5460) _ (lt-leb (length es) 5460 h))))

  pub name_exactly : Exactly (cut_name b) (NameFails b)
  name_exactly = record { says = name-says; given = name-given }

-- 8
module _ (b : Bytes) (roster : List ℕ) where
  abbrev P : ℕ → Type 0
  P = PostFails b roster

  index-says : (g k : ℕ) → post_index b g ≡ refuse k → (k ≡ 3) × (word16 b 32 ≤ g)
  unfolding post_index
  index-says g k e = tested (λ k. (k ≡ 3) × (word16 b 32 ≤ g)) 3 (ltb g (word16 b 32)) _ k e (λ q. (refl, ltb-false g (word16 b 32) q)) (λ _ d. ok-refuse d)

  abbrev rest : List ℕ → Res Bytes
  rest is = need 5 (leb (257 + length (new_names (names_of b) is)) 65535) >> ok (new_post (take 32 b) (new_indexes 258 is) (new_names (names_of b) is))

  abbrev two : Res Bytes
  two = need 3 (holds b 0 34) >> (need 3 (holds b 34 (2 * word16 b 32)) >> (each (post_index b) roster >>= rest))

  post-says : (k : ℕ) → cut_post b roster ≡ refuse k → P k
  unfolding cut_post
  post-says k e =
      tested P 3 (holds b 0 4) _ k e (λ q. post_under4 (leb-false 4 (length b) q)) (λ q d. go (leb-true 4 (length b) q) (eqb (word32 b 0) 0x00020000) refl d)
    where
      go : 4 ≤ length b → (t : Bool) → eqb (word32 b 0) 0x00020000 ≡ t → pick t two (ok b) ≡ refuse k → P k
      go l false q d = ok-refuse d
      go l true q d =
          let v = eqb-true (word32 b 0) 0x00020000 q in
          tested P 3 (holds b 0 34) _ k d (λ q. array_cut l v (omega (arith, leb-false 34 (length b) q))) (λ _ d.
          tested P 3 (holds b 34 (2 * word16 b 32)) _ k d (λ q. array_cut l v (leb-false (34 + 2 * word16 b 32) (length b) q)) (λ q₁ d.
          bound (P k) (each (post_index b) roster) _ k d
          (λ d.
          let a = each-says (post_index b) roster k d in
          let s = index-says a.0 k a.2 in
          subst P (sym s.0) (no_index a.0 l v a.1 s.1))
          (λ is i d.
          tested P 5 (leb (257 + length (new_names (names_of b) is)) 65535) _ k d
          (λ q. index_over is v (leb-true (34 + 2 * word16 b 32) (length b) q₁) i (leb-false (257 + length (new_names (names_of b) is)) 65535 q)) (λ _ d. ok-refuse d))))

  version_2 : 4 ≤ length b → word32 b 0 ≡ 0x00020000 → (k : ℕ) → two ≡ refuse k → cut_post b roster ≡ refuse k
  unfolding cut_post
  version_2 l v k e = need-ok _ _ _ (le-leb 4 (length b) l) (pick_true _ _ _ (eq-eqb (word32 b 0) 0x00020000 v) e)

  post-given : (k : ℕ) → P k → cut_post b roster ≡ refuse k
  unfolding cut_post post_index
  post-given _ (post_under4 l) = stop 3 (holds b 0 4) _ (lt-leb 4 (length b) l)
  post-given _ (array_cut l v h) =
      version_2 l v 3 (same 3 (holds b 0 34) _ (stop 3 (holds b 34 (2 * word16 b 32)) _ (lt-leb (34 + 2 * word16 b 32) (length b) h)))
  post-given _ (no_index g l v a h) =
      version_2 l v 3
      (same 3 (holds b 0 34) _
      (same 3 (holds b 34 (2 * word16 b 32)) _
      (bind_stop (each (post_index b) roster) _ 3
      (each-given (post_index b) 3 (λ y k q. (index-says y k q).0) g roster a (stop 3 (ltb g (word16 b 32)) _ (le-ltb g (word16 b 32) h))))))
  post-given _ (index_over is v h i o) =
      version_2 (omega arith) v 5
      (need-ok _ _ _ (le-leb 34 (length b) (omega arith))
      (need-ok _ _ _ (le-leb (34 + 2 * word16 b 32) (length b) h)
      (bind_ok _ _ i (stop 5 (leb (257 + length (new_names (names_of b) is)) 65535) _ (lt-leb (257 + length (new_names (names_of b) is)) 65535 o)))))

  pub post_exactly : Exactly (cut_post b roster) (PostFails b roster)
  post_exactly = record { says = post-says; given = post-given }
