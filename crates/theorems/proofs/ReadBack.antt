-- The tables written stand by tag in eleven slots, some empty; whatever steps 1 to 3 ask of a list of tables follows from the slots' tags, which ascend.
use mathlib.Core.Path.{◌≡◌, refl, sym, ap, ap₂, ◌∙◌, subst}
use mathlib.Core.Bool.{Bool, true, false, not}
use mathlib.Core.Option.{Option, none, some}
use mathlib.Core.List.{List, [], ◌∷◌, ◌++◌, append-nil}
use Prim.Native.Nat.{ℕ, ◌+◌, ◌*◌, ◌≤◌, ◌<◌}
use native.Mathlib.Omega.{arith}
use lib.Dec.{ltb, leb, eqb}
use lib.ListN.{length, length-append}
use borrow.Author.Tests.{le-leb, lt-ltb, ltb-true, leb-true, ne_eqb, eqb-true}
use Rattle.model.specs.Res.{ok, pick, both, either}
use Rattle.model.specs.Bytes.{Bytes, be32, put}
use Rattle.model.proofs.Res.{bind_ok, pick_false, both_true, both_intro}
use Rattle.model.proofs.Bytes.{length-put}
use Rattle.model.proofs.Must.{must-ok}
use Rattle.model.specs.Font.{Entry, ascending, ascending_from, find, gather, read, Tables, CVT, FPGM, GLYF, HEAD, HHEA, HMTX, LOCA, MAXP, NAME, POST, PREP}
use Rattle.model.specs.File.{entries, maybe, adjust, adjustment, bodies, directory_of, file}
use Rattle.theorems.specs.ReadBack.{with_head, as_written, LongEnough, ReadBack}
use Rattle.theorems.proofs.Directory.{sizes, rows_of, tags, up4, total, length-bodies, face_read, directory-read, usable-read}

abbrev Slots : Type 0
Slots = List (ℕ × Option Bytes)

abbrev present : Slots → List Entry
present [] = []
present (s ∷ ss) = maybe s.0 s.1 ++ present ss

abbrev slots : Tables → Slots
slots t =
    (CVT, t.cvt) ∷ (FPGM, t.fpgm) ∷ (GLYF, some t.glyf) ∷ (HEAD, some t.head) ∷ (HHEA, some t.hhea) ∷ (HMTX, some t.hmtx)
    ∷ (LOCA, some t.loca) ∷ (MAXP, some t.maxp) ∷ (NAME, t.name) ∷ (POST, t.post) ∷ (PREP, t.prep) ∷ []

-- the tables in tag order are what stands in the slots
entries_are : (t : Tables) → entries t ≡ present (slots t)
unfolding entries
entries_are t =
    ap
    (λ (es : List Entry). maybe CVT t.cvt ++ (maybe FPGM t.fpgm
    ++ ((GLYF, t.glyf) ∷ (HEAD, t.head) ∷ (HHEA, t.hhea) ∷ (HMTX, t.hmtx) ∷ (LOCA, t.loca) ∷ (MAXP, t.maxp)
    ∷ (maybe NAME t.name ++ (maybe POST t.post ++ es)))))
    (sym (append-nil (maybe PREP t.prep)))

-- the slots' tags ascend from t on, and are 32 bits wide
abbrev rising : ℕ → Slots → Bool
rising t [] = true
rising t (s ∷ ss) = both (both (ltb t s.0) (ltb s.0 4294967296)) (rising s.0 ss)

next : (t v : ℕ) (ss : Slots) → both (both (ltb t v) (ltb v 4294967296)) (rising v ss) ≡ true
    → (t < v) × (ltb v 4294967296 ≡ true) × (rising v ss ≡ true)
next t v ss r =
    let q = both_true (both (ltb t v) (ltb v 4294967296)) (rising v ss) r in
    let p = both_true (ltb t v) (ltb v 4294967296) q.0 in
    (ltb-true t v p.0, p.1, q.1)

rows_ascend : (t : ℕ) (ss : Slots) → rising t ss ≡ true → (u at : ℕ) → u ≤ t → ascending_from u (rows_of at (sizes (present ss))) ≡ true
rows_ascend t [] r u at h = refl
rows_ascend t ((v, none) ∷ ss) r u at h = rows_ascend v ss (next t v ss r).2 u at (omega (arith, (next t v ss r).0))
rows_ascend t ((v, some b) ∷ ss) r u at h =
    both_intro (lt-ltb u v (omega (arith, (next t v ss r).0)))
    (rows_ascend v ss (next t v ss r).2 v (at + up4 (length b)) (omega arith))

ascending_of : (t : ℕ) (ss : Slots) (at : ℕ) → rising t ss ≡ true → ascending (rows_of at (sizes (present ss))) ≡ true
ascending_of t [] at r = refl
ascending_of t ((v, none) ∷ ss) at r = ascending_of v ss at (next t v ss r).2
ascending_of t ((v, some b) ∷ ss) at r = rows_ascend v ss (next t v ss r).2 v (at + up4 (length b)) (omega arith)

tags_fit : (t : ℕ) (ss : Slots) → rising t ss ≡ true → tags (sizes (present ss)) ≡ true
tags_fit t [] r = refl
tags_fit t ((v, none) ∷ ss) r = tags_fit v ss (next t v ss r).2
tags_fit t ((v, some b) ∷ ss) r = both_intro (next t v ss r).1 (tags_fit v ss (next t v ss r).2)

few-present : (ss : Slots) → length (present ss) ≤ length ss
few-present [] = omega arith
few-present ((v, none) ∷ ss) = omega (arith, few-present ss)
few-present ((v, some b) ∷ ss) = omega (arith, few-present ss)

-- a table is found in its slot
abbrev slot : ℕ → Slots → Option Bytes
slot v [] = none
slot v (s ∷ ss) = pick (eqb s.0 v) s.1 (slot v ss)

find_none : (t : ℕ) (ss : Slots) → rising t ss ≡ true → (u : ℕ) → u ≤ t → find u (present ss) ≡ none
find_none t [] r u h = refl
find_none t ((v, none) ∷ ss) r u h = find_none v ss (next t v ss r).2 u (omega (arith, (next t v ss r).0))
find_none t ((v, some b) ∷ ss) r u h =
    pick_false _ _ _ (ne_eqb v u (omega (arith, (next t v ss r).0)))
    (find_none v ss (next t v ss r).2 u (omega (arith, (next t v ss r).0)))

find-slot : (t : ℕ) (ss : Slots) → rising t ss ≡ true → (u : ℕ) → find u (present ss) ≡ slot u ss
find-slot t [] r u = refl
find-slot t ((v, none) ∷ ss) r u = go (eqb v u) refl (find-slot v ss (next t v ss r).2 u)
  where
    go : (b : Bool) → eqb v u ≡ b → find u (present ss) ≡ slot u ss → find u (present ss) ≡ pick b none (slot u ss)
    go true e ih = find_none v ss (next t v ss r).2 u (omega (arith, eqb-true v u e))
    go false e ih = ih
find-slot t ((v, some b) ∷ ss) r u = ap (pick (eqb v u) (some b)) (find-slot v ss (next t v ss r).2 u)

-- head is long enough for its adjustment, which changes no tag and no length
abbrev holds12 : Option Bytes → Bool
holds12 none = true
holds12 (some b) = leb 12 (length b)

abbrev head_long : Slots → Bool
head_long [] = true
head_long (s ∷ ss) = both (either (not (eqb s.0 HEAD)) (holds12 s.1)) (head_long ss)

adjust-alike : (x : ℕ) (ss : Slots) → head_long ss ≡ true → sizes (adjust x (present ss)) ≡ sizes (present ss)
adjust-alike x [] h = refl
adjust-alike x ((v, none) ∷ ss) h = adjust-alike x ss (both_true (either (not (eqb v HEAD)) true) _ h).1
adjust-alike x ((v, some b) ∷ ss) h =
    let q = both_true (either (not (eqb v HEAD)) (leb 12 (length b))) _ h in
    ap₂ (λ (n : ℕ) (l : List (ℕ × ℕ)). (v, n) ∷ l) (go (eqb v HEAD) q.0) (adjust-alike x ss q.1)
  where
    go : (t : Bool) → either (not t) (leb 12 (length b)) ≡ true → length (pick t (put b 8 (be32 x)) b) ≡ length b
    go true e = length-put b 8 (be32 x) (leb-true 12 (length b) e)
    go false e = refl

adjust-maybe : (x v : ℕ) (o : Option Bytes) (es : List Entry) → eqb v HEAD ≡ false → adjust x (maybe v o ++ es) ≡ maybe v o ++ adjust x es
adjust-maybe x v none es q = refl
adjust-maybe x v (some b) es q = ap (λ (z : Bool). (v, pick z (put b 8 (be32 x)) b) ∷ adjust x es) q

adjust-present : (x : ℕ) (t : Tables) → adjust x (present (slots t)) ≡ present (slots (with_head (put t.head 8 (be32 x)) t))
adjust-present x t =
    adjust-maybe x CVT t.cvt _ refl
    ∙ ap (λ (es : List Entry). maybe CVT t.cvt ++ es)
    (adjust-maybe x FPGM t.fpgm _ refl
    ∙ ap
    (λ (es : List Entry). maybe FPGM t.fpgm
    ++ ((GLYF, t.glyf) ∷ (HEAD, put t.head 8 (be32 x)) ∷ (HHEA, t.hhea) ∷ (HMTX, t.hmtx) ∷ (LOCA, t.loca) ∷ (MAXP, t.maxp) ∷ es))
    (adjust-maybe x NAME t.name _ refl
    ∙ ap (λ (es : List Entry). maybe NAME t.name ++ es)
    (adjust-maybe x POST t.post _ refl ∙ ap (λ (es : List Entry). maybe POST t.post ++ es) (adjust-maybe x PREP t.prep [] refl))))

gather-back : (t : Tables) → LongEnough t → gather (present (slots t)) ≡ ok t
unfolding gather
gather-back t l =
    let in? : (u : ℕ) → find u (present (slots t)) ≡ slot u (slots t) = find-slot 0 (slots t) refl in
    bind_ok _ _ (must-ok 2 0 _ t.glyf (in? GLYF) (omega arith))
    (bind_ok _ _ (must-ok 3 0 _ t.loca (in? LOCA) (omega arith))
    (bind_ok _ _ (must-ok 3 52 _ t.head (in? HEAD) l.head)
    (bind_ok _ _ (must-ok 3 36 _ t.hhea (in? HHEA) l.hhea)
    (bind_ok _ _ (must-ok 3 0 _ t.hmtx (in? HMTX) (omega arith))
    (bind_ok _ _ (must-ok 3 6 _ t.maxp (in? MAXP) l.maxp)
    (λ i.
    ok
    (record {
      cvt = in? CVT i;
      fpgm = in? FPGM i;
      glyf = t.glyf;
      head = t.head;
      hhea = t.hhea;
      hmtx = t.hmtx;
      loca = t.loca;
      maxp = t.maxp;
      name = in? NAME i;
      post = in? POST i;
      prep = in? PREP i;
    })))))))

-- whatever the adjustment
read-present : (t : Tables) (x i : ℕ) → LongEnough t → let es = present (slots t) in length (directory_of es ++ bodies (adjust x es)) < 4294967296
    → read (directory_of es ++ bodies (adjust x es)) i ≡ ok (with_head (put t.head 8 (be32 x)) t)
unfolding read
read-present t x i l fits =
    let es = present (slots t) in
    let fs = adjust x es in
    let alike = adjust-alike x (slots t) (both_intro (le-leb 12 (length t.head) (omega (arith, l.head))) refl) in
    let tagged = tags_fit 0 (slots t) refl in
    let few : length es < 65536 = omega (arith, few-present (slots t)) in
    let up = ascending_of 0 (slots t) (12 + 16 * length es) refl in
    let long : 52 ≤ length (put t.head 8 (be32 x)) = omega (arith, length-put t.head 8 (be32 x) (omega (arith, l.head)), l.head) in
    bind_ok _ _ (face_read es fs alike tagged few fits up i)
    (bind_ok _ _ (directory-read es fs alike tagged few fits up)
    (ap gather (usable-read es fs alike tagged few fits up ∙ adjust-present x t)
    ∙ gather-back (with_head (put t.head 8 (be32 x)) t) (record { head = long; hhea = l.hhea; maxp = l.maxp })))

pub read_back : ReadBack
unfolding file
read_back t i l fits =
    subst
    (λ (es : List Entry). length (directory_of es ++ bodies (adjust (adjustment (entries t)) es)) < 4294967296
    → read (directory_of es ++ bodies (adjust (adjustment (entries t)) es)) i ≡ ok (as_written t))
    (sym (entries_are t)) (read-present t (adjustment (entries t)) i l) fits

-- glyf is in the file
slot-total : (v : ℕ) (b : Bytes) (ss : Slots) → slot v ss ≡ some b → length b ≤ total (sizes (present ss))
slot-total v b [] e = let z : ◌≡◌ {A = ℕ} 0 1 = cc in absurd (omega arith)
slot-total v b ((u, none) ∷ ss) e = go (eqb u v) e (slot-total v b ss)
  where
    go : (t : Bool) → pick t none (slot v ss) ≡ some b → (slot v ss ≡ some b → length b ≤ total (sizes (present ss))) → length b ≤ total (sizes (present ss))
    go true d ih = let z : ◌≡◌ {A = ℕ} 0 1 = cc in absurd (omega arith)
    go false d ih = ih d
slot-total v b ((u, some c) ∷ ss) e = go (eqb u v) e (slot-total v b ss)
  where
    go : (t : Bool) → pick t (some c) (slot v ss) ≡ some b → (slot v ss ≡ some b → length b ≤ total (sizes (present ss)))
        → length b ≤ up4 (length c) + total (sizes (present ss))
    go true d ih = let z : c ≡ b = cc in omega (arith, ap length z)
    go false d ih = omega (arith, ih d)

pub glyf_in-file : (t : Tables) → length t.glyf ≤ length (file (entries t))
unfolding file
glyf_in-file t =
    let x = adjustment (entries t) in
    let s = with_head (put t.head 8 (be32 x)) t in
    let fs = adjust x (entries t) in
    let is : fs ≡ present (slots s) = ap (adjust x) (entries_are t) ∙ adjust-present x t in
    omega (
      arith,
      length-append (directory_of (entries t)) (bodies fs),
      length-bodies fs,
      ap (λ (es : List Entry). total (sizes es)) is,
      slot-total GLYF t.glyf (slots s) refl,
    )
