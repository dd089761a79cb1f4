-- The call refuses where its first failing step does: forwards a failing step's number is carried to the answer, backwards a refusal is traced to its step.
use mathlib.Core.Path.{◌≡◌, refl, sym, ap, ◌∙◌, subst}
use mathlib.Core.Bool.{Bool, true, false}
use mathlib.Core.Option.{Option, none, some}
use mathlib.Core.List.{List}
use mathlib.Core.Logic.{inl, inr}
use Prim.Native.Nat.{ℕ, ◌*◌, ◌≤◌, ◌<◌}
use native.Mathlib.Omega.{arith}
use lib.Dec.{T, leb, leb→le}
use lib.ListN.{length}
use borrow.Author.Tests.{lt-leb, leb-true, leb-false}
use Rattle.model.specs.Res.{Res, refuse, ok, each, ◌>>=◌}
use Rattle.model.specs.Bytes.{Bytes, place}
use Rattle.model.proofs.Res.{Bound, bind_ok, bind_inv, ok-refuse}
use Rattle.model.specs.Font.{Entry, Tables, face_start, directory, usable, read}
use Rattle.model.specs.Metrics.{metrics}
use Rattle.model.specs.Name.{cut_name}
use Rattle.model.specs.Post.{cut_post}
use Rattle.model.specs.File.{entries, file}
use Rattle.model.specs.Cut.{count, closure, piece_of, optional, rewrite, cut_tables}
use Rattle.model.specs.Call.{Input, Answer, Made, ready, made, last, delivered, answer}
use Rattle.model.proofs.Closure.{pieces-known}
use Rattle.theorems.specs.Closure.{Refused}
use Rattle.theorems.specs.Refusals.{KindFails, under4, otto, unknown, missing, past, face_otto, face_unknown, TablesFail, no_glyf, no_other, MetricsFail, no_count, last_out, glyph_out, NameFails, under2, rows_cut, storage_cut, string_out, storage_full, PostFails, post_under4, array_cut, no_index, index_over, Refuses, at_kind, at_directory, at_tables, at_scratch, at_walk, at_metrics, at_name, at_post, at_file, at_output, Succeeds, Refusals}
use Rattle.theorems.proofs.WalkRefusals.{walk-refuses}
use Rattle.theorems.proofs.Steps.{stop, bind_stop, tested, bound, kind_exactly, directory-says, directory-given, tables_exactly, metrics_exactly, name_exactly, post_exactly}

-- an optional table refuses if it is there and does
optional-given : (f : Bytes → Res Bytes) (o : Option Bytes) (b : Bytes) (k : ℕ) → o ≡ some b → f b ≡ refuse k → optional f o ≡ refuse k
optional-given f o b k e r = ap (optional f) e ∙ bind_stop (f b) _ k r

optional-says : (F : Type 0) (f : Bytes → Res Bytes) (o : Option Bytes) (k : ℕ) → optional f o ≡ refuse k → ((b : Bytes) → o ≡ some b → f b ≡ refuse k → F) → F
optional-says F f none k e g = ok-refuse e
optional-says F f (some b) k e g = bound F (f b) _ k e (g b refl) (λ _ _ d. ok-refuse d)

module _ (x : Input) where
  abbrev pub whole : Res Made
  whole = ready x >>= λ t. made t x.ids

  -- steps 1 to 3
  read-says : (k : ℕ) → read x.font x.index ≡ refuse k → Refuses x k
  unfolding read
  read-says k e =
      bound (Refuses x k) (face_start x.font x.index) _ k e (λ d. at_kind k ((kind_exactly x.font x.index).says k d)) (λ at s d.
      bound (Refuses x k) (directory x.font at) _ k d
      (λ d. let q = directory-says x.font at k d in subst (Refuses x) (sym q.0) (at_directory at s q.1))
      (λ rs r d. at_tables k at rs s r ((tables_exactly (usable x.font rs)).says k d)))

  -- steps 5 to 8
  cut-says : (t : Tables) → ready x ≡ ok t → (k : ℕ) → cut_tables t x.ids ≡ refuse k → Refuses x k
  unfolding cut_tables rewrite
  cut-says t p k e =
      bound (Refuses x k) (closure t x.ids) _ k e (at_walk k t p) (λ r w d.
      bound (Refuses x k) (each (piece_of t (place r)) r) _ k d (λ d. ok-refuse (sym (pieces-known t x.ids r w).1 ∙ d)) (λ bs _ d.
      bound (Refuses x k) (metrics t.hhea t.hmtx r) _ k d (λ d. at_metrics k t r p w ((metrics_exactly t.hhea t.hmtx r).says k d)) (λ ms m d.
      bound (Refuses x k) (optional cut_name t.name) _ k d
      (λ d. optional-says (Refuses x k) cut_name t.name k d (λ b is d. at_name k t r ms b p w m is ((name_exactly b).says k d))) (λ n i d.
      bound (Refuses x k) (optional (λ b. cut_post b r) t.post) _ k d
      (λ d. optional-says (Refuses x k) (λ b. cut_post b r) t.post k d (λ b is d. at_post k t r ms n b p w m i is ((post_exactly b r).says k d)))
      (λ _ _ d. ok-refuse d)))))

  whole_says : (k : ℕ) → whole ≡ refuse k → Refuses x k
  unfolding ready made
  whole_says k e =
      bound (Refuses x k) (ready x) _ k e
      (λ d.
      bound (Refuses x k) (read x.font x.index) _ k d (read-says k) (λ t r d.
      tested (Refuses x) 8 (leb (4 * count t) (length x.scratch)) _ k d (λ q. at_scratch t r (leb-false (4 * count t) (length x.scratch) q)) (λ _ d. ok-refuse d)))
      (λ t p d.
      bound (Refuses x k) (cut_tables t x.ids) _ k d (cut-says t p k) (λ c i d.
      tested (Refuses x) 5 (leb (length (file (entries c.tables))) 4294967295) _ k d
      (λ q. at_file t c p i (leb-false (length (file (entries c.tables))) 4294967295 q)) (λ _ d. ok-refuse d)))

  -- forwards: from a step that fails to the whole
  in_ready : (k : ℕ) → ready x ≡ refuse k → whole ≡ refuse k
  in_ready k e = bind_stop (ready x) _ k e

  in_read : (k : ℕ) → read x.font x.index ≡ refuse k → whole ≡ refuse k
  unfolding ready
  in_read k e = in_ready k (bind_stop (read x.font x.index) _ k e)

  in_made : (t : Tables) (k : ℕ) → ready x ≡ ok t → made t x.ids ≡ refuse k → whole ≡ refuse k
  in_made t k p e = bind_ok _ _ p e

  in_cut : (t : Tables) (k : ℕ) → ready x ≡ ok t → cut_tables t x.ids ≡ refuse k → whole ≡ refuse k
  unfolding made
  in_cut t k p e = in_made t k p (bind_stop (cut_tables t x.ids) _ k e)

  pub carried : (k : ℕ) → whole ≡ refuse k → (answer x).refusal ≡ k
  unfolding answer
  carried k e = ap (λ (m : Res Made). (last (length x.out) m).refusal) e

  answer-made : (m : Made) (t : Bool) → whole ≡ ok m → leb (length m.bytes) (length x.out) ≡ t → answer x ≡ delivered t m
  unfolding answer
  answer-made m t e q = ap (λ (r : Res Made). last (length x.out) r) e ∙ ap (λ (t : Bool). delivered t m) q

  given : (k : ℕ) → Refuses x k → (answer x).refusal ≡ k
  unfolding read ready made cut_tables rewrite
  given _ (at_kind k f) = carried k (in_read k (bind_stop (face_start x.font x.index) _ k ((kind_exactly x.font x.index).given k f)))
  given _ (at_directory at s f) = carried 3 (in_read 3 (bind_ok _ _ s (bind_stop (directory x.font at) _ 3 (directory-given x.font at f))))
  given _ (at_tables k at rs s r f) = carried k (in_read k (bind_ok _ _ s (bind_ok _ _ r ((tables_exactly (usable x.font rs)).given k f))))
  given _ (at_scratch t r l) =
      carried 8 (in_ready 8 (bind_ok _ _ r (stop 8 (leb (4 * count t) (length x.scratch)) _ (lt-leb (4 * count t) (length x.scratch) l))))
  given _ (at_walk k t p e) = carried k (in_cut t k p (bind_stop (closure t x.ids) _ k e))
  given _ (at_metrics k t r p w f) =
      carried k
      (in_cut t k p
      (bind_ok _ _ w
      (bind_ok _ _ (pieces-known t x.ids r w).1 (bind_stop (metrics t.hhea t.hmtx r) _ k ((metrics_exactly t.hhea t.hmtx r).given k f)))))
  given _ (at_name k t r ms b p w m is f) =
      carried k
      (in_cut t k p
      (bind_ok _ _ w
      (bind_ok _ _ (pieces-known t x.ids r w).1
      (bind_ok _ _ m (bind_stop (optional cut_name t.name) _ k (optional-given cut_name t.name b k is ((name_exactly b).given k f)))))))
  given _ (at_post k t r ms n b p w m i is f) =
      carried k
      (in_cut t k p
      (bind_ok _ _ w
      (bind_ok _ _ (pieces-known t x.ids r w).1
      (bind_ok _ _ m
      (bind_ok _ _ i
      (bind_stop (optional (λ b. cut_post b r) t.post) _ k (optional-given (λ b. cut_post b r) t.post b k is ((post_exactly b r).given k f))))))))
  given _ (at_file t c p i l) =
      carried 5
      (in_made t 5 p (bind_ok _ _ i (stop 5 (leb (length (file (entries c.tables))) 4294967295) _ (lt-leb (length (file (entries c.tables))) 4294967295 l))))
  given _ (at_output t m p i l) =
      ap (λ (a : Answer). a.refusal) (answer-made m false (bind_ok _ _ p i) (lt-leb (length m.bytes) (length x.out) l))

  -- the call succeeds, or the output is too short, or a step before refuses
  pub data Result : Type 0 where
    done : (t : Tables) (m : Made) → ready x ≡ ok t → made t x.ids ≡ ok m → length m.bytes ≤ length x.out → answer x ≡ delivered true m → Result
    too_long : (t : Tables) (m : Made) → ready x ≡ ok t → made t x.ids ≡ ok m → length x.out < length m.bytes → answer x ≡ delivered false m → Result
    refusal : (k : ℕ) → whole ≡ refuse k → Result

  pub result : Result
  result = go whole refl
    where
      delivers : (m : Made) → whole ≡ ok m → Bound (ready x) (λ t. made t x.ids) m → (t : Bool) → leb (length m.bytes) (length x.out) ≡ t → Result
      delivers m e s true q = done s.value m s.first s.then (leb-true (length m.bytes) (length x.out) q) (answer-made m true e q)
      delivers m e s false q = too_long s.value m s.first s.then (leb-false (length m.bytes) (length x.out) q) (answer-made m false e q)

      go : (m : Res Made) → whole ≡ m → Result
      go (refuse k) e = refusal k e
      go (ok m) e = delivers m e (bind_inv (ready x) (λ t. made t x.ids) m e) (leb (length m.bytes) (length x.out)) refl

-- every number is one of 1 to 8, and 6 is the output's alone
abbrev pub Number : ℕ → Type 0
Number k = (1 ≤ k) × (k ≤ 8) × (k ≡ 6 → ⊥)

literal : (k : ℕ) → T (leb 1 k) → T (leb k 8) → (k ≡ 6 → ⊥) → Number k
literal k a b c = (leb→le 1 k a, leb→le k 8 b, c)

kind_number : (font : Bytes) (index k : ℕ) → KindFails font index k → Number k
kind_number font index _ (under4 _) = literal 1 tt tt (omega arith)
kind_number font index _ (otto _ _) = literal 2 tt tt (omega arith)
kind_number font index _ (unknown _ _ _ _) = literal 1 tt tt (omega arith)
kind_number font index _ (missing _ _) = literal 3 tt tt (omega arith)
kind_number font index _ (past _ _ _) = literal 3 tt tt (omega arith)
kind_number font index _ (face_otto _ _) = literal 2 tt tt (omega arith)
kind_number font index _ (face_unknown _ _ _) = literal 3 tt tt (omega arith)

tables-number : (es : List Entry) (k : ℕ) → TablesFail es k → Number k
tables-number es _ (no_glyf _) = literal 2 tt tt (omega arith)
tables-number es _ (no_other _ _ _) = literal 3 tt tt (omega arith)

metrics-number : (hhea hmtx : Bytes) (r : List ℕ) (k : ℕ) → MetricsFail hhea hmtx r k → Number k
metrics-number hhea hmtx r _ (no_count _) = literal 5 tt tt (omega arith)
metrics-number hhea hmtx r _ (last_out _ _) = literal 3 tt tt (omega arith)
metrics-number hhea hmtx r _ (glyph_out _ _ _ _) = literal 3 tt tt (omega arith)

name-number : (b : Bytes) (k : ℕ) → NameFails b k → Number k
name-number b _ (under2 _) = literal 3 tt tt (omega arith)
name-number b _ (rows_cut _ _ _) = literal 3 tt tt (omega arith)
name-number b _ (storage_cut _ _ _) = literal 3 tt tt (omega arith)
name-number b _ (string_out _ _ _ _ _ _) = literal 4 tt tt (omega arith)
name-number b _ (storage_full _ _ _ _ _) = literal 5 tt tt (omega arith)

post-number : (b : Bytes) (r : List ℕ) (k : ℕ) → PostFails b r k → Number k
post-number b r _ (post_under4 _) = literal 3 tt tt (omega arith)
post-number b r _ (array_cut _ _ _) = literal 3 tt tt (omega arith)
post-number b r _ (no_index _ _ _ _ _) = literal 3 tt tt (omega arith)
post-number b r _ (index_over _ _ _ _ _) = literal 5 tt tt (omega arith)

walk-number : (t : Tables) (ids : List ℕ) (k : ℕ) → Refused t ids k → Number k
walk-number t ids k (inl q) = subst Number (sym q.0) (literal 3 tt tt (omega arith))
walk-number t ids k (inr q) = subst Number (sym q.0) (literal 7 tt tt (omega arith))

number_of : (x : Input) (k : ℕ) → Refuses x k → whole x ≡ refuse k → Number k
number_of x _ (at_kind k f) _ = kind_number x.font x.index k f
number_of x _ (at_directory _ _ _) _ = literal 3 tt tt (omega arith)
number_of x _ (at_tables k _ rs _ _ f) _ = tables-number (usable x.font rs) k f
number_of x _ (at_scratch _ _ _) _ = literal 8 tt tt (omega arith)
number_of x _ (at_walk k t _ e) _ = walk-number t x.ids k ((walk-refuses t x.ids).refuses k e)
number_of x _ (at_metrics k t r _ _ f) _ = metrics-number t.hhea t.hmtx r k f
number_of x _ (at_name k _ _ _ b _ _ _ _ f) _ = name-number b k f
number_of x _ (at_post k _ r _ _ b _ _ _ _ _ f) _ = post-number b r k f
number_of x _ (at_file _ _ _ _ _) _ = literal 5 tt tt (omega arith)
number_of x _ (at_output t m p i l) e = ok-refuse (sym (bind_ok _ _ p i) ∙ e)

pub number : (x : Input) (k : ℕ) → whole x ≡ refuse k → Number k
number x k e = number_of x k (whole_says x k e) e

pub refusals : Refusals
refusals x = record { given = given x; only = λ k e h. only k e h (result x); numbers = numbers (result x); success = λ e. won e (result x) }
  where
    number_is : {a : Answer} → answer x ≡ a → (answer x).refusal ≡ a.refusal
    number_is q = ap (λ (a : Answer). a.refusal) q

    only : (k : ℕ) → (answer x).refusal ≡ k → 1 ≤ k → Result x → Refuses x k
    only k e h (done t m p i l q) = absurd (omega (arith, e, number_is q))
    only k e h (too_long t m p i l q) = subst (Refuses x) (sym (number_is q) ∙ e) (at_output t m p i l)
    only k e h (refusal j q) = subst (Refuses x) (sym (carried x j q) ∙ e) (whole_says x j q)

    numbers : Result x → (answer x).refusal ≤ 8
    numbers (done t m p i l q) = omega (arith, number_is q)
    numbers (too_long t m p i l q) = omega (arith, number_is q)
    numbers (refusal k q) = omega (arith, carried x k q, (number x k q).1)

    won : (answer x).refusal ≡ 0 → Result x → Succeeds x
    won e (done t m p i l q) = record { tables = t; result = m; passed = p; cut = i; room = l }
    won e (too_long t m p i l q) = absurd (omega (arith, e, number_is q))
    won e (refusal k q) = absurd (omega (arith, e, carried x k q, (number x k q).0))
