-- post: an old index and its new one mean the same name, and stored names read back if none is empty;
-- so cutting a post table that was cut is cutting once.
use mathlib.Core.Path.{◌≡◌, refl, sym, ap, ap₂, ◌∙◌, subst, subst₂}
use mathlib.Core.List.{List, [], ◌∷◌, ◌++◌, map, append_assoc}
use Prim.Native.Nat.{ℕ, zero, suc, ◌+◌, ◌*◌, ◌-◌, ◌≤◌, ◌<◌}
use native.Mathlib.Omega.{arith}
use lib.Dec.{ltb, leb, eqb, lit<, lit≤}
use lib.ListN.{length, get_or, take, drop, length-append}
use lib.Seq.{take_at, drop_at, drop-cons, length-take-le, drop-drop, get_or-append-add}
use borrow.Author.Tests.{le-leb, lt-leb, lt-ltb, leb-true, leb-false, ltb-true, eqb-true, eq-eqb}
use Rattle.model.specs.Res.{Res, ok, both, need, each, ◌>>◌}
use Rattle.model.specs.Bytes.{Bytes, word16, word32, be16, holds, concat}
use Rattle.model.proofs.Res.{Under, EachOk, each_inv, each-known, each_map, need-ok, bind_ok, pick_true, pick_false, both_true, both_intro, need_inv, bind_inv, ok_inj}
use Rattle.model.proofs.Bytes.{word16-be16, word16-drop}
use Rattle.model.proofs.Words.{word32-take, word32-front}
use Rattle.model.proofs.Members.{by}
use Rattle.model.proofs.Places.{get_in}
use Rattle.model.specs.Post.{names, names_of, post_index, new_indexes, new_names, pascal, new_post, cut_post}
use Rattle.theorems.specs.Twice.{NoneMissing}

-- The stored names are read back, if none is empty
abbrev NonEmpty : List Bytes → Type 0
NonEmpty [] = Unit {0}
NonEmpty (s ∷ ss) = (0 < length s) × NonEmpty ss

names-back : (turns : ℕ) (ss : List Bytes) → NonEmpty ss → length ss ≤ turns → names turns (concat (map pascal ss)) ≡ ss
names-back zero [] n h = refl
names-back (suc turns) [] n h = refl
names-back zero (s ∷ ss) n h = absurd (omega arith)
names-back (suc turns) (s ∷ ss) n h =
    let rest = concat (map pascal ss) in
    pick_true _ _ _ (both_intro (lt-ltb 0 (length s) n.0) (le-leb (length s) (length (s ++ rest)) (omega (arith, length-append s rest))))
    (ap₂ (λ (x : Bytes) (b : Bytes). x ∷ names turns b) (take_at s rest (length s) refl) (drop_at s rest (length s) refl)
    ∙ ap (λ (l : List Bytes). s ∷ l) (names-back turns ss n.1 (omega arith)))

-- no name of a list that was read is empty
names-full : (turns : ℕ) (b : Bytes) → NonEmpty (names turns b)
names-full zero b = tt
names-full (suc turns) [] = tt
names-full (suc turns) (k ∷ b) =
    by (both (ltb 0 k) (leb k (length b)))
    (λ e.
    let q = both_true (ltb 0 k) (leb k (length b)) e in
    rw e (omega (arith, ltb-true 0 k q.0, length-take-le k b (leb-true k (length b) q.1)), names-full turns (drop k b)))
    (λ e. rw e tt)

full_at : (ss : List Bytes) (i : ℕ) → NonEmpty ss → i < length ss → 0 < length (get_or ss i [])
full_at [] i n h = absurd (omega arith)
full_at (s ∷ ss) zero n h = n.0
full_at (s ∷ ss) (suc i) n h = full_at ss i n.1 (omega arith)

-- nor of those that are stored, if no index names a missing one
abbrev Present : ℕ → List ℕ → Type 0
Present n is = (k : ℕ) → k < length is → 257 < get_or is k 0 → get_or is k 0 - 258 < n

new-full : (ns : List Bytes) (is : List ℕ) → NonEmpty ns → Present (length ns) is → NonEmpty (new_names ns is)
new-full ns [] n p = tt
new-full ns (i ∷ is) n p =
    let ih = new-full ns is n (λ k h. p (suc k) (omega arith)) in
    by (leb i 257) (λ e. rw e ih) (λ e. rw e (full_at ns (i - 258) n (p 0 (omega arith) (leb-false i 257 e)), ih))

-- An old index and its new one mean the same: a standard name, or the same stored string
data Means (old new : List Bytes) (i j : ℕ) : Type 0 where
  standard : i ≤ 257 → j ≡ i → Means old new i j
  custom : 257 < i → 257 < j → get_or new (j - 258) [] ≡ get_or old (i - 258) [] → Means old new i j

-- where p are the names stored before
means : (ns p : List Bytes) (is : List ℕ) (k : ℕ) → k < length is
    → Means ns (p ++ new_names ns is) (get_or is k 0) (get_or (new_indexes (258 + length p) is) k 0)
means ns p [] k h = absurd (omega arith)
means ns p (i ∷ is) zero h =
    by (leb i 257)
    (λ e. rw e (standard (leb-true i 257 e) refl))
    (λ e.
    rw e
    (custom (leb-false i 257 e) (omega arith)
    (ap (λ (n : ℕ). get_or (p ++ (get_or ns (i - 258) [] ∷ new_names ns is)) n []) (here (length p)) ∙ get_or-append-add p (get_or ns (i - 258) [] ∷ new_names ns is) 0 [])))
  where
    here : (n : ℕ) → 258 + n - 258 ≡ n + 0
    here n = omega arith
means ns p (i ∷ is) (suc k) h =
    by (leb i 257)
    (λ e. rw e (means ns p is k (omega arith)))
    (λ e.
    let s = get_or ns (i - 258) [] in
    rw e
    (subst₂ (λ (l : List Bytes) (n : ℕ). Means ns l (get_or is k 0) (get_or (new_indexes n is) k 0))
    (append_assoc p (s ∷ []) (new_names ns is)) (ap (λ (m : ℕ). 258 + m) (length-append p (s ∷ [])) ∙ next (length p))
    (means ns (p ++ (s ∷ [])) is k (omega arith))))
  where
    next : (n : ℕ) → 258 + (n + 1) ≡ suc (258 + n)
    next n = omega arith

-- so a second cut finds the same
module _ (old new : List Bytes) (f g : ℕ → ℕ) (n : ℕ) (m : (k : ℕ) → k < n → Means old new (f k) (g k)) where
  indexes-same : (next : ℕ) (rs : List ℕ) → Under n rs → new_indexes next (map g rs) ≡ new_indexes next (map f rs)
  indexes-same next [] u = refl
  indexes-same next (r ∷ rs) u = go (m r u.0) (indexes-same next rs u.1) (indexes-same (suc next) rs u.1)
    where
      go : Means old new (f r) (g r) → new_indexes next (map g rs) ≡ new_indexes next (map f rs)
          → new_indexes (suc next) (map g rs) ≡ new_indexes (suc next) (map f rs)
          → new_indexes next (map g (r ∷ rs)) ≡ new_indexes next (map f (r ∷ rs))
      go (standard h e) a b = rw (le-leb (f r) 257 h, le-leb (g r) 257 (omega arith)) (ap₂ (λ (x : ℕ) (l : List ℕ). x ∷ l) e a)
      go (custom h k e) a b = rw (lt-leb (f r) 257 h, lt-leb (g r) 257 k) (ap (λ (l : List ℕ). next ∷ l) b)

  names_same : (rs : List ℕ) → Under n rs → new_names new (map g rs) ≡ new_names old (map f rs)
  names_same [] u = refl
  names_same (r ∷ rs) u = go (m r u.0) (names_same rs u.1)
    where
      go : Means old new (f r) (g r) → new_names new (map g rs) ≡ new_names old (map f rs) → new_names new (map g (r ∷ rs)) ≡ new_names old (map f (r ∷ rs))
      go (standard h e) a = rw (le-leb (f r) 257 h, le-leb (g r) 257 (omega arith)) a
      go (custom h k e) a = rw (lt-leb (f r) 257 h, lt-leb (g r) 257 k) (ap₂ (λ (x : Bytes) (l : List Bytes). x ∷ l) e a)

-- new indexes fit, and are as many
indexes_fit : (ns : List Bytes) (next : ℕ) (is : List ℕ) → 258 ≤ next → next + length (new_names ns is) ≤ 65536 → (j : ℕ) → get_or (new_indexes next is) j 0 < 65536
indexes_fit ns next [] h k j = lit< tt
indexes_fit ns next (i ∷ is) h k zero = by (leb i 257) (λ e. rw e (omega (arith, leb-true i 257 e))) (λ e. rw e (omega (arith, rw e at k)))
indexes_fit ns next (i ∷ is) h k (suc j) =
    by (leb i 257)
    (λ e. rw e (indexes_fit ns next is h (rw e at k) j))
    (λ e. rw e (indexes_fit ns (suc next) is (omega arith) (omega (arith, rw e at k)) j))

length-indexes : (next : ℕ) (is : List ℕ) → length (new_indexes next is) ≡ length is
length-indexes next [] = refl
length-indexes next (i ∷ is) = by (leb i 257) (λ e. rw e (ap suc (length-indexes next is))) (λ e. rw e (ap suc (length-indexes (suc next) is)))

-- A written version 2 table, read again
drop-words : (is : List ℕ) (j : ℕ) (r : Bytes) → j ≤ length is → drop (2 * j) (concat (map be16 is) ++ r) ≡ concat (map be16 (drop j is)) ++ r
drop-words is zero r h = refl
drop-words [] (suc j) r h = absurd (omega arith)
drop-words (i ∷ is) (suc j) r h = ap (λ (k : ℕ). drop k (concat (map be16 (i ∷ is)) ++ r)) (two j) ∙ drop-words is j r (omega arith)
  where
    two : (j : ℕ) → 2 * suc j ≡ suc (suc (2 * j))
    two j = omega arith

length-words : (is : List ℕ) → length (concat (map be16 is)) ≡ 2 * length is
length-words [] = refl
length-words (i ∷ is) = omega (arith, length-words is)

length-pascal : (ns : List Bytes) → length ns ≤ length (concat (map pascal ns))
length-pascal [] = omega arith
length-pascal (s ∷ ss) = omega (arith, length-append s (concat (map pascal ss)), length-pascal ss)

module _ (first : Bytes) (is : List ℕ) (ns : List Bytes) (l : length first ≡ 32) (small : length is < 65536) where
  abbrev c : Bytes
  c = new_post first is ns

  abbrev words : Bytes
  words = concat (map be16 is)

  abbrev stored : Bytes
  stored = concat (map pascal ns)

  abbrev behind : Bytes
  behind = be16 (length is) ++ (words ++ stored)

  post-length : length c ≡ 34 + 2 * length is + length stored
  unfolding new_post
  post-length = omega (arith, length-append first behind, length-append words stored, length-words is)

  post-version : word32 c 0 ≡ word32 first 0
  unfolding new_post
  post-version = word32-front first behind 0 (omega arith)

  post-first : take 32 c ≡ first
  unfolding new_post
  post-first = take_at first behind 32 l

  after_first : drop 32 c ≡ behind
  unfolding new_post
  after_first = drop_at first behind 32 l

  post-count : word16 c 32 ≡ length is
  post-count = sym (word16-drop c 32 0) ∙ ap (λ (b : Bytes). word16 b 0) after_first ∙ word16-be16 (length is) [] small

  after_34 : drop 34 c ≡ words ++ stored
  after_34 = sym (drop-drop 2 32 c) ∙ ap (drop 2) after_first

  post_word : (j : ℕ) → j < length is → get_or is j 0 < 65536 → word16 c (34 + 2 * j) ≡ get_or is j 0
  post_word j h k =
      ap (word16 c) (plain (2 * j))
      ∙ sym (word16-drop c 34 (2 * j + 0))
      ∙ ap (λ (b : Bytes). word16 b (2 * j + 0)) after_34
      ∙ sym (word16-drop (words ++ stored) (2 * j) 0)
      ∙ ap (λ (b : Bytes). word16 b 0) (drop-words is j stored (omega arith) ∙ ap (λ (m : List ℕ). concat (map be16 m) ++ stored) (drop-cons is j 0 h))
      ∙ word16-be16 (get_or is j 0) [] k
    where
      plain : (a : ℕ) → 34 + a ≡ 34 + (a + 0)
      plain a = omega arith

  post-names : NonEmpty ns → names_of c ≡ ns
  post-names n =
      ap (λ (k : ℕ). names (length c) (drop (34 + 2 * k) c)) post-count
      ∙ ap (names (length c))
      (sym (drop-drop (2 * length is) 34 c) ∙ ap (drop (2 * length is)) after_34 ∙ drop_at words stored (2 * length is) (length-words is))
      ∙ names-back (length c) ns n (omega (arith, post-length, length-pascal ns))

-- Cutting twice
finish : Bytes → List ℕ → List Bytes → Res Bytes
finish first is ns = need 5 (leb (257 + length ns) 65535) >> ok (new_post first is ns)

cut-two : (b : Bytes) (roster is : List ℕ) → word32 b 0 ≡ 0x00020000 → 34 + 2 * word16 b 32 ≤ length b → each (post_index b) roster ≡ ok is
    → cut_post b roster ≡ finish (take 32 b) (new_indexes 258 is) (new_names (names_of b) is)
unfolding cut_post finish
cut-two b roster is v a e =
    need-ok _ _ _ (le-leb (0 + 4) (length b) (omega arith))
    (pick_true _ _ _ (eq-eqb (word32 b 0) 0x00020000 v)
    (need-ok _ _ _ (le-leb (0 + 34) (length b) (omega arith))
    (need-ok _ _ _ (le-leb (34 + 2 * word16 b 32) (length b) a)
    (bind_ok _ _ e refl))))

module _ (b : Bytes) (is r₁ : List ℕ) (few : length r₁ < 65536) (ev : EachOk (post_index b) r₁ is 0 0) (v : word32 b 0 ≡ 0x00020000)
    (array : 34 + 2 * word16 b 32 ≤ length b) (fits : 257 + length (new_names (names_of b) is) ≤ 65535) (full : NoneMissing b r₁) where
  abbrev new : List Bytes
  new = new_names (names_of b) is

  abbrev made : Bytes
  made = new_post (take 32 b) (new_indexes 258 is) new

  l32 : length (take 32 b) ≡ 32
  l32 = length-take-le 32 b (omega arith)

  len : length (new_indexes 258 is) ≡ length r₁
  len = length-indexes 258 is ∙ ev.same_length

  small : length (new_indexes 258 is) < 65536
  small = omega (arith, len)

  -- glyph j's index, in the old table and in the new one
  f : ℕ → ℕ
  f j = get_or is j 0

  g : ℕ → ℕ
  g j = get_or (new_indexes 258 is) j 0

  present : Present (length (names_of b)) is
  unfolding post_index
  present k l =
      let h : k < length r₁ = omega (arith, ev.same_length) in
      let index : word16 b (34 + 2 * get_or r₁ k 0) ≡ get_or is k 0 = ok_inj (need_inv 3 (ltb (get_or r₁ k 0) (word16 b 32)) _ (get_or is k 0) (ev.at k h)).1 in
      subst (λ (i : ℕ). 257 < i → i - 258 < length (names_of b)) index (full v (get_or r₁ k 0) (get_in r₁ k h))

  names_are : names_of made ≡ new
  names_are =
      post-names (take 32 b) (new_indexes 258 is) new l32 small (new-full (names_of b) is (names-full (length b) (drop (34 + 2 * word16 b 32) b)) present)

  mean : (k : ℕ) → k < length r₁ → Means (names_of b) new (f k) (g k)
  unfolding f g
  mean k h = means (names_of b) [] is k (omega (arith, ev.same_length))

  index-again : (j : ℕ) → j < length r₁ → post_index made j ≡ ok (g j)
  unfolding post_index g
  index-again j h =
      need-ok _ _ _ (lt-ltb j (word16 made 32) (omega (arith, post-count (take 32 b) (new_indexes 258 is) new l32 small, len)))
      (ap (λ (x : ℕ). ok x)
      (post_word (take 32 b) (new_indexes 258 is) new l32 small j (omega (arith, len))
      (indexes_fit (names_of b) 258 is (lit≤ tt) (omega (arith, fits)) j)))

  post-cut : (r₂ : List ℕ) → Under (length r₁) r₂ → cut_post made r₂ ≡ cut_post b (map (λ j. get_or r₁ j 0) r₂)
  unfolding f
  post-cut r₂ u =
      let n = post-length (take 32 b) (new_indexes 258 is) new l32 small in
      let cnt = post-count (take 32 b) (new_indexes 258 is) new l32 small in
      let ver = post-version (take 32 b) (new_indexes 258 is) new l32 small ∙ word32-take 32 b 0 (lit< tt) in
      cut-two made r₂ (map g r₂) (ver ∙ v) (omega arith) (each-known (length r₁) (post_index made) g r₂ u index-again)
      ∙ (λ i.
      finish (post-first (take 32 b) (new_indexes 258 is) new l32 small i)
      (indexes-same (names_of b) new f g (length r₁) mean 258 r₂ u i)
      ((ap (λ (z : List Bytes). new_names z (map g r₂)) names_are ∙ names_same (names_of b) new f g (length r₁) mean r₂ u) i))
      ∙ sym
      (cut-two b (map (λ j. get_or r₁ j 0) r₂) (map f r₂) v array
      (each_map (post_index b) (λ j. get_or r₁ j 0) r₂ ∙ each-known (length r₁) (λ j. post_index b (get_or r₁ j 0)) f r₂ u ev.at))

pub post-twice : (b c : Bytes) (r₁ r₂ : List ℕ) → length r₁ < 65536 → cut_post b r₁ ≡ ok c → NoneMissing b r₁ → Under (length r₁) r₂
    → cut_post c r₂ ≡ cut_post b (map (λ j. get_or r₁ j 0) r₂)
unfolding cut_post
post-twice b c r₁ r₂ few q full u =
    let s₁ = need_inv 3 (holds b 0 4) _ c q in
    by (eqb (word32 b 0) 0x00020000)
    (λ e.
    let s₂ = need_inv 3 (holds b 0 34) _ c (rw e at s₁.1) in
    let s₃ = need_inv 3 (holds b 34 (2 * word16 b 32)) _ c s₂.1 in
    let s₄ = bind_inv (each (post_index b) r₁) _ c s₃.1 in
    let is = s₄.value in
    let s₅ = need_inv 5 (leb (257 + length (new_names (names_of b) is)) 65535) _ c s₄.then in
    subst (λ (c : Bytes). cut_post c r₂ ≡ cut_post b (map (λ j. get_or r₁ j 0) r₂)) (ok_inj s₅.1)
    (post-cut b is r₁ few (each_inv (post_index b) r₁ is 0 0 s₄.first) (eqb-true (word32 b 0) 0x00020000 e)
    (leb-true (34 + 2 * word16 b 32) (length b) s₃.0) (leb-true _ 65535 s₅.0) full r₂ u))
    (λ e.
    subst (λ (c : Bytes). cut_post c r₂ ≡ cut_post b (map (λ j. get_or r₁ j 0) r₂)) (ok_inj (rw e at s₁.1))
    (need-ok _ _ _ s₁.0 (pick_false _ _ _ e refl) ∙ sym (need-ok _ _ _ s₁.0 (pick_false _ _ _ e refl))))
