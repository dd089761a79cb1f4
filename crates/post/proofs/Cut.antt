-- The tests in document 01's order, one law for each outcome; and the new table's parts, which grow glyph by glyph.
use mathlib.Core.Path.{◌≡◌, refl, sym, ap, ap₂, ◌∙◌}
use mathlib.Core.Bool.{true}
use mathlib.Core.List.{List, [], ◌++◌, map, append_assoc}
use Prim.Native.Nat.{ℕ, ◌+◌, ◌*◌, ◌≤◌, ◌<◌}
use native.Mathlib.Omega.{arith}
use lib.Dec.{ltb, leb, eqb}
use lib.ListN.{length, take, get_or, length-map}
use borrow.Author.Tests.{lt-ltb, le-ltb, le-leb, lt-leb, eq-eqb, ne_eqb, leb-true, leb-false, ltb-true}
use Rattle.model.specs.Res.{Res, refuse, ok, need, each, is_ok, value_of, map_res, ◌>>=◌, ◌>>◌}
use Rattle.model.specs.Bytes.{Bytes, word16, word32, be16, holds}
use Rattle.model.specs.Post.{names_of, post_index, new_indexes, new_names, new_post, cut_post}
use Rattle.model.proofs.Res.{need-ok, bind_ok, pick_true, pick_false, need_inv, bind_inv, each_inv, each-known, map_inv, ok_inj, ok-refuse}
use Rattle.model.proofs.Post.{length-new_indexes, concat-map, new_names-bytes, under_all, each-refuses}
use Rattle.post.specs.Post.{index_of, stored_names, name_bytes, index_bytes, head_bytes, post_bytes, Named, Answered}
use Rattle.std.specs.Prelude.{Ok, Err}
use Rattle.answer.specs.declared.Refusal.{Refusal}
use Rattle.answer.specs.Answers.{number}
use Rattle.post.specs.declared.Asked.{Asked}
use Rattle.model.proofs.Members.{by}

-- an index is there, or it is not
index-there : (b : Bytes) (g : ℕ) → g < word16 b 32 → post_index b g ≡ ok (index_of b g)
unfolding post_index index_of
index-there b g h = need-ok 3 (ltb g (word16 b 32)) _ (lt-ltb g (word16 b 32) h) refl

index-missing : (b : Bytes) (g : ℕ) → word16 b 32 ≤ g → post_index b g ≡ refuse 3
unfolding post_index
index-missing b g h = rw (le-ltb g (word16 b 32) h)

pub each-there : (b : Bytes) (ids : List ℕ) → ((j : ℕ) → j < length ids → get_or ids j 0 < word16 b 32) → each (post_index b) ids ≡ ok (map (index_of b) ids)
each-there b ids h = each-known (word16 b 32) (post_index b) (index_of b) ids (under_all (word16 b 32) ids h) (index-there b)

pub each-missing : (b : Bytes) (ids : List ℕ) (j : ℕ) → ((i : ℕ) → i < j → get_or ids i 0 < word16 b 32) → j < length ids → word16 b 32 ≤ get_or ids j 0
    → each (post_index b) ids ≡ refuse 3
each-missing b ids j h l g =
    each-refuses (post_index b) (index_of b) 3 ids j (λ i l. index-there b (get_or ids i 0) (h i l)) l (index-missing b (get_or ids j 0) g)

-- what is left when the index array is there: the kept ids' indexes, then the one 5
after : Bytes → List ℕ → Res Bytes
after b is =
    need 5 (leb (257 + length (new_names (names_of b) is)) 65535)
    >> ok (new_post (take 32 b) (new_indexes 258 is) (new_names (names_of b) is))

-- the outcomes, in the order that decides
module _ (b : Bytes) (ids : List ℕ) where
  pub cut_short : length b < 4 → cut_post b ids ≡ refuse 3
  unfolding cut_post
  cut_short h = rw (lt-leb 4 (length b) h)

  module _ (h4 : 4 ≤ length b) where
    pub cut-copied : (word32 b 0 ≡ 0x00020000 → ⊥) → cut_post b ids ≡ ok b
    unfolding cut_post
    cut-copied n = need-ok 3 (holds b 0 4) _ (le-leb 4 (length b) h4) (pick_false (eqb (word32 b 0) 0x00020000) _ _ (ne_eqb (word32 b 0) 0x00020000 n) refl)

    module _ (v : word32 b 0 ≡ 0x00020000) where
      pub cut-header : length b < 34 → cut_post b ids ≡ refuse 3
      unfolding cut_post
      cut-header h =
          need-ok 3 (holds b 0 4) _ (le-leb 4 (length b) h4)
          (pick_true (eqb (word32 b 0) 0x00020000) _ _ (eq-eqb (word32 b 0) 0x00020000 v) (rw (lt-leb 34 (length b) h)))

      pub cut_array : 34 ≤ length b → length b < 34 + 2 * word16 b 32 → cut_post b ids ≡ refuse 3
      unfolding cut_post
      cut_array h a =
          need-ok 3 (holds b 0 4) _ (le-leb 4 (length b) h4)
          (pick_true (eqb (word32 b 0) 0x00020000) _ _ (eq-eqb (word32 b 0) 0x00020000 v)
          (need-ok 3 (holds b 0 34) _ (le-leb 34 (length b) h) (rw (lt-leb (34 + 2 * word16 b 32) (length b) a))))

      module _ (a : 34 + 2 * word16 b 32 ≤ length b) where
        cut-after : cut_post b ids ≡ (each (post_index b) ids >>= after b)
        unfolding cut_post after
        cut-after =
            need-ok 3 (holds b 0 4) _ (le-leb 4 (length b) h4)
            (pick_true (eqb (word32 b 0) 0x00020000) _ _ (eq-eqb (word32 b 0) 0x00020000 v)
            (need-ok 3 (holds b 0 34) _ (le-leb 34 (length b) (omega arith))
            (need-ok 3 (holds b 34 (2 * word16 b 32)) _ (le-leb (34 + 2 * word16 b 32) (length b) a) refl)))

        pub cut-missing : (k : ℕ) → each (post_index b) ids ≡ refuse k → cut_post b ids ≡ refuse k
        cut-missing k e = cut-after ∙ rw e

        module _ (is : List ℕ) (e : each (post_index b) ids ≡ ok is) where
          pub cut-many : 65535 < 257 + length (new_names (names_of b) is) → cut_post b ids ≡ refuse 5
          unfolding after
          cut-many m = cut-after ∙ bind_ok _ (after b) e (rw (lt-leb (257 + length (new_names (names_of b) is)) 65535 m))

          cut-new : 257 + length (new_names (names_of b) is) ≤ 65535
              → cut_post b ids ≡ ok (new_post (take 32 b) (new_indexes 258 is) (new_names (names_of b) is))
          unfolding after
          cut-new m = cut-after ∙ bind_ok _ (after b) e (need-ok 5 _ _ (le-leb (257 + length (new_names (names_of b) is)) 65535 m) refl)

-- the new table, glyph by glyph
new-bytes : (b : Bytes) (ids : List ℕ)
    → new_post (take 32 b) (new_indexes 258 (map (index_of b) ids)) (new_names (names_of b) (map (index_of b) ids)) ≡ post_bytes b ids
unfolding new_post head_bytes post_bytes index_bytes name_bytes
new-bytes b ids =
    let is : List ℕ = map (index_of b) ids in
    ap₂ (λ (n : ℕ) (l : Bytes). take 32 b ++ (be16 n ++ l)) (length-new_indexes 258 is ∙ length-map ids (index_of b))
    (ap₂ (λ (x y : Bytes). x ++ y) (concat-map be16 (new_indexes 258 is)) (new_names-bytes (names_of b) (index_of b) ids))
    ∙ simp append_assoc

-- all tests passed: the new table
pub named-cut : (b : Bytes) (ids : List ℕ) → Named b ids → cut_post b ids ≡ ok (post_bytes b ids)
unfolding stored_names
named-cut b ids n =
    cut-new b ids (omega (arith, n.array)) n.version n.array (map (index_of b) ids) (each-there b ids n.under) n.few
    ∙ ap ok (new-bytes b ids)

-- and back
ok-value : {A : Type 0} (other : A) (r : Res A) → is_ok r ≡ true → r ≡ ok (value_of other r)
ok-value other (refuse k) e = let z : ◌≡◌ {A = ℕ} 0 1 = cc in absurd (omega arith)
ok-value other (ok a) e = refl

under_inv : (b : Bytes) (ids is : List ℕ) → each (post_index b) ids ≡ ok is → (j : ℕ) → j < length ids → get_or ids j 0 < word16 b 32
unfolding post_index
under_inv b ids is e j l =
    ltb-true (get_or ids j 0) (word16 b 32) (need_inv 3 _ _ (get_or is j 0) ((each_inv (post_index b) ids is 0 0 e).at j l)).0

cut-long : (b : Bytes) (ids v : List ℕ) → cut_post b ids ≡ ok v → 4 ≤ length b
unfolding cut_post
cut-long b ids v e = leb-true 4 (length b) (need_inv 3 (holds b 0 4) _ v e).0

named-each : (b : Bytes) (ids is : List ℕ) → word32 b 0 ≡ 0x00020000 → 34 + 2 * word16 b 32 ≤ length b → each (post_index b) ids ≡ ok is
    → 257 + length (new_names (names_of b) is) ≤ 65535 → Named b ids
unfolding stored_names
named-each b ids is v a e few =
    let u = under_inv b ids is e in
    let same : is ≡ map (index_of b) ids = ok_inj (sym e ∙ each-there b ids u) in
    record { version = v; array = a; under = u; few = rw (← same) few }

named-after : (b : Bytes) (ids new : List ℕ) → word32 b 0 ≡ 0x00020000 → 34 + 2 * word16 b 32 ≤ length b → (each (post_index b) ids >>= after b) ≡ ok new → Named b ids
unfolding after
named-after b ids new v a e =
    let s = bind_inv (each (post_index b) ids) (after b) new e in
    named-each b ids s.value v a s.first
    (leb-true (257 + length (new_names (names_of b) s.value)) 65535 (need_inv 5 _ _ new s.then).0)

cut-named : (b : Bytes) (ids v : List ℕ) → cut_post b ids ≡ ok v → word32 b 0 ≡ 0x00020000 → Named b ids
cut-named b ids v e ver =
    let h4 = cut-long b ids v e in
    by (leb 34 (length b))
    (λ t. let h = leb-true 34 (length b) t in
    by (leb (34 + 2 * word16 b 32) (length b))
    (λ u. let a = leb-true (34 + 2 * word16 b 32) (length b) u in
    named-after b ids v ver a (sym (cut-after b ids h4 ver a) ∙ e))
    (λ u. ok-refuse (sym e ∙ cut_array b ids h4 ver h (leb-false (34 + 2 * word16 b 32) (length b) u))))
    (λ t. ok-refuse (sym e ∙ cut-header b ids h4 ver (leb-false 34 (length b) t)))

-- what the kept glyphs' answer means for the table
map-refused : (r : Res (List ℕ)) (f : List ℕ → ℕ) (k : ℕ) → refuse k ≡ map_res f r → r ≡ refuse k
map-refused (refuse j) f k e = cc
map-refused (ok a) f k e = ok-refuse (sym e)

module _ (b : Bytes) (ids : List ℕ) (v : word32 b 0 ≡ 0x00020000) (a : 34 + 2 * word16 b 32 ≤ length b) where
  pub told_missing : (e : Refusal) → Answered b ids (Err e) → cut_post b ids ≡ refuse (number e)
  told_missing e t = cut-missing b ids (omega arith) v a (number e) (map-refused (each (post_index b) ids) _ (number e) t.own)

  module _ (s : Asked) (t : Answered b ids (Ok s)) where
    pub told-many : 65278 < s.own → cut_post b ids ≡ refuse 5
    told-many h =
        let m = map_inv (λ is. length (new_names (names_of b) is)) (each (post_index b) ids) s.own (sym t.own) in
        cut-many b ids (omega arith) v a m.0 m.1 (omega (arith, m.2))

    pub told_named : s.own ≤ 65278 → Named b ids × (s.want ≤ 65278)
    told_named h =
        let m = map_inv (λ is. length (new_names (names_of b) is)) (each (post_index b) ids) s.own (sym t.own) in
        (named-each b ids m.0 v a m.1 (omega (arith, m.2)), t.small)

-- what is written, of a table that passed
module _ (b : Bytes) (ids : List ℕ) (h : is_ok (cut_post b ids) ≡ true) where
  pub passed-long : 4 ≤ length b
  passed-long = cut-long b ids (value_of [] (cut_post b ids)) (ok-value [] (cut_post b ids) h)

  pub passed-copied : (word32 b 0 ≡ 0x00020000 → ⊥) → value_of [] (cut_post b ids) ≡ b
  passed-copied v = ap (value_of []) (cut-copied b ids passed-long v)

  pub passed-named : word32 b 0 ≡ 0x00020000 → Named b ids
  passed-named v = cut-named b ids (value_of [] (cut_post b ids)) (ok-value [] (cut_post b ids) h) v

  pub passed-cut : word32 b 0 ≡ 0x00020000 → value_of [] (cut_post b ids) ≡ post_bytes b ids
  passed-cut v = ap (value_of []) (named-cut b ids (passed-named v))
