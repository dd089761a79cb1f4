-- The new table's parts as the loops make them: each glyph of the roster adds its index, and its name if one is stored.
use mathlib.Core.Path.{◌≡◌, refl, sym, ap, ◌∙◌}
use mathlib.Core.List.{List, [], ◌∷◌, ◌++◌, map, flat_map, map-append, append_assoc}
use Prim.Native.Nat.{ℕ, suc, ◌+◌, ◌*◌, ◌-◌, ◌≤◌, ◌<◌}
use native.Mathlib.Omega.{arith}
use native.Mathlib.Nat.{zero-add, add-zero}
use native.Mathlib.Numerals.{add-one}
use mathlib.Core.Logic.{◌⊎◌, ⊎_elim}
use borrow.Author.Count.{below_more}
use lib.Dec.{leb}
use lib.ListN.{length, take, drop, get_or, set, length-append, length-map, length-drop, take-append-drop}
use lib.Seq.{take-suc, length-take-le, take-length, sets-eq}
use borrow.Author.Tests.{le-leb, lt-leb, leb-true, leb-false}
use Rattle.model.specs.Res.{pick, ok, map_res}
use Rattle.model.specs.Bytes.{Bytes, word16, be16, part, put, over}
use Rattle.model.specs.Post.{names_of, new_indexes, new_names}
use Rattle.model.proofs.Bytes.{put-over, put-zero}
use Rattle.model.proofs.Runs.{flat_map_take, length-flatMap, flat_map_append, flat_map_one}
use Rattle.model.proofs.Post.{new_names-append, new_indexes_snoc, length-new_indexes}
use Rattle.post.specs.Post.{Stands, size_at, walked, index_of, stored_names, name_bytes, index_bytes, head_bytes, post_bytes, Answered}
use Rattle.std.specs.Prelude.{Ok, Err}
use Rattle.answer.specs.declared.Refusal.TheVariants.{MalformedFont}
use Rattle.post.proofs.Cut.{each-there, each-missing}
use Rattle.model.proofs.Members.{by}
use Rattle.post.proofs.Walk.{stands-first, stands-walked, stands-name, size-inside, whole_part}

-- a glyph's name: none, or what stands at its place
pub name-none : (b : Bytes) (g : ℕ) → index_of b g ≤ 257 → name_bytes b g ≡ []
unfolding name_bytes
name-none b g h = rw (le-leb (index_of b g) 257 h)

pub name-stored : (b : Bytes) (g p : ℕ) → 257 < index_of b g → Stands b p (index_of b g - 258) → name_bytes b g ≡ size_at b p ∷ part b (p + 1) (size_at b p)
unfolding name_bytes
name-stored b g p h s = rw (lt-leb (index_of b g) 257 h) (stands-name b p (index_of b g - 258) s)

length_part : (b : Bytes) (p : ℕ) → length (part b (p + 1) (size_at b p)) ≡ size_at b p
length_part b p =
    by (leb (size_at b p) 0)
    (λ e. let z : size_at b p ≡ 0 = omega (arith, leb-true (size_at b p) 0 e) in rw z)
    (λ e. length-take-le (size_at b p) (drop (p + 1) b) (simp length-drop (omega (arith, size-inside b p (leb-false (size_at b p) 0 e)))))

pub length-stored : (b : Bytes) (g p : ℕ) → 257 < index_of b g → Stands b p (index_of b g - 258) → length (name_bytes b g) ≡ 1 + size_at b p
length-stored b g p h s = ap length (name-stored b g p h s) ∙ ap suc (length_part b p) ∙ omega arith

-- no name is longer than the table
pub name_bounded : (b : Bytes) (g : ℕ) → length (name_bytes b g) ≤ length b + 1
name_bounded b g =
    by (leb (index_of b g) 257)
    (λ e. rw (name-none b g (leb-true (index_of b g) 257 e)) (omega arith))
    (λ e. let h = leb-false (index_of b g) 257 e in
    let k : ℕ = index_of b g - 258 in
    let p : ℕ = walked b (34 + 2 * word16 b 32) k in
    let s : Stands b p k = rw zero-add at (stands-walked b (34 + 2 * word16 b 32) 0 k (stands-first b)) in
    let l = length-stored b g p h s in
    by (leb (size_at b p) 0)
    (λ f. omega (arith, leb-true (size_at b p) 0 f))
    (λ f. omega (arith, size-inside b p (leb-false (size_at b p) 0 f))))

pub names_bounded : (b : Bytes) (ids : List ℕ) → length b ≤ 4294967295 → length (flat_map (name_bytes b) ids) ≤ 4294967296 * length ids
unfolding flat_map
names_bounded b [] h = omega arith
names_bounded b (g ∷ ids) h = rw (length-append (name_bytes b g) (flat_map (name_bytes b) ids)) (omega (arith, name_bounded b g, names_bounded b ids h))

-- the names' bytes, one glyph more
pub names-turn : (b : Bytes) (ids : List ℕ) (j : ℕ) → j < length ids
    → length (flat_map (name_bytes b) (take (j + 1) ids)) ≡ length (flat_map (name_bytes b) (take j ids)) + length (name_bytes b (get_or ids j 0))
names-turn b ids j h = rw (flat_map_take (name_bytes b) ids j h) (length-append (flat_map (name_bytes b) (take j ids)) (name_bytes b (get_or ids j 0)))

-- so far is no longer than all
pub names-within : (b : Bytes) (ids : List ℕ) (j : ℕ) → length (flat_map (name_bytes b) (take j ids)) ≤ length (flat_map (name_bytes b) ids)
names-within b ids j =
    let e : length (flat_map (name_bytes b) ids) ≡ length (flat_map (name_bytes b) (take j ids)) + length (flat_map (name_bytes b) (drop j ids)) =
    ap (λ (l : List ℕ). length (flat_map (name_bytes b) l)) (sym (take-append-drop j ids))
    ∙ ap length (flat_map_append (name_bytes b) (take j ids) (drop j ids))
    ∙ length-append (flat_map (name_bytes b) (take j ids)) (flat_map (name_bytes b) (drop j ids)) in
    omega arith

-- the indexes, one glyph more
map-take : (f : ℕ → ℕ) (ids : List ℕ) (j : ℕ) → j < length ids → map f (take (j + 1) ids) ≡ map f (take j ids) ++ (f (get_or ids j 0) ∷ [])
map-take f ids j h = rw (add-one, take-suc ids j 0 h) (map-append f (take j ids) (get_or ids j 0 ∷ []))

stored_snoc : (b : Bytes) (ids : List ℕ) (j : ℕ) → j < length ids
    → stored_names b (take (j + 1) ids) ≡ stored_names b (take j ids) ++ new_names (names_of b) (index_of b (get_or ids j 0) ∷ [])
unfolding stored_names
stored_snoc b ids j h = rw (map-take (index_of b) ids j h) (new_names-append (names_of b) (map (index_of b) (take j ids)) (index_of b (get_or ids j 0) ∷ []))

length_snoc : (b : Bytes) (ids : List ℕ) (j : ℕ) → j < length ids
    → length (stored_names b (take (j + 1) ids)) ≡ length (stored_names b (take j ids)) + length (new_names (names_of b) (index_of b (get_or ids j 0) ∷ []))
length_snoc b ids j h = ap length (stored_snoc b ids j h) ∙ length-append (stored_names b (take j ids)) (new_names (names_of b) (index_of b (get_or ids j 0) ∷ []))

pub stored-kept : (b : Bytes) (ids : List ℕ) (j : ℕ) → j < length ids → index_of b (get_or ids j 0) ≤ 257
    → length (stored_names b (take (j + 1) ids)) ≡ length (stored_names b (take j ids))
stored-kept b ids j h k =
    length_snoc b ids j h ∙ rw (le-leb (index_of b (get_or ids j 0)) 257 k) (omega arith)

pub stored-new : (b : Bytes) (ids : List ℕ) (j : ℕ) → j < length ids → 257 < index_of b (get_or ids j 0)
    → length (stored_names b (take (j + 1) ids)) ≡ length (stored_names b (take j ids)) + 1
stored-new b ids j h k =
    length_snoc b ids j h ∙ rw (lt-leb (index_of b (get_or ids j 0)) 257 k)

pub stored-within : (b : Bytes) (ids : List ℕ) (j : ℕ) → length (stored_names b (take j ids)) ≤ length (stored_names b ids)
unfolding stored_names
stored-within b ids j =
    let f = index_of b in
    let e : length (new_names (names_of b) (map f ids)) ≡ length (new_names (names_of b) (map f (take j ids))) + length (new_names (names_of b) (map f (drop j ids))) =
    ap (λ (l : List ℕ). length (new_names (names_of b) (map f l))) (sym (take-append-drop j ids))
    ∙ ap (λ (l : List ℕ). length (new_names (names_of b) l)) (map-append f (take j ids) (drop j ids))
    ∙ ap length (new_names-append (names_of b) (map f (take j ids)) (map f (drop j ids)))
    ∙ length-append (new_names (names_of b) (map f (take j ids))) (new_names (names_of b) (map f (drop j ids))) in
    omega arith

pub length-index_bytes : (b : Bytes) (ids : List ℕ) → length (index_bytes b ids) ≡ 2 * length ids
unfolding index_bytes
length-index_bytes b ids =
    length-flatMap be16 2 (λ x. refl) (new_indexes 258 (map (index_of b) ids))
    ∙ ap (λ (n : ℕ). 2 * n) (length-new_indexes 258 (map (index_of b) ids) ∙ length-map ids (index_of b))

indexes_snoc : (b : Bytes) (ids : List ℕ) (j : ℕ) → j < length ids
    → index_bytes b (take (j + 1) ids)
    ≡ index_bytes b (take j ids) ++ be16 (pick (leb (index_of b (get_or ids j 0)) 257) (index_of b (get_or ids j 0)) (258 + length (stored_names b (take j ids))))
unfolding index_bytes stored_names
indexes_snoc b ids j h =
    let is : List ℕ = map (index_of b) (take j ids) in
    let i : ℕ = index_of b (get_or ids j 0) in
    ap (λ (l : List ℕ). flat_map be16 (new_indexes 258 l)) (map-take (index_of b) ids j h)
    ∙ ap (flat_map be16) (new_indexes_snoc 258 (names_of b) is i)
    ∙ flat_map_append be16 (new_indexes 258 is) _
    ∙ ap (λ (l : Bytes). flat_map be16 (new_indexes 258 is) ++ l) (flat_map_one be16 _)

-- an index written behind the others: the old one, or the next number
module _ (b : Bytes) (ids d o : List ℕ) (j : ℕ) (h : j < length ids) (e : o ≡ over (index_bytes b (take j ids)) d) where
  index-turn : (x : ℕ) → pick (leb (index_of b (get_or ids j 0)) 257) (index_of b (get_or ids j 0)) (258 + length (stored_names b (take j ids))) ≡ x
      → put o (2 * j) (be16 x) ≡ over (index_bytes b (take (j + 1) ids)) d
  index-turn x p =
      let l : length (index_bytes b (take j ids)) ≡ 2 * j = length-index_bytes b (take j ids) ∙ ap (λ (n : ℕ). 2 * n) (length-take-le j ids (omega arith)) in
      rw (e, indexes_snoc b ids j h, p) (put-over (index_bytes b (take j ids)) d (be16 x) (2 * j) l)

  pub index_kept : index_of b (get_or ids j 0) ≤ 257 → put o (2 * j) (be16 (index_of b (get_or ids j 0))) ≡ over (index_bytes b (take (j + 1) ids)) d
  index_kept k = index-turn (index_of b (get_or ids j 0)) (rw (le-leb (index_of b (get_or ids j 0)) 257 k))

  pub index-new : 257 < index_of b (get_or ids j 0) → put o (2 * j) (be16 (258 + length (stored_names b (take j ids)))) ≡ over (index_bytes b (take (j + 1) ids)) d
  index-new k = index-turn (258 + length (stored_names b (take j ids))) (rw (lt-leb (index_of b (get_or ids j 0)) 257 k))

-- the parts of the new table
pub length-head_bytes : (b : Bytes) (ids : List ℕ) → 32 ≤ length b → length (head_bytes b ids) ≡ 34 + 2 * length ids
unfolding head_bytes
length-head_bytes b ids h = simp (length-append, length-take-le 32 b h, length-index_bytes b ids) (omega arith)

pub length-post_bytes : (b : Bytes) (ids : List ℕ) → 32 ≤ length b → length (post_bytes b ids) ≡ 34 + 2 * length ids + length (flat_map (name_bytes b) ids)
unfolding post_bytes
length-post_bytes b ids h = simp (length-append, length-head_bytes b ids h)

-- a stored name as it is written: a zero where it is missing, else a part of the table
pub name-missing : (b : Bytes) (g p : ℕ) → 257 < index_of b g → Stands b p (index_of b g - 258) → size_at b p ≡ 0 → name_bytes b g ≡ 0 ∷ []
name-missing b g p h s z = name-stored b g p h s ∙ rw z

pub name-copied : (b : Bytes) (g p : ℕ) → 257 < index_of b g → Stands b p (index_of b g - 258) → 0 < size_at b p
    → name_bytes b g ≡ take (p + 1 + size_at b p - p) (drop p b)
name-copied b g p h s z = name-stored b g p h s ∙ sym (whole_part b p z)

pub put-nothing : (d : List ℕ) (i : ℕ) → d ≡ put d i []
unfolding put
put-nothing d i = simp (add-zero, append_assoc) (sym (take-append-drop i d))

pub put_byte : (d : List ℕ) (i v : ℕ) → i < length d → set d i v ≡ put d i (v ∷ [])
unfolding put
put_byte d i v h = sets-eq (v ∷ []) d i (omega arith)

-- a name written behind the others
pub names_write : (b : Bytes) (ids d o : List ℕ) (j at : ℕ) → j < length ids → at ≡ length (flat_map (name_bytes b) (take j ids))
    → o ≡ over (flat_map (name_bytes b) (take j ids)) d → put o at (name_bytes b (get_or ids j 0)) ≡ over (flat_map (name_bytes b) (take (j + 1) ids)) d
names_write b ids d o j at h e f = rw (f, flat_map_take (name_bytes b) ids j h) (put-over (flat_map (name_bytes b) (take j ids)) d (name_bytes b (get_or ids j 0)) at (sym e))

-- the first bytes and the count, one behind the other
pub start-written : (b ids d o₁ o₂ : List ℕ) → 32 ≤ length b → o₁ ≡ put d 0 (take 32 b) → o₂ ≡ put o₁ 32 (be16 (length ids))
    → o₂ ≡ over (take 32 b ++ be16 (length ids)) d
start-written b ids d o₁ o₂ h e₁ e₂ =
    let p : o₁ ≡ over (take 32 b) d = e₁ ∙ put-zero d (take 32 b) in
    e₂ ∙ rw p (put-over (take 32 b) d (be16 (length ids)) 32 (length-take-le 32 b h))

pub length-start : (b ids : List ℕ) → 32 ≤ length b → length (take 32 b ++ be16 (length ids)) ≡ 34
length-start b ids h = simp (length-append, length-take-le 32 b h)

-- the kept glyphs looked through, so far
pub record Counting (b : Bytes) (ids : List ℕ) (own want j : ℕ) : Type 0 where
  pub within : j ≤ length ids
  pub under : (i : ℕ) → i < j → get_or ids i 0 < word16 b 32
  pub count : own ≡ length (stored_names b (take j ids))
  pub few : own ≤ j
  pub small : want ≤ 65278

pub count-start : (b : Bytes) (ids : List ℕ) → Counting b ids 0 0 0
unfolding stored_names
count-start b ids = record { within = omega arith; under = λ i h. absurd (omega arith); count = refl; few = omega arith; small = omega arith }

-- a glyph whose index is kept, and one whose name is stored
pub count_turn : (b : Bytes) (ids : List ℕ) (own want own' want' j i : ℕ) → Counting b ids own want j → j < length ids → get_or ids j 0 < word16 b 32
    → i ≡ index_of b (get_or ids j 0) → ((257 < i) × (own' ≡ own + 1)) ⊎ ((i ≤ 257) × (own' ≡ own)) → want' ≤ 65278 → Counting b ids own' want' (j + 1)
count_turn b ids own want own' want' j i n h u e w s =
    record {
      within = omega arith;
      under = below_more (λ k. get_or ids k 0 < word16 b 32) j n.under u;
      count = ⊎_elim (λ t. omega (arith, t.0, n.count, stored-new b ids j h (omega arith))) (λ t. omega (arith, n.count, stored-kept b ids j h (omega arith))) w;
      few = ⊎_elim (λ t. omega arith) (λ t. omega arith) w;
      small = s;
    }

pub count-missing : (b : Bytes) (ids : List ℕ) (own want j : ℕ) → Counting b ids own want j → j < length ids → word16 b 32 ≤ get_or ids j 0 → Answered b ids (Err MalformedFont)
count-missing b ids own want j n h g =
    record { own = sym (ap (map_res (λ is. length (new_names (names_of b) is))) (each-missing b ids j n.under h g)); small = omega arith }

pub count_end : (b : Bytes) (ids : List ℕ) (own want j : ℕ) → Counting b ids own want j → length ids ≤ j → Answered b ids (Ok (record { own = own; want = want }))
unfolding stored_names
count_end b ids own want j n h =
    let e : j ≡ length ids = omega (arith, n.within) in
    let all : take j ids ≡ ids = rw e (take-length ids) in
    record {
      own = ap ok (n.count ∙ ap (λ (l : List ℕ). length (new_names (names_of b) (map (index_of b) l))) all)
          ∙ sym (ap (map_res (λ is. length (new_names (names_of b) is))) (each-there b ids (λ i l. n.under i (omega arith))));
      small = n.small;
    }
