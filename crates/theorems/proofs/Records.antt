-- A composite's records that were read are read back as they stand; renumbering changes no flag and no length, so renumbered ones are too.
use mathlib.Core.Path.{◌≡◌, refl, sym, ap, ap₂, ◌∙◌, subst}
use mathlib.Core.Bool.{Bool, true, false}
use mathlib.Core.List.{List, [], ◌∷◌, ◌++◌, map, append_assoc, append-nil}
use Prim.Native.Nat.{ℕ, zero, suc, ◌+◌, ◌*◌, ◌≤◌, ◌<◌}
use native.Mathlib.Omega.{arith}
use lib.Dec.{ltb}
use lib.ListN.{length, take, drop, length-append}
use lib.Seq.{take_at, drop_at, length-take-le}
use borrow.Author.Tests.{le-leb, lt-ltb, ltb-true, leb-true}
use Rattle.model.specs.Res.{ok, pick, map_res}
use Rattle.model.specs.Bytes.{Bytes, word16, be16, holds, concat, flag}
use Rattle.model.proofs.Res.{Under, need-ok, need_inv, map_inv, ok_inj, ok-refuse}
use Rattle.model.proofs.Bytes.{word16-be16}
use Rattle.model.proofs.Words.{word16-take}
use Rattle.model.specs.Outline.{record_size, flags_of, id_of, Records, before, last_of, records, renumber_record}

-- A record under new ids
pub record Renumbered (f : ℕ → ℕ) (r : Bytes) : Type 0 where
  pub flags : flags_of (renumber_record f r) ≡ flags_of r
  pub size : length (renumber_record f r) ≡ length r
  pub id : f (id_of r) < 65536 → id_of (renumber_record f r) ≡ f (id_of r)
  pub twice : (g : ℕ → ℕ) → f (id_of r) < 65536 → renumber_record g (renumber_record f r) ≡ renumber_record (λ x. g (f x)) r

pub renumbered : (f : ℕ → ℕ) (r : Bytes) → 4 ≤ length r → Renumbered f r
renumbered f [] h = absurd (omega arith)
renumbered f (a ∷ []) h = absurd (omega arith)
renumbered f (a ∷ b ∷ []) h = absurd (omega arith)
renumbered f (a ∷ b ∷ c ∷ []) h = absurd (omega arith)
renumbered f (a ∷ b ∷ c ∷ d ∷ r) h =
    record {
      flags = refl;
      size = refl;
      id = word16-be16 (f (c * 256 + d)) [];
      twice = λ g k. ap (λ (x : ℕ). a ∷ b ∷ (be16 (g x) ++ r)) (word16-be16 (f (c * 256 + d)) [] k);
    }

-- Records that follow one another in a font of n glyphs: each as long as its flags say, with 0x0020 on all but the last
abbrev Fit : ℕ → Bytes → Type 0
Fit n r = (length r ≡ record_size (flags_of r)) × (id_of r < n)

abbrev pub Chain : ℕ → List Bytes → Type 0
Chain n [] = ⊥
Chain n (r ∷ []) = Fit n r × (flag 0x0020 (flags_of r) ≡ false)
Chain n (r ∷ s ∷ rs) = Fit n r × (flag 0x0020 (flags_of r) ≡ true) × Chain n (s ∷ rs)

-- does the last record keep what follows
abbrev pub keeps : List Bytes → Bool
keeps [] = false
keeps (r ∷ []) = flag 0x0100 (flags_of r)
keeps (r ∷ s ∷ rs) = keeps (s ∷ rs)

module _ (n turns : ℕ) (r c : Bytes) (fit : Fit n r) where
  four : 4 ≤ length r
  four = omega (arith, fit.0)

  word_append : (r : Bytes) → 4 ≤ length r → (flags_of (r ++ c) ≡ flags_of r) × (id_of (r ++ c) ≡ id_of r)
  word_append [] h = absurd (omega arith)
  word_append (x ∷ []) h = absurd (omega arith)
  word_append (x ∷ y ∷ []) h = absurd (omega arith)
  word_append (x ∷ y ∷ z ∷ []) h = absurd (omega arith)
  word_append (x ∷ y ∷ z ∷ u ∷ r) h = (refl, refl)

  size_is : record_size (flags_of (r ++ c)) ≡ length r
  size_is = ap record_size (word_append r four).0 ∙ sym fit.0

  -- one step of the reader
  records-step : (t : Bool) → flag 0x0020 (flags_of r) ≡ t
      → records n (suc turns) (r ++ c) ≡ pick t (map_res (before r) (records n turns c)) (ok (last_of r c))
  unfolding records
  records-step t h =
      need-ok _ _ _ (le-leb (0 + 4) (length (r ++ c)) (omega (arith, four, length-append r c)))
      (need-ok _ _ _ (le-leb (0 + record_size (flags_of (r ++ c))) (length (r ++ c)) (omega (arith, size_is, length-append r c)))
      (need-ok _ _ _ (lt-ltb (id_of (r ++ c)) n (omega (arith, (word_append r four).1, fit.1)))
      (λ i.
      pick ((ap (flag 0x0020) (word_append r four).0 ∙ h) i)
      (map_res (before (take_at r c _ (sym size_is) i)) (records n turns (drop_at r c _ (sym size_is) i)))
      (ok (last_of (take_at r c _ (sym size_is) i) (drop_at r c _ (sym size_is) i))))))

-- a chain is read as it stands
pub chain_back : (n turns : ℕ) (rs : List Bytes) (c : Bytes) → Chain n rs → length rs ≤ turns → records n turns (concat rs ++ c) ≡ ok (rs, pick (keeps rs) c [])
chain_back n turns [] c w h = absurd w
chain_back n zero (r ∷ rs) c w h = absurd (omega arith)
chain_back n (suc turns) (r ∷ []) c w h =
    ap (λ (b : Bytes). records n (suc turns) (b ++ c)) (append-nil r) ∙ records-step n turns r c w.0 false w.1
chain_back n (suc turns) (r ∷ s ∷ rs) c w h =
    ap (records n (suc turns)) (append_assoc r (concat (s ∷ rs)) c)
    ∙ records-step n turns r (concat (s ∷ rs) ++ c) w.0 true w.1
    ∙ ap (map_res (before r)) (chain_back n turns (s ∷ rs) c w.2 (omega arith))

-- what is read is a chain, and nothing is kept behind it unless its last record says so
abbrev pub Chained : ℕ → List Bytes → Bytes → Type 0
Chained n rs t = Chain n rs × (t ≡ pick (keeps rs) t [])

pick-twice : (b : Bool) (t : Bytes) → pick b t [] ≡ pick b (pick b t []) []
pick-twice true t = refl
pick-twice false t = refl

chained-before : (n : ℕ) (r : Bytes) (rs : List Bytes) (t : Bytes) → Fit n r → flag 0x0020 (flags_of r) ≡ true → Chained n rs t → Chained n (r ∷ rs) t
chained-before n r [] t f h c = absurd c.0
chained-before n r (s ∷ rs) t f h c = ((f, h, c.0), c.1)

pub chained : (n turns : ℕ) (b : Bytes) (q : Records) → records n turns b ≡ ok q → Chained n q.0 q.1
unfolding records
chained n zero b q e = ok-refuse (sym e)
chained n (suc turns) b q e =
    let size = record_size (flags_of b) in
    let s₁ = need_inv 3 (holds b 0 4) _ q e in
    let s₂ = need_inv 3 (holds b 0 size) _ q s₁.1 in
    let s₃ = need_inv 3 (ltb (id_of b) n) _ q s₂.1 in
    go (flag 0x0020 (flags_of b)) refl (leb-true (0 + size) (length b) s₂.0) (ltb-true (id_of b) n s₃.0) s₃.1 (chained n turns (drop size b))
  where
    size : ℕ
    size = record_size (flags_of b)

    r : Bytes
    r = take size b

    word-take : (i : ℕ) → i ≤ 2 → word16 r i ≡ word16 b i
    word-take i h = word16-take size b i (omega arith)

    fit : 0 + size ≤ length b → id_of b < n → Fit n r
    fit k l = (
      length-take-le size b (omega arith) ∙ ap record_size (sym (word-take 0 (omega arith))),
      subst (λ (x : ℕ). x < n) (sym (word-take 2 (omega arith))) l,
    )

    go : (t : Bool) → flag 0x0020 (flags_of b) ≡ t → 0 + size ≤ length b → id_of b < n
        → pick t (map_res (before r) (records n turns (drop size b))) (ok (last_of r (drop size b))) ≡ ok q
        → ((q : Records) → records n turns (drop size b) ≡ ok q → Chained n q.0 q.1)
        → Chained n q.0 q.1
    go true h k l d ih =
        let m = map_inv (before r) _ q d in
        subst (λ (q : Records). Chained n q.0 q.1) m.2
        (chained-before n r m.0.0 m.0.1 (fit k l) (ap (flag 0x0020) (word-take 0 (omega arith)) ∙ h) (ih m.0 m.1))
    go false h k l d ih =
        subst (λ (q : Records). Chained n q.0 q.1) (ok_inj d)
        ((fit k l, ap (flag 0x0020) (word-take 0 (omega arith)) ∙ h), pick-twice (flag 0x0100 (flags_of r)) (drop size b))

-- A chain under new ids
pub keeps-renumber : (n : ℕ) (f : ℕ → ℕ) (rs : List Bytes) → Chain n rs → keeps (map (renumber_record f) rs) ≡ keeps rs
keeps-renumber n f [] w = absurd w
keeps-renumber n f (r ∷ []) w = ap (flag 0x0100) (renumbered f r (omega (arith, w.0.0))).flags
keeps-renumber n f (r ∷ s ∷ rs) w = keeps-renumber n f (s ∷ rs) w.2

pub record Renumbers (m : ℕ) (f : ℕ → ℕ) (rs : List Bytes) : Type 0 where
  pub chain : Chain m (map (renumber_record f) rs)
  pub ids : map id_of (map (renumber_record f) rs) ≡ map f (map id_of rs)
  pub twice : (g : ℕ → ℕ) → map (renumber_record g) (map (renumber_record f) rs) ≡ map (renumber_record (λ x. g (f x))) rs

module _ (n m : ℕ) (f : ℕ → ℕ) (small : m ≤ 65536) where
  one : (r : Bytes) → Fit n r → f (id_of r) < m → Renumbered f r × Fit m (renumber_record f r)
  one r w h =
      let q = renumbered f r (omega (arith, w.0)) in
      (q, (q.size ∙ w.0 ∙ ap record_size (sym q.flags), subst (λ (x : ℕ). x < m) (sym (q.id (omega arith))) h))

  pub renumbers : (rs : List Bytes) → Chain n rs → Under m (map f (map id_of rs)) → Renumbers m f rs
  renumbers [] w u = absurd w
  renumbers (r ∷ []) w u =
      let q = one r w.0 u.0 in
      record {
        chain = (q.1, ap (flag 0x0020) q.0.flags ∙ w.1);
        ids = ap (λ (x : ℕ). x ∷ []) (q.0.id (omega (arith, u.0)));
        twice = λ g. ap (λ (x : Bytes). x ∷ []) (q.0.twice g (omega (arith, u.0)));
      }
  renumbers (r ∷ s ∷ rs) w u =
      let q = one r w.0 u.0 in
      let ih = renumbers (s ∷ rs) w.2 u.1 in
      record {
        chain = (q.1, ap (flag 0x0020) q.0.flags ∙ w.1, ih.chain);
        ids = ap₂ (λ (x : ℕ) (xs : List ℕ). x ∷ xs) (q.0.id (omega (arith, u.0))) ih.ids;
        twice = λ g. ap₂ (λ (x : Bytes) (xs : List Bytes). x ∷ xs) (q.0.twice g (omega (arith, u.0))) (ih.twice g);
      }
