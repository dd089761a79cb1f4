-- A row is cleared when its numbers are zero, whether they were written or found; and zeros behind zeros are more zeros.
use Rattle.std.proofs.Common.{ℕ, zero, suc, ◌+◌, ◌*◌, ◌-◌, ◌%◌, ◌≤◌, ◌<◌, Bool, true, false, List, [], ◌∷◌, ◌⊎◌, inl, inr, ◌≡◌, refl, sym, ap, ◌∙◌, arith, bit_or, length, get_or, set, take, replicate, length-set, ext_get_or, length-take-le, get_or-take, get_or-set_same, get_or-set_other, ltb, leb, eqb, fold, leb-true, leb-false, ltb-true, ltb-false, eqb-true, ne_eqb, below_more}
use lib.Bits.{or_add_and, and_le_r, or_comm}
use lib.ListN.{length-replicate, get_or-replicate, replicate-append-replicate}
use borrow.Author.Tests.{eqb-false}
use Rattle.model.specs.Res.{pick, both}
use Rattle.model.specs.Bytes.{put, member}
use Rattle.model.proofs.Bytes.{length-put, put-put, get_or-put-before, get_or-put-after}
use Rattle.model.proofs.Puts.{get_or-put-any, put-swap}
use Rattle.model.proofs.Members.{in_under}
use Rattle.model.proofs.Chosen.{pigeons}
use Rattle.model.proofs.Places.{get_in}
use Rattle.remapper.specs.Scratch.{link, Sparse, Sweepable}
use Rattle.remapper.specs.State.{number_in, Walking}

-- bits together are above each
pub or_left : (a b : ℕ) → a ≤ bit_or a b
or_left a b = omega (arith, or_add_and a b, and_le_r a b)

pub or_right : (a b : ℕ) → b ≤ bit_or a b
or_right a b = omega (arith, or_comm a b, or_left b a)

-- and so are 0 only where each is
pub zero-bits : (a : ℕ) (xs : List ℕ) → fold bit_or a xs ≡ 0 → (a ≡ 0) × ((j : ℕ) → j < length xs → get_or xs j 0 ≡ 0)
zero-bits a [] e = (e, λ j h. absurd (omega arith))
zero-bits a (x ∷ xs) e = go (zero-bits (bit_or a x) xs e)
  where
    go : (bit_or a x ≡ 0) × ((j : ℕ) → j < length xs → get_or xs j 0 ≡ 0) → (a ≡ 0) × ((j : ℕ) → j < length (x ∷ xs) → get_or (x ∷ xs) j 0 ≡ 0)
    go rest = (omega (arith, or_left a x), at)
      where
        at : (j : ℕ) → j < length (x ∷ xs) → get_or (x ∷ xs) j 0 ≡ 0
        at zero h = omega (arith, or_right a x)
        at (suc j) h = rest.1 j (omega arith)

pub more-zeros : (d s s' : List ℕ) (at i k : ℕ) → at + (i + k) ≤ length d → s ≡ put d at (replicate i 0) → s' ≡ put s (at + i) (replicate k 0) → s' ≡ put d at (replicate (i + k) 0)
more-zeros d s s' at i k h e f =
    f
    ∙ ap (λ (t : List ℕ). put t (at + i) (replicate k 0)) e
    ∙ ap (λ (x : ℕ). put (put d at (replicate i 0)) (at + x) (replicate k 0)) (sym (length-replicate {A = ℕ} i 0))
    ∙ put-put d (replicate i 0) (replicate k 0) at (omega (arith, length-replicate {A = ℕ} i 0, length-replicate {A = ℕ} k 0))
    ∙ ap (put d at) (replicate-append-replicate i k 0)

-- numbers at every place make a list a `put`
pub put-by-places : (d s bs : List ℕ) (i : ℕ) → length s ≡ length d → i + length bs ≤ length d
    → ((j : ℕ) → j < i → get_or s j 0 ≡ get_or d j 0)
    → ((j : ℕ) → j < length bs → get_or s (i + j) 0 ≡ get_or bs j 0)
    → ((j : ℕ) → i + length bs ≤ j → get_or s j 0 ≡ get_or d j 0)
    → s ≡ put d i bs
put-by-places d s bs i l h front here back =
    ext_get_or 0 s (put d i bs) (l ∙ sym (length-put d i bs h)) (λ j k. go j (leb i j) refl (ltb j (i + length bs)) refl ∙ sym (get_or-put-any d i bs j h))
  where
    go : (j : ℕ) (x : Bool) → leb i j ≡ x → (y : Bool) → ltb j (i + length bs) ≡ y → get_or s j 0 ≡ pick (both (leb i j) (ltb j (i + length bs))) (get_or bs (j - i) 0) (get_or d j 0)
    go j false e y f = rw e (front j (leb-false i j e))
    go j true e false f = rw (e, f) (back j (ltb-false j (i + length bs) f))
    go j true e true f =
        let m = leb-true i j e in
        let n = ltb-true j (i + length bs) f in
        let at : i + (j - i) ≡ j = omega arith in
        rw (e, f) (ap (λ (t : ℕ). get_or s t 0) (sym at) ∙ here (j - i) (omega arith))

-- zeros that are there need not be written
pub zeros-there : (s : List ℕ) (at k : ℕ) → at + k ≤ length s → ((j : ℕ) → j < k → get_or s (at + j) 0 ≡ 0) → s ≡ put s at (replicate k 0)
zeros-there s at k h z =
    let l = length-replicate {A = ℕ} k 0 in
    put-by-places s s (replicate k 0) at refl (omega arith) (λ j m. refl) (λ j m. z j (omega arith) ∙ sym (get_or-replicate k j 0 0 (omega arith))) (λ j m. refl)

-- of the row at base the first j ids of the roster have zeros, and the others what they had
pub record Cleared (n base : ℕ) (d : List ℕ) (j : ℕ) (s : List ℕ) : Type 0 where
  pub same_length : length s ≡ length d
  pub front : (x : ℕ) → x < base → get_or s x 0 ≡ get_or d x 0
  pub back : (x : ℕ) → base + n ≤ x → get_or s x 0 ≡ get_or d x 0
  pub row : (g : ℕ) → g < n → (get_or s (base + g) 0 ≡ 0) ⊎ ((get_or s (base + g) 0 ≡ get_or d (base + g) 0) × ((i : ℕ) → i < j → get_or d i 0 ≡ g → ⊥))

pub cleared-none : (n base : ℕ) (d : List ℕ) → Cleared n base d 0 d
cleared-none n base d = record { same_length = refl; front = λ x m. refl; back = λ x m. refl; row = λ g m. inr (refl, λ i h. absurd (omega arith)) }

pub cleared_more : {n base j : ℕ} {d s : List ℕ} (s' : List ℕ) (g : ℕ) → Cleared n base d j s → g ≡ get_or d j 0 → g < n → base + n ≤ length d → s' ≡ set s (base + g) 0 → Cleared n base d (j + 1) s'
cleared_more {n} {base} {j} {d} {s} s' g v e h room q =
    record {
      same_length = ap (λ (t : List ℕ). length t) q ∙ length-set s (base + g) 0 ∙ v.same_length;
      front = λ x m. other x (λ k. omega arith) ∙ v.front x m;
      back = λ x m. other x (λ k. omega arith) ∙ v.back x m;
      row = λ x m. go x m (eqb x g) refl;
    }
  where
    other : (x : ℕ) → (x ≡ base + g → ⊥) → get_or s' x 0 ≡ get_or s x 0
    other x k = ap (λ (t : List ℕ). get_or t x 0) q ∙ get_or-set_other s (base + g) x 0 0 k

    go : (x : ℕ) → x < n → (b : Bool) → eqb x g ≡ b → (get_or s' (base + x) 0 ≡ 0) ⊎ ((get_or s' (base + x) 0 ≡ get_or d (base + x) 0) × ((i : ℕ) → i < j + 1 → get_or d i 0 ≡ x → ⊥))
    go x m true f =
        let is-g = eqb-true x g f in
        inl (ap (λ (t : ℕ). get_or s' (base + t) 0) is-g ∙ ap (λ (t : List ℕ). get_or t (base + g) 0) q ∙ get_or-set_same s (base + g) 0 0 (omega (arith, v.same_length)))
    go x m false f = off (v.row x m)
      where
        is-other : get_or s' (base + x) 0 ≡ get_or s (base + x) 0
        is-other = other (base + x) (λ k. eqb-false x g f (omega arith))

        off : (get_or s (base + x) 0 ≡ 0) ⊎ ((get_or s (base + x) 0 ≡ get_or d (base + x) 0) × ((i : ℕ) → i < j → get_or d i 0 ≡ x → ⊥))
            → (get_or s' (base + x) 0 ≡ 0) ⊎ ((get_or s' (base + x) 0 ≡ get_or d (base + x) 0) × ((i : ℕ) → i < j + 1 → get_or d i 0 ≡ x → ⊥))
        off (inl z) = inl (is-other ∙ z)
        off (inr z) = inr (is-other ∙ z.0, below_more (λ i. get_or d i 0 ≡ x → ⊥) j z.1 (λ k. eqb-false x g f (sym k ∙ sym e)))

-- a number that none of the first k is
pub absent : (k : ℕ) (d : List ℕ) (g : ℕ) → k ≤ length d → ((i : ℕ) → i < k → get_or d i 0 ≡ g → ⊥) → member g (take k d) ≡ false
absent zero d g h gone = refl
absent (suc k) [] g h gone = refl
absent (suc k) (x ∷ xs) g h gone = rw (ne_eqb g x (λ e. gone 0 (omega arith) (sym e))) (absent k xs g (omega arith) (λ i m. gone (suc i) (omega arith)))

pub cleared-all : (n base kept j : ℕ) (d s : List ℕ) → Sparse n d kept base → ((x : ℕ) → get_or d x 0 < 65536) → Cleared n base d j s → j ≡ kept → s ≡ put d base (replicate n 0)
cleared-all n base kept j d s p small v e =
    let l = length-replicate {A = ℕ} n 0 in
    put-by-places d s (replicate n 0) base v.same_length (omega (arith, p.room)) v.front (λ g m. go g (omega arith) (v.row g (omega arith)) ∙ sym (get_or-replicate n g 0 0 (omega arith))) (λ x m. v.back x (omega arith))
  where
    go : (g : ℕ) → g < n → (get_or s (base + g) 0 ≡ 0) ⊎ ((get_or s (base + g) 0 ≡ get_or d (base + g) 0) × ((i : ℕ) → i < j → get_or d i 0 ≡ g → ⊥)) → get_or s (base + g) 0 ≡ 0
    go g m (inl z) = z
    go g m (inr z) =
        let o = p.others g m (absent kept d g (omega (arith, p.few, p.behind, p.room)) (λ i h. z.1 i (omega arith))) in
        omega (arith, z.0, o, small (base + g))

-- once nothing waits, only numbered glyphs have numbers and links
pub walking_sweepable : (n : ℕ) (s r : List ℕ) → n ≤ 65536 → Walking n s r [] → Sweepable n s (length r) false
unfolding link
walking_sweepable n s r small w =
    record {
      numbers = sparse n (omega arith) (omega (arith, size)) (λ g h e. let z : number_in r g ≡ 0 = rw e refl in omega (arith, w.rostered.numbers g h, z));
      links = λ _. (
        sparse (2 * n) (omega arith) (omega (arith, size)) (λ g h e. let z = (w.waits.lone g h e refl).0 in omega arith),
        sparse (3 * n) (omega arith) (omega (arith, size)) (λ g h e. let z = (w.waits.lone g h e refl).1 in omega arith),
      );
    }
  where
    size : 4 * n ≤ length s
    size = w.waits.linked.size

    few : length r ≤ n
    few = pigeons n r w.once (in_under n r w.low)

    sparse : (base : ℕ) → n ≤ base → base + n ≤ length s → ((g : ℕ) → g < n → member g r ≡ false → get_or s (base + g) 0 % 65536 ≡ 0) → Sparse n s (length r) base
    sparse base behind room others =
        record {
          few = few;
          behind = behind;
          room = room;
          low = λ j h. omega (arith, w.low (get_or r j 0) (get_in r j h), at j h);
          others = λ g h e. others g h (ap (member g) (sym w.rostered.ids) ∙ e);
        }
      where
        at : (j : ℕ) → j < length r → get_or s j 0 ≡ get_or r j 0
        at j h = sym (get_or-take (length r) s j 0 h) ∙ ap (λ (t : List ℕ). get_or t j 0) w.rostered.ids

-- what is put behind the roster and outside a row leaves the row as it was
pub sparse_apart : {n kept base : ℕ} {s : List ℕ} (s' : List ℕ) → Sparse n s kept base → length s' ≡ length s → ((j : ℕ) → j < n → get_or s' j 0 ≡ get_or s j 0)
    → ((j : ℕ) → base ≤ j → j < base + n → get_or s' j 0 ≡ get_or s j 0) → Sparse n s' kept base
sparse_apart {n} {kept} {base} {s} s' p l front row =
    record {
      few = p.few;
      behind = p.behind;
      room = omega (arith, p.room);
      low = λ j h. omega (arith, p.low j h, front j (omega (arith, p.few)));
      others = λ g h e. ap (λ (x : ℕ). x % 65536) (row (base + g) (omega arith) (omega arith)) ∙ p.others g h (ap (member g) roster ∙ e);
    }
  where
    roster : take kept s ≡ take kept s'
    roster =
        ext_get_or 0 (take kept s) (take kept s') (length-take-le kept s (omega (arith, p.few, p.behind, p.room)) ∙ sym (length-take-le kept s' (omega (arith, p.few, p.behind, p.room))))
        (λ j h. let k : j < kept = omega (arith, length-take-le kept s (omega (arith, p.few, p.behind, p.room))) in
        get_or-take kept s j 0 k ∙ sym (front j (omega (arith, p.few))) ∙ sym (get_or-take kept s' j 0 k))

pub sparse_put : {n kept base : ℕ} {s : List ℕ} (s' : List ℕ) (at k : ℕ) → Sparse n s kept base → s' ≡ put s at (replicate k 0) → n ≤ at → at + k ≤ length s
    → (base + n ≤ at) ⊎ (at + k ≤ base) → Sparse n s' kept base
sparse_put {n} {kept} {base} {s} s' at k p e behind room apart =
    sparse_apart s' p (ap (λ (t : List ℕ). length t) e ∙ length-put s at (replicate k 0) (omega (arith, size)))
    (λ j h. ap (λ (t : List ℕ). get_or t j 0) e ∙ get_or-put-before s at (replicate k 0) j (omega arith) (omega arith))
    (λ j h m. ap (λ (t : List ℕ). get_or t j 0) e ∙ other apart j h m)
  where
    size : length (replicate {A = ℕ} k 0) ≡ k
    size = length-replicate {A = ℕ} k 0

    other : (base + n ≤ at) ⊎ (at + k ≤ base) → (j : ℕ) → base ≤ j → j < base + n → get_or (put s at (replicate k 0)) j 0 ≡ get_or s j 0
    other (inl a) j h m = get_or-put-before s at (replicate k 0) j (omega arith) (omega arith)
    other (inr a) j h m = get_or-put-after s at (replicate k 0) j (omega arith) (omega (arith, size))

-- zeros in front of zeros
pub zeros-before : (d s s' : List ℕ) (at i k : ℕ) → at + (i + k) ≤ length d → s ≡ put d (at + i) (replicate k 0) → s' ≡ put s at (replicate i 0) → s' ≡ put d at (replicate (i + k) 0)
zeros-before d s s' at i k h e f =
    more-zeros d (put d at (replicate i 0)) s' at i k h refl
    (f ∙ ap (λ (t : List ℕ). put t at (replicate i 0)) e ∙ sym (put-swap d at (replicate i 0) (at + i) (replicate k 0) (omega (arith, length-replicate {A = ℕ} i 0)) (omega (arith, length-replicate {A = ℕ} k 0))))
