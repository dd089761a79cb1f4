-- The first k tables: one more at a time; where the next one starts is the length of those before it; what stands in the output is what was written.
use Rattle.std.proofs.Common.{◌≡◌, ℕ, zero, suc, ◌+◌, ◌-◌, ◌<◌, ◌≤◌, Bool, true, false, List, [], ◌∷◌, ◌++◌, length, get_or, sym, refl, ap, ◌∙◌, subst, ap₂, append-nil, add-zero, add-suc, add-one, arith, length-append}
use Rattle.std.specs.Prelude.{None, is_some, count_by}
use Rattle.std.proofs.lemmas.List.Sums.{count_by_more_yes, count_by_more_no}
use lib.ListN.{take}
use lib.Seq.{take_all}
use Rattle.model.specs.Res.{pick}
use Rattle.model.proofs.Members.{by}
use Rattle.model.specs.Bytes.{Bytes, part, pad4}
use Rattle.model.specs.Font.{Entry}
use Rattle.model.specs.File.{bodies}
use Rattle.places.specs.declared.Tables.{Tables}
use Rattle.places.specs.Places.{tag_words, place_at, present_at, content_at}
use Rattle.construct.specs.Construct.{raised, count_to, start_at, entry_at, entries_to, Stands, Sized}
use Rattle.construct.proofs.Files.{length-pad4, bodies-append}
use Rattle.construct.proofs.Stand.{stands-left, stands_right}

-- a number that never falls
more : (f : ℕ → ℕ) → ((k : ℕ) → f k ≤ f (suc k)) → (k n : ℕ) → f k ≤ f (k + n)
more f up k zero = let e : f (k + 0) ≡ f k = ap f (add-zero k) in omega arith
more f up k (suc n) =
    let e : f (k + suc n) ≡ f (suc (k + n)) = ap f (add-suc k n) in
    let i = more f up k n in
    let u = up (k + n) in
    omega arith

pub grows : (f : ℕ → ℕ) → ((k : ℕ) → f k ≤ f (suc k)) → (k n : ℕ) → k ≤ n → f k ≤ f n
grows f up k n h =
    let e : f (k + (n - k)) ≡ f n = ap f (omega arith) in
    let m = more f up k (n - k) in
    omega arith

module _ (t : Tables) where
  pub count-there : (k : ℕ) → present_at t k ≡ true → count_to t (k + 1) ≡ count_to t k + 1
  unfolding count_to
  count-there k h = rw (add-one k, h)

  pub count_none : (k : ℕ) → present_at t k ≡ false → count_to t (k + 1) ≡ count_to t k
  unfolding count_to
  count_none k h = rw (add-one, h, add-zero)

  pub start-there : (d k : ℕ) → present_at t k ≡ true → start_at d t (k + 1) ≡ start_at d t k + raised (place_at t k).length
  unfolding start_at
  start-there d k h = rw (add-one, h)

  pub start_none : (d k : ℕ) → present_at t k ≡ false → start_at d t (k + 1) ≡ start_at d t k
  unfolding start_at
  start_none d k h = rw (add-one, h, add-zero)

  pub count_small : (k : ℕ) → count_to t k ≤ k
  unfolding count_to
  count_small zero = omega arith
  count_small (suc k) = let i = count_small k in let o = one (present_at t k) in omega arith
    where
      one : (b : Bool) → pick b 1 0 ≤ 1
      one true = omega arith
      one false = omega arith

  pub count-grows : (k n : ℕ) → k ≤ n → count_to t k ≤ count_to t n
  count-grows k n h = grows (count_to t) up k n h
    where
      up : (k : ℕ) → count_to t k ≤ count_to t (suc k)
      up k = unfold count_to in omega arith

  pub start-grows : (d k n : ℕ) → k ≤ n → start_at d t k ≤ start_at d t n
  start-grows d k n h = grows (start_at d t) up k n h
    where
      up : (k : ℕ) → start_at d t k ≤ start_at d t (suc k)
      up k = unfold start_at in omega arith

  pub start_first : (d : ℕ) → start_at d t 0 ≡ d
  unfolding start_at
  start_first d = refl

  -- a table and its zeros end before the last one does
  pub start-room : (d k : ℕ) → k < 11 → present_at t k ≡ true → start_at d t k + raised (place_at t k).length ≤ start_at d t 11
  start-room d k h p =
      let s = start-there d k p in
      let g = start-grows d (k + 1) 11 (omega arith) in
      omega arith

  -- the same, counted along the list
  count-along : (k : ℕ) → k ≤ length t.places → count_to t k ≡ count_by is_some (take k t.places)
  unfolding count_to
  count-along zero h = refl
  count-along (suc k) h =
      let i = count-along k (omega arith) in
      by (present_at t k)
      (λ e. let m = count_by_more_yes is_some t.places k None (omega arith) e in rw (e, ← add-one k, m) (omega arith))
      (λ e. let m = count_by_more_no is_some t.places k None (omega arith) e in rw (e, ← add-one k, m) (omega arith))

  pub count-all : length t.places ≡ 11 → count_by is_some t.places ≡ count_to t 11
  count-all h = sym (count-along 11 (omega arith) ∙ ap (count_by is_some) (take_all 11 t.places (omega arith)))

length-pick : (b : Bool) (e : Entry) → length (pick b (e ∷ []) []) ≡ pick b 1 0
length-pick true e = refl
length-pick false e = refl

bodies-pick : (b : Bool) (tag : ℕ) (bs : Bytes) (n : ℕ) → (b ≡ true → length bs ≡ n)
    → length (bodies (pick b ((tag, bs) ∷ []) [])) ≡ pick b (raised n) 0
bodies-pick true tag bs n h = ap length (append-nil (pad4 bs)) ∙ length-pad4 bs ∙ ap raised (h refl)
bodies-pick false tag bs n h = refl

stands-pick : (b : Bool) (tag : ℕ) (bs x out : Bytes) (o : ℕ) → (b ≡ true → x ≡ part out o (length bs))
    → Stands out o (bodies (pick b ((tag, bs) ∷ []) [])) → pick {A = List Entry} b ((tag, x) ∷ []) [] ≡ pick b ((tag, bs) ∷ []) []
stands-pick true tag bs x out o e h =
    let s = stands-left out o bs _ (stands-left out o (pad4 bs) [] h) in
    ap (λ (y : Bytes). (tag, y) ∷ []) (e refl ∙ s)
stands-pick false tag bs x out o e h = refl

module _ (t : Tables) (body : ℕ → Bytes) where
  pub entries-there : (k : ℕ) → present_at t k ≡ true → entries_to t body (k + 1) ≡ entries_to t body k ++ ((get_or tag_words k 0, body k) ∷ [])
  unfolding entries_to entry_at
  entries-there k h = rw (add-one, h)

  pub entries_none : (k : ℕ) → present_at t k ≡ false → entries_to t body (k + 1) ≡ entries_to t body k
  unfolding entries_to entry_at
  entries_none k h = rw (add-one, h, append-nil)

  pub length-entries : (k : ℕ) → length (entries_to t body k) ≡ count_to t k
  unfolding entries_to entry_at count_to
  length-entries zero = refl
  length-entries (suc k) =
      length-append (entries_to t body k) (entry_at t body k)
      ∙ ap₂ (λ (a b : ℕ). a + b) (length-entries k) (length-pick (present_at t k) (get_or tag_words k 0, body k))

  module _ (sized : Sized t body) where
    -- where the next table starts
    pub start-bodies : (d k : ℕ) → k ≤ 11 → start_at d t k ≡ d + length (bodies (entries_to t body k))
    unfolding start_at entries_to entry_at
    start-bodies d zero h = sym (add-zero d)
    start-bodies d (suc k) h =
        let i = start-bodies d k (omega arith) in
        let p = bodies-pick (present_at t k) (get_or tag_words k 0) (body k) (place_at t k).length (sized k (omega arith)) in
        let a = ap length (bodies-append (entries_to t body k) (entry_at t body k)) ∙ length-append (bodies (entries_to t body k)) (bodies (entry_at t body k)) in
        omega arith

    -- what was written is what stands at the places
    pub entries-stand : (out : Bytes) (d : ℕ) → ((k : ℕ) → k < 11 → present_at t k ≡ true → (place_at t k).offset ≡ start_at d t k)
        → (k : ℕ) → k ≤ 11 → Stands out d (bodies (entries_to t body k)) → entries_to t (content_at out t) k ≡ entries_to t body k
    unfolding entries_to
    entries-stand out d offsets zero h s = refl
    entries-stand out d offsets (suc k) h s =
        let es = entries_to t body k in
        let b = bodies-append es (entry_at t body k) in
        let s' = subst (λ (z : Bytes). Stands out d z) b s in
        let i = entries-stand out d offsets k (omega arith) (stands-left out d (bodies es) (bodies (entry_at t body k)) s') in
        ap₂ (λ (x y : List Entry). x ++ y) i (last k h (stands_right out d (bodies es) (bodies (entry_at t body k)) s'))
      where
        last : (k : ℕ) → suc k ≤ 11 → Stands out (d + length (bodies (entries_to t body k))) (bodies (entry_at t body k))
            → entry_at t (content_at out t) k ≡ entry_at t body k
        last k h s =
            unfold entry_at content_at in
            stands-pick (present_at t k) (get_or tag_words k 0) (body k) (content_at out t k) out (d + length (bodies (entries_to t body k)))
            (λ p. ap₂ (λ (a n : ℕ). part out a n) (offsets k h p ∙ start-bodies d k (omega arith)) (sym (sized k h p)))
            s
