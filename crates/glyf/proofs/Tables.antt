-- The tables grow outline by outline: sums, bytes and offsets of one outline more.
use Rattle.std.proofs.Common.{◌≡◌, refl, sym, ap, ap₂, ◌∙◌, Bool, true, false, List, [], ◌∷◌, ◌++◌, map, append_assoc, append-nil, ℕ, zero, suc, ◌+◌, ◌*◌, ◌-◌, ◌/◌, ◌%◌, ◌≤◌, ◌<◌, arith, leb, ltb, le-ltb, lt-ltb, ltb-false, leb-true, leb-false, add_assoc, add-zero, zero-add, mul-zero, mul-suc, add-one, length, take, get_or, length-append, take-suc, length-take-le}
use lib.ListN.{length-replicate}
use Rattle.model.specs.Res.{pick}
use Rattle.model.specs.Bytes.{Bytes, put, over, pad2, sum, concat}
use Rattle.model.specs.Glyf.{Width, short, long, entry_size, unit, be_entry, size, new_width, padded, new_glyf, new_loca, width}
use Rattle.model.proofs.Bytes.{length_over, over_nil, put-over, put-put}
use Rattle.model.proofs.Puts.{put-swap}
use Rattle.glyf.specs.Pieces.{raised_to, most_offset, both_tables, Measured}

map-append : {A B : Type 0} (f : A → B) (xs ys : List A) → map f (xs ++ ys) ≡ map f xs ++ map f ys
map-append f [] ys = refl
map-append f (x ∷ xs) ys = ap (λ l. f x ∷ l) (map-append f xs ys)

concat-append : (xs ys : List Bytes) → concat (xs ++ ys) ≡ concat xs ++ concat ys
concat-append [] ys = refl
concat-append (x ∷ xs) ys = ap (λ (l : Bytes). x ++ l) (concat-append xs ys) ∙ sym (append_assoc x (concat xs) (concat ys))

sum-append : (xs ys : List ℕ) → sum (xs ++ ys) ≡ sum xs + sum ys
sum-append [] ys = sym (zero-add (sum ys))
sum-append (x ∷ xs) ys = ap (λ (s : ℕ). x + s) (sum-append xs ys) ∙ sym (add_assoc x (sum xs) (sum ys))

-- one element more
pub taken_more : {A : Type 0} (xs : List A) (i : ℕ) (z : A) → i < length xs → take (i + 1) xs ≡ take i xs ++ (get_or xs i z ∷ [])
taken_more xs i z h = ap (λ (m : ℕ). take m xs) (add-one i) ∙ take-suc xs i z h

pub sum_more : {A : Type 0} (f : A → ℕ) (xs : List A) (i : ℕ) (z : A) → i < length xs → sum (map f (take (i + 1) xs)) ≡ sum (map f (take i xs)) + f (get_or xs i z)
sum_more f xs i z h =
    ap (λ l. sum (map f l)) (taken_more xs i z h)
    ∙ ap sum (map-append f (take i xs) (get_or xs i z ∷ []))
    ∙ sum-append (map f (take i xs)) (f (get_or xs i z) ∷ [])
    ∙ ap (λ (s : ℕ). sum (map f (take i xs)) + s) (add-zero (f (get_or xs i z)))

pub concat-more : {A : Type 0} (f : A → Bytes) (xs : List A) (i : ℕ) (z : A) → i < length xs → concat (map f (take (i + 1) xs)) ≡ concat (map f (take i xs)) ++ f (get_or xs i z)
concat-more f xs i z h =
    ap (λ l. concat (map f l)) (taken_more xs i z h)
    ∙ ap concat (map-append f (take i xs) (get_or xs i z ∷ []))
    ∙ concat-append (map f (take i xs)) (f (get_or xs i z) ∷ [])
    ∙ ap (λ (s : Bytes). concat (map f (take i xs)) ++ s) (append-nil (f (get_or xs i z)))

pub length-padded : (w : Width) (b : Bytes) → length (padded w b) ≡ raised_to w (length b)
length-padded short b = length-append b _ ∙ ap (λ (x : ℕ). length b + x) (length-replicate (length b % 2) 0)
length-padded long b = refl

pub glyf-more : (w : Width) (bs : List Bytes) (i : ℕ) → i < length bs
    → length (new_glyf w (take (i + 1) bs)) ≡ length (new_glyf w (take i bs)) + raised_to w (length (get_or bs i []))
glyf-more w bs i h =
    ap length (concat-more (padded w) bs i [] h)
    ∙ length-append (new_glyf w (take i bs)) (padded w (get_or bs i []))
    ∙ ap (λ (x : ℕ). length (new_glyf w (take i bs)) + x) (length-padded w (get_or bs i []))

pub glyf-grows : (w : Width) (bs : List Bytes) (i : ℕ) → length (new_glyf w (take i bs)) ≤ length (new_glyf w bs)
glyf-grows w bs zero = omega arith
glyf-grows w [] (suc i) = omega arith
glyf-grows w (b ∷ bs) (suc i) = omega (arith, length-append (padded w b) (new_glyf w (take i bs)), length-append (padded w b) (new_glyf w bs), glyf-grows w bs i)

-- the new glyf's length, in both widths, is what was measured
pub length-new_glyf-short : (bs : List Bytes) → length (new_glyf short bs) ≡ size bs
length-new_glyf-short [] = refl
length-new_glyf-short (b ∷ bs) = length-append (pad2 b) (new_glyf short bs) ∙ ap (λ (x : ℕ). length (pad2 b) + x) (length-new_glyf-short bs)

pub length-new_glyf-long : (bs : List Bytes) → length (new_glyf long bs) ≡ sum (map (λ (b : Bytes). length b) bs)
length-new_glyf-long [] = refl
length-new_glyf-long (b ∷ bs) = length-append b (new_glyf long bs) ∙ ap (λ (x : ℕ). length b + x) (length-new_glyf-long bs)

-- loca: one outline more is one offset more
length-be_entry : (w : Width) (x : ℕ) → length (be_entry w x) ≡ entry_size w
length-be_entry short x = refl
length-be_entry long x = refl

new_loca_snoc : (w : Width) (at : ℕ) (bs : List Bytes) (b : Bytes)
    → new_loca w at (bs ++ (b ∷ [])) ≡ new_loca w at bs ++ be_entry w ((at + length (new_glyf w (bs ++ (b ∷ [])))) / unit w)
new_loca_snoc w at [] b = ap (λ (x : ℕ). be_entry w (at / unit w) ++ be_entry w ((at + x) / unit w)) (sym (ap length (append-nil (padded w b))))
new_loca_snoc w at (c ∷ bs) b =
    ap (λ (l : Bytes). be_entry w (at / unit w) ++ l) (new_loca_snoc w (at + length (padded w c)) bs b)
    ∙ sym (append_assoc (be_entry w (at / unit w)) (new_loca w (at + length (padded w c)) bs) _)
    ∙ ap (λ (x : ℕ). (be_entry w (at / unit w) ++ new_loca w (at + length (padded w c)) bs) ++ be_entry w (x / unit w))
    (add_assoc at (length (padded w c)) (length (new_glyf w (bs ++ (b ∷ []))))
    ∙ ap (λ (x : ℕ). at + x) (sym (length-append (padded w c) (new_glyf w (bs ++ (b ∷ []))))))

pub length-new_loca : (w : Width) (at : ℕ) (bs : List Bytes) → length (new_loca w at bs) ≡ entry_size w * (length bs + 1)
length-new_loca w at [] = length-be_entry w (at / unit w) ∙ one w
  where
    one : (w : Width) → entry_size w ≡ entry_size w * (0 + 1)
    one short = refl
    one long = refl
length-new_loca w at (b ∷ bs) =
    length-append (be_entry w (at / unit w)) (new_loca w (at + length (padded w b)) bs)
    ∙ ap₂ (λ (x y : ℕ). x + y) (length-be_entry w (at / unit w)) (length-new_loca w (at + length (padded w b)) bs)
    ∙ next w
  where
    next : (w : Width) → entry_size w + entry_size w * (length bs + 1) ≡ entry_size w * (length (b ∷ bs) + 1)
    next short = omega arith
    next long = omega arith

pub length-entries : (w : Width) (bs : List Bytes) (i : ℕ) → i ≤ length bs → length (new_loca w 0 (take i bs)) ≡ entry_size w * (i + 1)
length-entries w bs i h = length-new_loca w 0 (take i bs) ∙ ap (λ (m : ℕ). entry_size w * (m + 1)) (length-take-le i bs h)

pub loca-more : (w : Width) (bs : List Bytes) (i at : ℕ) → i < length bs → at ≡ length (new_glyf w (take (i + 1) bs))
    → new_loca w 0 (take i bs) ++ be_entry w (at / unit w) ≡ new_loca w 0 (take (i + 1) bs)
loca-more w bs i at h e =
    sym
    (ap (new_loca w 0) (taken_more bs i [] h) ∙ new_loca_snoc w 0 (take i bs) (get_or bs i [])
    ∙ ap (λ (x : ℕ). new_loca w 0 (take i bs) ++ be_entry w (x / unit w)) ends)
  where
    ends : 0 + length (new_glyf w (take i bs ++ (get_or bs i [] ∷ []))) ≡ at
    ends = zero-add (length (new_glyf w (take i bs ++ (get_or bs i [] ∷ [])))) ∙ ap (λ (l : List Bytes). length (new_glyf w l)) (sym (taken_more bs i [] h)) ∙ sym e

-- an earlier entry fits where a later one does
pub entries_fit : (w : Width) (i m room : ℕ) → i ≤ m → entry_size w * (m + 1) ≤ room → entry_size w * (i + 1) ≤ room
entries_fit short i m room h k = omega arith
entries_fit long i m room h k = omega arith

pub entry_end : (w : Width) (i x : ℕ) → entry_size w * i + length (be_entry w x) ≡ entry_size w * (i + 1)
entry_end short i x = omega arith
entry_end long i x = omega arith

-- both tables: with no outline, and with one more, whose start is its entry
module _ (w : Width) (bs : List Bytes) (distance : ℕ) (d : Bytes) where
  pub both-start : put d (distance + entry_size w * 0) (be_entry w (0 / unit w)) ≡ both_tables w (take 0 bs) distance d
  unfolding both_tables
  both-start =
      ap₂ (λ (z : Bytes) (m : ℕ). put z m (be_entry w (0 / unit w))) (sym (over_nil d))
      (ap (λ (m : ℕ). distance + m) (mul-zero (entry_size w)) ∙ add-zero distance)

  module _ (behind : length (new_glyf w bs) ≤ distance) (room : distance + entry_size w * (length bs + 1) ≤ length d) where
    pub both-more : (i at next : ℕ) (o : Bytes) → i < length bs → at ≡ length (new_glyf w (take i bs)) → next ≡ length (new_glyf w (take (i + 1) bs))
        → o ≡ both_tables w (take i bs) distance d
        → put (put o at (padded w (get_or bs i []))) (distance + entry_size w * (i + 1)) (be_entry w (next / unit w)) ≡ both_tables w (take (i + 1) bs) distance d
    unfolding both_tables
    both-more i at next o h is_at is-next so_far =
        let g = new_glyf w (take i bs) in
        let p = padded w (get_or bs i []) in
        let l = new_loca w 0 (take i bs) in
        let size = length-entries w bs i (omega arith) in
        let fits = entries_fit w i (length bs) (length d - distance) (omega arith) (omega arith) in
        let grown : length (new_glyf w (take (i + 1) bs)) ≡ length g + length p = ap length (concat-more (padded w) bs i [] h) ∙ length-append g p in
        let most = glyf-grows w bs (i + 1) in
        let same = length_over g d (omega arith) in
        let longer : length (over (g ++ p) d) ≡ length d = length_over (g ++ p) d (omega (arith, length-append g p)) in
        ap (λ (z : Bytes). put (put z at p) (distance + entry_size w * (i + 1)) (be_entry w (next / unit w))) so_far
        ∙ ap₂ (λ (z : Bytes) (m : ℕ). put z (distance + m) (be_entry w (next / unit w)))
        (sym (put-swap (over g d) at p distance l (omega arith) (omega arith)) ∙ ap (λ (z : Bytes). put z distance l) (put-over g d p at (sym is_at)))
        (sym size)
        ∙ put-put (over (g ++ p) d) l (be_entry w (next / unit w)) distance (omega arith)
        ∙ ap₂ (λ (x y : Bytes). put (over x d) distance y) (sym (concat-more (padded w) bs i [] h)) (loca-more w bs i next h is-next)

-- what the caller goes by: the new width, the tables' lengths, and that they are small
pub width-new : (bs : List Bytes) (wide : Bool) → wide ≡ ltb 131070 (size bs) → width wide ≡ new_width (size bs)
width-new bs wide e = e' ∙ go (leb (size bs) 131070) refl
  where
    e' : width wide ≡ width (ltb 131070 (size bs))
    e' = ap width e

    go : (t : Bool) → leb (size bs) 131070 ≡ t → width (ltb 131070 (size bs)) ≡ pick t short long
    go true f = ap width (le-ltb 131070 (size bs) (leb-true (size bs) 131070 f))
    go false f = ap width (lt-ltb 131070 (size bs) (leb-false (size bs) 131070 f))

pub length-new_glyf : (bs : List Bytes) (wide : Bool) (even raw : ℕ) → Measured bs even raw → length (new_glyf (width wide) bs) ≡ pick wide raw even
length-new_glyf bs true even raw m = length-new_glyf-long bs ∙ sym m.is_raw
length-new_glyf bs false even raw m = length-new_glyf-short bs ∙ sym m.is_even

pub offsets_fit : (bs : List Bytes) (wide : Bool) → wide ≡ ltb 131070 (size bs) → length (new_glyf (width wide) bs) ≤ 4294967295 → length (new_glyf (width wide) bs) ≤ most_offset (width wide)
offsets_fit bs true e h = h
offsets_fit bs false e h = omega (arith, length-new_glyf-short bs, ltb-false 131070 (size bs) (sym e))

pub sum-small : (k : ℕ) (xs : List ℕ) → ((i : ℕ) → i < length xs → get_or xs i 0 ≤ k) → sum xs ≤ k * length xs
sum-small k [] h = omega arith
sum-small k (x ∷ xs) h = rw (mul-suc k (length xs)) (omega (arith, h 0 (omega arith), sum-small k xs (λ i l. h (suc i) (omega arith))))
