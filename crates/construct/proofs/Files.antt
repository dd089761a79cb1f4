-- Sums and rows of tables one behind the other: a list of whole words sums up part by part, padding adds nothing, one table more is one row more.
use Rattle.std.proofs.Common.{◌≡◌, ℕ, ◌+◌, ◌-◌, ◌*◌, ◌%◌, ◌^◌, ◌≤◌, eqb, List, [], ◌∷◌, ◌++◌, length, replicate, sym, refl, ap, ◌∙◌, append_assoc, append-nil, add-zero, add_assoc, zero-add, arith, length-append}
use lib.ListN.{length-replicate}
use Rattle.model.specs.Res.{pick}
use Rattle.model.specs.Bytes.{Bytes, pad4, be32, put}
use Rattle.model.specs.Font.{Entry, HEAD}
use Rattle.model.specs.File.{word_sum, checksum, row, rows_from, bodies, header, directory_of, adjust}
use Rattle.construct.specs.Construct.{raised, directory_length}

pub sum-append : (a b : Bytes) → length a % 4 ≡ 0 → word_sum (a ++ b) ≡ word_sum a + word_sum b
sum-append [] b h = sym (zero-add (word_sum b))
sum-append (x ∷ []) b h = absurd (omega arith)
sum-append (x ∷ y ∷ []) b h = absurd (omega arith)
sum-append (x ∷ y ∷ z ∷ []) b h = absurd (omega arith)
sum-append (x ∷ y ∷ z ∷ w ∷ r) b h = let i = sum-append r b (omega arith) in omega arith

-- zeros that make a whole word
sum_zeros : (b : Bytes) (k : ℕ) → k ≡ (4 - length b % 4) % 4 → word_sum (b ++ replicate k 0) ≡ word_sum b
sum_zeros [] k h = rw h
sum_zeros (x ∷ []) k h = rw h (omega arith)
sum_zeros (x ∷ y ∷ []) k h = rw h (omega arith)
sum_zeros (x ∷ y ∷ z ∷ []) k h = rw h (omega arith)
sum_zeros (x ∷ y ∷ z ∷ w ∷ r) k h = let i = sum_zeros r k (omega arith) in omega arith

pub sum-pad4 : (b : Bytes) → word_sum (pad4 b) ≡ word_sum b
sum-pad4 b = sum_zeros b ((4 - length b % 4) % 4) refl

pub length-pad4 : (b : Bytes) → length (pad4 b) ≡ raised (length b)
unfolding raised
length-pad4 b = simp (length-append, length-replicate)

pub raised-whole : (n : ℕ) → raised n % 4 ≡ 0
unfolding raised
raised-whole n = omega arith

pub raised-room : (n : ℕ) → n ≤ raised n
unfolding raised
raised-room n = omega arith

pub bodies-append : (es fs : List Entry) → bodies (es ++ fs) ≡ bodies es ++ bodies fs
bodies-append [] fs = refl
bodies-append (e ∷ es) fs = ap (λ (r : Bytes). pad4 e.1 ++ r) (bodies-append es fs) ∙ sym (append_assoc (pad4 e.1) (bodies es) (bodies fs))

pub bodies_snoc : (es : List Entry) (t : ℕ) (b : Bytes) → bodies (es ++ ((t, b) ∷ [])) ≡ bodies es ++ pad4 b
bodies_snoc es t b = bodies-append es ((t, b) ∷ []) ∙ ap (λ (r : Bytes). bodies es ++ r) (append-nil (pad4 b))

pub bodies-whole : (es : List Entry) → length (bodies es) % 4 ≡ 0
bodies-whole [] = refl
bodies-whole (e ∷ es) =
    let i = bodies-whole es in
    let p = raised-whole (length e.1) in
    let l = length-pad4 e.1 in
    let s = length-append (pad4 e.1) (bodies es) in
    omega arith

-- one table more
pub sum_snoc : (es : List Entry) (t : ℕ) (b : Bytes) → word_sum (bodies (es ++ ((t, b) ∷ []))) ≡ word_sum (bodies es) + word_sum b
sum_snoc es t b =
    ap word_sum (bodies_snoc es t b) ∙ sum-append (bodies es) (pad4 b) (bodies-whole es)
    ∙ ap (λ (n : ℕ). word_sum (bodies es) + n) (sum-pad4 b)

pub rows_append : (at : ℕ) (es : List Entry) (e : Entry)
    → rows_from at (es ++ (e ∷ [])) ≡ rows_from at es ++ row (at + length (bodies es)) e
rows_append at [] e = append-nil (row at e) ∙ ap (λ (n : ℕ). row n e) (sym (add-zero at))
rows_append at (f ∷ es) e =
    ap (λ (r : Bytes). row at f ++ r)
    (rows_append (at + length (pad4 f.1)) es e
    ∙ ap (λ (n : ℕ). rows_from (at + length (pad4 f.1)) es ++ row n e) (further))
    ∙ sym (append_assoc (row at f) (rows_from (at + length (pad4 f.1)) es) (row (at + length (pad4 f.1 ++ bodies es)) e))
  where
    further : at + length (pad4 f.1) + length (bodies es) ≡ at + length (pad4 f.1 ++ bodies es)
    further = add_assoc at (length (pad4 f.1)) (length (bodies es)) ∙ ap (λ (n : ℕ). at + n) (sym (length-append (pad4 f.1) (bodies es)))

pub length-rows : (at : ℕ) (es : List Entry) → length (rows_from at es) ≡ 16 * length es
length-rows at [] = refl
length-rows at (e ∷ es) =
    let i = length-rows (at + length (pad4 e.1)) es in
    let s = length-append (row at e) (rows_from (at + length (pad4 e.1)) es) in
    omega arith

pub length-directory : (es : List Entry) → length (directory_of es) ≡ directory_length (length es)
unfolding directory_of directory_length
length-directory es =
    let r = length-rows (12 + 16 * length es) es in
    let s = length-append (header (length es)) (rows_from (12 + 16 * length es) es) in
    omega arith

-- the file's first sum S is the directory's and the tables'
pub sum-file : (es : List Entry) → checksum (directory_of es ++ bodies es) ≡ (checksum (directory_of es) + checksum (bodies es)) % 2 ^ 32
unfolding directory_length
sum-file es =
    let l = length-directory es in
    let s = sum-append (directory_of es) (bodies es) (omega arith) in
    omega arith

pub adjust-append : (x : ℕ) (es fs : List Entry) → adjust x (es ++ fs) ≡ adjust x es ++ adjust x fs
adjust-append x [] fs = refl
adjust-append x (e ∷ es) fs = ap (λ (r : List Entry). (e.0, pick (eqb e.0 HEAD) (put e.1 8 (be32 x)) e.1) ∷ r) (adjust-append x es fs)
