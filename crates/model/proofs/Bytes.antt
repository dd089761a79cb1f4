-- Bytes written and read: what `put` and `over` leave at each place, words read back as they were written, words in a part.
use mathlib.Core.Path.{◌≡◌, refl, sym, ap, ap₂, ◌∙◌}
use mathlib.Core.List.{List, [], ◌++◌, append_assoc}
use Prim.Native.Nat.{ℕ, ◌+◌, ◌*◌, ◌-◌, ◌/◌, ◌%◌, ◌≤◌, ◌<◌}
use native.Mathlib.Omega.{arith}
use native.Mathlib.Nat.{add_assoc, zero-add, add-zero}
use lib.Dec.{lit<}
use lib.ListN.{length, take, drop, get_or, length-append, length-take, length-drop, get_or-append}
use lib.Seq.{take_at, take-append-le, drop-append-le, drop-append-add, drop-drop, length-take-le, get_or-take, get_or-drop, get_or-append-add}
use Rattle.model.specs.Bytes.{Bytes, word16, word32, be16, be32, put, over}

pub length-put : (d : List ℕ) (i : ℕ) (bs : List ℕ) → i + length bs ≤ length d → length (put d i bs) ≡ length d
unfolding put
length-put d i bs h = simp (length-append, length-take, length-drop) (omega arith)

-- nothing written
pub over_nil : (d : List ℕ) → over [] d ≡ d
unfolding over
over_nil d = refl

pub length_over : (p d : List ℕ) → length p ≤ length d → length (over p d) ≡ length d
unfolding over
length_over p d h = simp (length-append, length-drop) (omega arith)

put-append : (p d bs : List ℕ) (i : ℕ) → length p ≡ i → put (p ++ drop i d) i bs ≡ p ++ bs ++ drop (i + length bs) d
unfolding put
put-append p d bs i e =
    ap (λ (x : List ℕ). x ++ bs ++ drop (i + length bs) (p ++ drop i d)) (take_at p (drop i d) i e)
    ∙ ap (λ (x : List ℕ). p ++ bs ++ x)
    (rw (← e) (drop-append-add p (drop (length p) d) (length bs) ∙ drop-drop (length bs) (length p) d))

-- the append form: what is written behind p makes p longer
pub put-over : (p d bs : List ℕ) (i : ℕ) → length p ≡ i → put (over p d) i bs ≡ over (p ++ bs) d
unfolding over
put-over p d bs i e = rw (← e) (put-append p d bs (length p) refl ∙ simp length-append)

-- at the start
pub put-zero : (d bs : List ℕ) → put d 0 bs ≡ over bs d
unfolding put over
put-zero d bs = rw zero-add

-- a part from place i on that bs was written over, in its place again
pub over-part : (d bs : List ℕ) (i : ℕ) → take i d ++ over bs (drop i d) ≡ put d i bs
unfolding put over
over-part d bs i = rw (← append_assoc, drop-drop)

-- two runs, one behind the other
pub put-put : (d a b : List ℕ) (i : ℕ) → i ≤ length d → put (put d i a) (i + length a) b ≡ put d i (a ++ b)
unfolding put
put-put d a b i h =
    let e : length (take i d ++ a) ≡ i + length a = simp (length-append, length-take-le i d h) in
    put-append (take i d ++ a) d b (i + length a) e ∙ simp (append_assoc, length-append, add_assoc)

-- bytes put within a run that was written over the start: the run itself has them
pub put-within : (p d bs : List ℕ) (i : ℕ) → i + length bs ≤ length p → put (over p d) i bs ≡ over (put p i bs) d
unfolding put over
put-within p d bs i h =
    let r : List ℕ = drop (length p) d in
    let le : i ≤ length p = omega arith in
    rw (take-append-le i p r le, drop-append-le (i + length bs) p r h, length-put p i bs h) (simp append_assoc)

-- what stands at a place of the run, before it, and behind it
pub get_or-put : (d : List ℕ) (i : ℕ) (bs : List ℕ) (j : ℕ) → i ≤ length d → j < length bs → get_or (put d i bs) (i + j) 0 ≡ get_or bs j 0
unfolding put
get_or-put d i bs j h hj =
    let e : length (take i d) ≡ i = length-take-le i d h in
    let f : i + j < length (take i d ++ bs) = simp (length-append, e) (omega arith) in
    get_or-append (take i d ++ bs) (drop (i + length bs) d) 0 (i + j) f
    ∙ ap (λ (k : ℕ). get_or (take i d ++ bs) (k + j) 0) (sym e) ∙ get_or-append-add (take i d) bs j 0

pub get_or-put-before : (d : List ℕ) (i : ℕ) (bs : List ℕ) (j : ℕ) → i ≤ length d → j < i → get_or (put d i bs) j 0 ≡ get_or d j 0
unfolding put
get_or-put-before d i bs j h hj =
    let e : length (take i d) ≡ i = length-take-le i d h in
    get_or-append (take i d ++ bs) (drop (i + length bs) d) 0 j (simp (length-append, e) (omega arith))
    ∙ get_or-append (take i d) bs 0 j (rw e hj) ∙ get_or-take i d j 0 hj

pub get_or-put-after : (d : List ℕ) (i : ℕ) (bs : List ℕ) (j : ℕ) → i ≤ length d → i + length bs ≤ j → get_or (put d i bs) j 0 ≡ get_or d j 0
unfolding put
get_or-put-after d i bs j h hj =
    let p : List ℕ = take i d ++ bs in
    let e : length p ≡ i + length bs = simp (length-append, length-take-le i d h) in
    let k : j ≡ length p + (j - (i + length bs)) = omega arith in
    ap (λ (n : ℕ). get_or (p ++ drop (i + length bs) d) n 0) k
    ∙ get_or-append-add p (drop (i + length bs) d) (j - (i + length bs)) 0
    ∙ get_or-drop (i + length bs) d (j - (i + length bs)) 0
    ∙ ap (λ (n : ℕ). get_or d n 0) (omega arith)

-- read after write, and elsewhere
pub word16-put : (d : List ℕ) (i v : ℕ) → v < 65536 → i ≤ length d → word16 (put d i (be16 v)) i ≡ v
word16-put d i v small h =
    let a : get_or (put d i (be16 v)) i 0 ≡ v / 256 % 256 = rw add-zero at (get_or-put d i (be16 v) 0 h (lit< tt)) in
    let b : get_or (put d i (be16 v)) (i + 1) 0 ≡ v % 256 = get_or-put d i (be16 v) 1 h (lit< tt) in
    omega arith

pub word16-put-after : (d : List ℕ) (i : ℕ) (bs : List ℕ) (j : ℕ) → i ≤ length d → i + length bs ≤ j → word16 (put d i bs) j ≡ word16 d j
word16-put-after d i bs j h hj =
    simp (get_or-put-after d i bs j h hj, get_or-put-after d i bs (j + 1) h (omega arith))

pub word16-be16 : (x : ℕ) (r : Bytes) → x < 65536 → word16 (be16 x ++ r) 0 ≡ x
word16-be16 x r h = omega arith

two : (x : ℕ) → x < 65536 → x / 256 % 256 * 256 + x % 256 ≡ x
two x h = omega arith

high : (x : ℕ) → x < 4294967296 → x / 65536 < 65536
high x h = omega arith

low : (x : ℕ) → x % 65536 < 65536
low x = omega arith

split : (x : ℕ) → x / 65536 * 65536 + x % 65536 ≡ x
split x = omega arith

pub word32-be32 : (x : ℕ) (r : Bytes) → x < 4294967296 → word32 (be32 x ++ r) 0 ≡ x
word32-be32 x r h =
    ap₂ (λ (a b : ℕ). a * 65536 + b) (two (x / 65536) (high x h)) (two (x % 65536) (low x)) ∙ split x

-- a word in a part that starts later
pub word16-drop : (b : Bytes) (n i : ℕ) → word16 (drop n b) i ≡ word16 b (n + i)
word16-drop b n i =
    ap₂ (λ (x y : ℕ). x * 256 + y) (get_or-drop n b i 0) (get_or-drop n b (i + 1) 0 ∙ ap (λ (k : ℕ). get_or b k 0) (omega arith))

pub word32-drop : (b : Bytes) (n i : ℕ) → word32 (drop n b) i ≡ word32 b (n + i)
word32-drop b n i =
    ap₂ (λ (x y : ℕ). x * 65536 + y) (word16-drop b n i) (word16-drop b n (i + 2) ∙ ap (λ (k : ℕ). word16 b k) (omega arith))
