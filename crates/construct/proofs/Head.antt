-- head's adjustment in the written file: the list splits at head, no other tag is head's, and a write within a part is the part rewritten.
use Rattle.std.proofs.Common.{◌≡◌, ℕ, ◌+◌, ◌-◌, ◌%◌, ◌≤◌, Bool, true, false, eqb, List, [], ◌∷◌, ◌++◌, length, get_or, drop, replicate, sym, refl, ap, ◌∙◌, ap₂, append_assoc, add_assoc, arith, length-append}
use lib.Seq.{take-append-add, drop-append-add, take-append-le, drop-append-le}
use Rattle.model.specs.Res.{pick}
use Rattle.model.specs.Bytes.{Bytes, be32, put, pad4}
use Rattle.model.specs.Font.{Entry, HEAD}
use Rattle.model.specs.File.{bodies, adjust, adjustment, directory_of, file}
use Rattle.model.proofs.Bytes.{length-put}
use Rattle.places.specs.declared.Tables.{Tables}
use Rattle.places.specs.Places.{tag_words, place_at, present_at}
use Rattle.construct.specs.Construct.{start_at, count_to, directory_length, entry_at, entries_to, Sized}
use Rattle.construct.proofs.Files.{bodies-append, adjust-append, length-directory, raised-room}
use Rattle.construct.proofs.Lists.{length-entries, start-bodies, start-room}

put-inside : (p q y : Bytes) (i : ℕ) → put (p ++ q) (length p + i) y ≡ p ++ put q i y
unfolding put
put-inside p q y i =
    ap₂ (λ (a b : Bytes). a ++ y ++ b) (take-append-add p q i)
    (ap (λ (n : ℕ). drop n (p ++ q)) (add_assoc (length p) i (length y)) ∙ drop-append-add p q (i + length y))
    ∙ simp append_assoc

put-left : (p q y : Bytes) (i : ℕ) → i + length y ≤ length p → put (p ++ q) i y ≡ put p i y ++ q
unfolding put
put-left p q y i h =
    ap₂ (λ (a b : Bytes). a ++ y ++ b) (take-append-le i p q (omega arith)) (drop-append-le (i + length y) p q h)
    ∙ simp append_assoc

pad4-put : (b y : Bytes) (i : ℕ) → i + length y ≤ length b → put (pad4 b) i y ≡ pad4 (put b i y)
pad4-put b y i h =
    put-left b (replicate ((4 - length b % 4) % 4) 0) y i h
    ∙ ap (λ (n : ℕ). put b i y ++ replicate ((4 - n % 4) % 4) 0) (sym (length-put b i y h))

-- a table's own bytes, among the others
put-among : (p b r y : Bytes) (i : ℕ) → i + length y ≤ length b → put (p ++ (pad4 b ++ r)) (length p + i) y ≡ p ++ (pad4 (put b i y) ++ r)
put-among p b r y i h =
    let l : i + length y ≤ length (pad4 b) = simp length-append (omega arith) in
    put-inside p (pad4 b ++ r) y i ∙ ap (λ (z : Bytes). p ++ z) (put-left (pad4 b) r y i l ∙ ap (λ (z : Bytes). z ++ r) (pad4-put b y i h))

pick_other : (x : ℕ) (b : Bool) (tag : ℕ) (bs : Bytes) → eqb tag HEAD ≡ false → adjust x (pick b ((tag, bs) ∷ []) []) ≡ pick b ((tag, bs) ∷ []) []
pick_other x true tag bs e = ap (λ (t : Bool). (tag, pick t (put bs 8 (be32 x)) bs) ∷ []) e
pick_other x false tag bs e = refl

module _ (t : Tables) (body : ℕ → Bytes) where
  -- the tables behind head
  behind : List Entry
  behind = entry_at t body 4 ++ (entry_at t body 5 ++ (entry_at t body 6 ++ (entry_at t body 7 ++ (entry_at t body 8 ++ (entry_at t body 9 ++ entry_at t body 10)))))

  adjust_other : (x k : ℕ) → eqb (get_or tag_words k 0) HEAD ≡ false → adjust x (entry_at t body k) ≡ entry_at t body k
  unfolding entry_at
  adjust_other x k e = pick_other x (present_at t k) (get_or tag_words k 0) (body k) e

  before_same : (x : ℕ) → adjust x (entries_to t body 3) ≡ entries_to t body 3
  unfolding entries_to
  before_same x = simp (adjust-append, adjust_other x 0 refl, adjust_other x 1 refl, adjust_other x 2 refl)

  behind-same : (x : ℕ) → adjust x behind ≡ behind
  unfolding behind
  behind-same x =
      simp (adjust-append, adjust_other x 4 refl, adjust_other x 5 refl, adjust_other x 6 refl, adjust_other x 7 refl, adjust_other x 8 refl, adjust_other x 9 refl, adjust_other x 10 refl)

  module _ (sized : Sized t body) (there : present_at t 3 ≡ true) (long : 12 ≤ (place_at t 3).length) where
    split : entries_to t body 11 ≡ entries_to t body 3 ++ ((HEAD, body 3) ∷ behind)
    unfolding entries_to behind
    split = simp append_assoc (ap (λ (h : List Entry). entry_at t body 0 ++ (entry_at t body 1 ++ (entry_at t body 2 ++ (h ++ behind)))) head)
      where
        head : entry_at t body 3 ≡ (HEAD, body 3) ∷ []
        head = unfold entry_at in rw there

    adjusted : (x : ℕ) → adjust x (entries_to t body 11) ≡ entries_to t body 3 ++ ((HEAD, put (body 3) 8 (be32 x)) ∷ behind)
    adjusted x =
        ap (adjust x) split ∙ adjust-append x (entries_to t body 3) ((HEAD, body 3) ∷ behind)
        ∙ ap₂ (λ (a b : List Entry). a ++ ((HEAD, put (body 3) 8 (be32 x)) ∷ b)) (before_same x) (behind-same x)

    -- four bytes written at head's place are head's, and no other table's
    pub head-put : (x : ℕ) (p : Bytes) (d : ℕ) → length p ≡ d
        → put (p ++ bodies (entries_to t body 11)) (start_at d t 3 + 8) (be32 x) ≡ p ++ bodies (adjust x (entries_to t body 11))
    head-put x p d e =
        let front : Bytes = p ++ bodies (entries_to t body 3) in
        let s = start-bodies t body sized d 3 (omega arith) in
        let l : start_at d t 3 + 8 ≡ length front + 8 = simp length-append (omega arith) in
        let b : 8 + length (be32 x) ≤ length (body 3) = let z = sized 3 (omega arith) there in omega arith in
        let whole : p ++ bodies (entries_to t body 11) ≡ front ++ (pad4 (body 3) ++ bodies behind) =
        ap (λ (z : Bytes). p ++ z) (ap bodies split ∙ bodies-append (entries_to t body 3) ((HEAD, body 3) ∷ behind))
        ∙ sym (append_assoc p (bodies (entries_to t body 3)) (pad4 (body 3) ++ bodies behind)) in
        let whole' : p ++ bodies (adjust x (entries_to t body 11)) ≡ front ++ (pad4 (put (body 3) 8 (be32 x)) ++ bodies behind) =
        ap (λ (z : Bytes). p ++ z) (ap bodies (adjusted x) ∙ bodies-append (entries_to t body 3) ((HEAD, put (body 3) 8 (be32 x)) ∷ behind))
        ∙ sym (append_assoc p (bodies (entries_to t body 3)) (pad4 (put (body 3) 8 (be32 x)) ++ bodies behind)) in
        ap₂ (λ (z : Bytes) (n : ℕ). put z n (be32 x)) whole l ∙ put-among front (body 3) (bodies behind) (be32 x) 8 b ∙ sym whole'

    -- the file's length
    pub length-file : length (file (entries_to t body 11)) ≡ start_at (directory_length (count_to t 11)) t 11
    unfolding file
    length-file =
        let es = entries_to t body 11 in
        let x = adjustment es in
        let d = directory_length (count_to t 11) in
        let c : length (directory_of es) ≡ d = length-directory es ∙ ap directory_length (length-entries t body 11) in
        let s3 = start-bodies t body sized d 3 (omega arith) in
        let s = start-bodies t body sized d 11 (omega arith) in
        let z = sized 3 (omega arith) there in
        let a : length (directory_of es ++ bodies es) ≡ start_at d t 11 = simp length-append (omega arith) in
        let r = room d in
        ap length (sym (head-put x (directory_of es) d c)) ∙ length-put (directory_of es ++ bodies es) (start_at d t 3 + 8) (be32 x) (omega arith) ∙ a
      where
        room : (d : ℕ) → start_at d t 3 + 12 ≤ start_at d t 11
        room d = let r = start-room t d 3 (omega arith) there in let z = raised-room (place_at t 3).length in omega arith
