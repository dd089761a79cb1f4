-- The machine gives the list that document 01's words define: by induction on the text, with the line that has begun.
use mathlib.Core.Path.{◌≡◌, refl, sym, ap, ◌∙◌}
use mathlib.Core.Bool.{Bool, true, false}
use mathlib.Core.Option.{none, some}
use mathlib.Core.List.{List, [], ◌∷◌, ◌++◌, map, append-nil, append_assoc}
use Prim.Native.Nat.{ℕ, suc, ◌+◌, ◌*◌, ◌-◌, ◌≤◌}
use native.Mathlib.Omega.{arith}
use native.Mathlib.Nat.{add-zero}
use borrow.Author.Tests.{le-leb, lt-leb, eqb-true, ltb-true, ltb-false, leb-false}
use lib.Dec.{leb, ltb, eqb}
use lib.ListN.{length, length-append}
use Rattle.model.specs.Res.{pick, both}
use Rattle.model.specs.Bytes.{Bytes, all}
use Rattle.model.proofs.Res.{true_false, both_true}
use Rattle.lines.specs.Ids.{State, some?, lines_from, digit, number_from, number, id, judged, id_list, begun, spoilt, closed, grown, stepped, run, last, given}
use Rattle.lines.proofs.Machine.{by, both_no, stepped_bad, stepped_line, closed-outside, closed-full, closed-more}

-- the state within a line
abbrev at : List ℕ → Bytes → State
at ids line = record { good = true; ids = ids; inside = some? line; value = number line }

-- a line that may yet be an id
abbrev fine : Bytes → Bool
fine line = both (all digit line) (leb (number line) 65535)

both-unit : (b : Bool) → both b true ≡ both true b
both-unit true = refl
both-unit false = refl

both_assoc : (a b c : Bool) → both a (both b c) ≡ both (both a b) c
both_assoc true b c = refl
both_assoc false b c = refl

all_more : (l : Bytes) (b : ℕ) → all digit (l ++ (b ∷ [])) ≡ both (all digit l) (digit b)
all_more [] b = both-unit (digit b)
all_more (x ∷ l) b = rw (all_more l b) (both_assoc (digit x) (all digit l) (digit b))

number_more : (v : ℕ) (l : Bytes) (b : ℕ) → number_from v (l ++ (b ∷ [])) ≡ 10 * number_from v l + (b - 48)
unfolding number_from
number_more v [] b = refl
number_more v (x ∷ l) b = number_more (10 * v + (x - 48)) l b

some_more : (l : Bytes) (b : ℕ) → some? (l ++ (b ∷ [])) ≡ true
some_more [] b = refl
some_more (x ∷ l) b = refl

fine_no : (l : Bytes) (b : ℕ) → fine l ≡ false → fine (l ++ (b ∷ [])) ≡ false
fine_no l b e = by (all digit l) (λ t.
    let u : leb (number l) 65535 ≡ false = rw t at e in
    let v = lt-leb (number (l ++ (b ∷ []))) 65535 (omega (arith, number_more 0 l b, leb-false (number l) 65535 u)) in
    rw v (both_no (all digit (l ++ (b ∷ []))))) (λ f. rw (all_more l b, f) refl)

-- the definitions' clauses
run_more : (m : ℕ) (t u : State) (b : ℕ) (text : Bytes) → stepped m t b ≡ u → run m t (b ∷ text) ≡ run m u text
unfolding run
run_more m t u b text e = ap (λ x. run m x text) e

lines_line : (l : Bytes) (b : ℕ) (text : Bytes) → eqb b 10 ≡ true → lines_from l (b ∷ text) ≡ l ∷ lines_from [] text
unfolding lines_from
lines_line l b text e = ap (λ x. pick x (l ∷ lines_from [] text) (lines_from (l ++ (b ∷ [])) text)) e

lines_more : (l : Bytes) (b : ℕ) (text : Bytes) → eqb b 10 ≡ false → lines_from l (b ∷ text) ≡ lines_from (l ++ (b ∷ [])) text
unfolding lines_from
lines_more l b text e = ap (λ x. pick x (l ∷ lines_from [] text) (lines_from (l ++ (b ∷ [])) text)) e

-- a bad state stays bad
bad_last : (m : ℕ) (t : State) → t.good ≡ false → given (last m t) ≡ none
unfolding last
bad_last m t e = rw e refl

bad_stays : (m : ℕ) (t : State) (text : Bytes) → t.good ≡ false → given (last m (run m t text)) ≡ none
unfolding run
bad_stays m t [] e = bad_last m t e
bad_stays m t (b ∷ text) e = ap (λ x. given (last m x)) (run_more m t t b text (stepped_bad m t b e)) ∙ bad_stays m t text e

-- a line that is no longer fine spoils the list
judged_bad : (m : ℕ) (ids : List ℕ) (line : Bytes) (ls : List Bytes) → id line ≡ false → judged m ids (line ∷ ls) ≡ none
judged_bad m ids line ls e = rw e refl

unfit : (line : Bytes) → fine line ≡ false → id line ≡ false
unfit line e = rw e (both_no (some? line))

bad_line : (m : ℕ) (ids : List ℕ) (line text : Bytes) → fine line ≡ false → judged m ids (lines_from line text) ≡ none
unfolding lines_from number_from
bad_line m ids [] [] e = true_false e
bad_line m ids (x ∷ line) [] e = judged_bad m ids (x ∷ line) [] (unfit (x ∷ line) e)
bad_line m ids line (b ∷ text) e = by (eqb b 10) (λ t. ap (judged m ids) (lines_line line b text t) ∙ judged_bad m ids line (lines_from [] text) (unfit line e)) (λ f. ap (judged m ids) (lines_more line b text f) ∙ bad_line m ids (line ++ (b ∷ [])) text (fine_no line b e))

-- an id's line closed
judged-more : (m : ℕ) (ids : List ℕ) (line : Bytes) (ls : List Bytes) → id line ≡ true → judged m (ids ++ (number line ∷ [])) ls ≡ judged m ids (line ∷ ls)
judged-more m ids line ls e =
    let n : length (ids ++ (number line ∷ [])) + length ls ≡ length ids + suc (length ls) = omega (arith, length-append ids (number line ∷ [])) in
    rw (e, n, append_assoc ids (number line ∷ []) (map number ls)) refl

judged-full : (m : ℕ) (ids : List ℕ) (line : Bytes) (ls : List Bytes) → m ≤ length ids → judged m ids (line ∷ ls) ≡ none
judged-full m ids line ls h = rw (lt-leb (length ids + suc (length ls)) m (omega (arith, h)), both_no (both (id line) (all id ls))) refl

-- a newline, or the end, in a line that is fine
closes : (m : ℕ) (ids : List ℕ) (line text : Bytes) → fine line ≡ true → ((ids : List ℕ) → length ids ≤ m → given (last m (run m (at ids []) text)) ≡ judged m ids (lines_from [] text))
    → given (last m (run m (closed m (at ids line)) text)) ≡ judged m ids (line ∷ lines_from [] text)
unfolding number_from
closes m ids [] text f go = ap (λ x. given (last m (run m x text))) (closed-outside m (at ids []) refl) ∙ bad_stays m (spoilt (at ids [])) text refl ∙ sym (judged_bad m ids [] (lines_from [] text) refl)
closes m ids (x ∷ line) text f go = by (ltb (length ids) m) (λ t.
    let l = ltb-true (length ids) m t in
    ap (λ y. given (last m (run m y text))) (closed-more m (at ids (x ∷ line)) refl l) ∙ go (ids ++ (number (x ∷ line) ∷ [])) (rw (length-append ids (number (x ∷ line) ∷ [])) (omega (arith, l))) ∙ judged-more m ids (x ∷ line) (lines_from [] text) f) (λ g.
    let l = ltb-false (length ids) m g in
    ap (λ y. given (last m (run m y text))) (closed-full m (at ids (x ∷ line)) l) ∙ bad_stays m (spoilt (at ids (x ∷ line))) text refl ∙ sym (judged-full m ids (x ∷ line) (lines_from [] text) l))

-- a digit, or another byte, in a line that is fine
grows : (m : ℕ) (ids : List ℕ) (line : Bytes) (b : ℕ) (text : Bytes) → fine line ≡ true → eqb b 10 ≡ false
    → ((line : Bytes) → fine line ≡ true → given (last m (run m (at ids line) text)) ≡ judged m ids (lines_from line text))
    → given (last m (run m (stepped m (at ids line) b) text)) ≡ judged m ids (lines_from (line ++ (b ∷ [])) text)
unfolding stepped grown
grows m ids line b text f e go = by (digit b) (λ d. by (leb (10 * number line + (b - 48)) 65535) (λ t.
    let more = line ++ (b ∷ []) in
    let v : number more ≡ 10 * number line + (b - 48) = number_more 0 line b in
    let g : fine more ≡ true = rw (all_more line b, (both_true (all digit line) (leb (number line) 65535) f).0, d, v, t) refl in
    let s : at ids more ≡ record { good = true; ids = ids; inside = true; value = 10 * number line + (b - 48) } = rw (some_more line b, v) refl in
    rw (e, d, t, ← s) (go more g)) (λ n.
    let more = line ++ (b ∷ []) in
    let v : number more ≡ 10 * number line + (b - 48) = number_more 0 line b in
    let g : fine more ≡ false = rw (v, n) (both_no (all digit more)) in
    rw (e, d, n) (bad_stays m (spoilt (at ids line)) text refl ∙ sym (bad_line m ids more text g)))) (λ d.
    let more = line ++ (b ∷ []) in
    let g : fine more ≡ false = rw (all_more line b, d, both_no (all digit line)) refl in
    rw (e, d) (bad_stays m (spoilt (at ids line)) text refl ∙ sym (bad_line m ids more text g)))

judged_end : (m : ℕ) (ids : List ℕ) → length ids ≤ m → judged m ids [] ≡ some ids
judged_end m ids h = rw (add-zero, le-leb (length ids) m h, append-nil) refl

ends : (m : ℕ) (ids : List ℕ) (line : Bytes) → length ids ≤ m → fine line ≡ true → given (last m (run m (at ids line) [])) ≡ judged m ids (lines_from line [])
unfolding run last lines_from number_from
ends m ids [] h f = sym (judged_end m ids h)
ends m ids (x ∷ line) h f =
    by (ltb (length ids) m) (λ t.
    let l = ltb-true (length ids) m t in
    let more = ids ++ (number (x ∷ line) ∷ []) in
    ap given (closed-more m (at ids (x ∷ line)) refl l) ∙ sym (judged_end m more (rw (length-append ids (number (x ∷ line) ∷ [])) (omega (arith, l)))) ∙ judged-more m ids (x ∷ line) [] f) (λ g.
    let l = ltb-false (length ids) m g in
    ap given (closed-full m (at ids (x ∷ line)) l) ∙ sym (judged-full m ids (x ∷ line) [] l))

read-on : (m : ℕ) (ids : List ℕ) (line text : Bytes) → length ids ≤ m → fine line ≡ true
    → given (last m (run m (at ids line) text)) ≡ judged m ids (lines_from line text)
unfolding number_from
read-on m ids line [] h f = ends m ids line h f
read-on m ids line (b ∷ text) h f =
    by (eqb b 10) (λ t.
    ap (λ x. given (last m x)) (run_more m (at ids line) (closed m (at ids line)) b text (stepped_line m (at ids line) b refl (eqb-true b 10 t))) ∙ closes m ids line text f (λ i l. read-on m i [] text l refl) ∙ sym (ap (judged m ids) (lines_line line b text t))) (λ n.
    ap (λ x. given (last m x)) (run_more m (at ids line) (stepped m (at ids line) b) b text refl) ∙ grows m ids line b text f n (λ l g. read-on m ids l text h g) ∙ sym (ap (judged m ids) (lines_more line b text n)))

-- the list that is read is the list that document 01 asks for
pub list_read : (m : ℕ) (text : Bytes) → given (last m (run m begun text)) ≡ id_list m text
unfolding id_list number_from
list_read m text = read-on m [] [] text (omega arith) refl
