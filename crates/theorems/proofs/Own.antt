-- A roster walked again is itself: it is closed, and asked in its own order; so asking the original for its glyphs is the first cut again.
use mathlib.Core.Path.{◌≡◌, refl, sym, ap, ap₂, ◌∙◌, subst}
use mathlib.Core.Bool.{true, false}
use mathlib.Core.List.{List, [], ◌∷◌, ◌++◌, map, append_assoc, append-nil}
use mathlib.Core.Logic.{inl, inr, ⊎_elim}
use Prim.Native.Nat.{ℕ, ◌≤◌}
use native.Mathlib.Omega.{arith}
use native.Mathlib.Numerals.{add-one}
use lib.Dec.{leb}
use lib.ListN.{length, get_or, length-append}
use lib.Seq.{get_or-append_seam}
use borrow.Author.Tests.{le-leb}
use Rattle.model.specs.Res.{Res, refuse, ok, need, ◌>>=◌, ◌>>◌}
use Rattle.model.specs.Bytes.{all, member, place}
use Rattle.model.proofs.Res.{both_intro}
use Rattle.model.specs.Font.{Tables}
use Rattle.model.specs.File.{entries, file}
use Rattle.model.specs.Cut.{closure, rewrite, CutFont, cut_tables}
use Rattle.model.specs.Call.{Input, Answer, Made, ready, made, answer}
use Rattle.model.proofs.Members.{In, clash, in_here, in_there, in_cons, in_eq, in_right, numbered_in, numbered-new}
use Rattle.model.proofs.Start.{Once, firsts, out_of}
use Rattle.model.proofs.Places.{place-get}
use Rattle.model.proofs.Closure.{closure-roster}
use Rattle.theorems.specs.Closure.{Needed, zeroth, asked, component, Unreadable, none, outside, outline, Refused}
use Rattle.theorems.specs.Twice.{roster_of}
use Rattle.theorems.specs.Own.{counting, OwnGlyphs}
use Rattle.theorems.proofs.Rosters.{roster_in_order, roster-least}
use Rattle.theorems.proofs.WalkRefusals.{walk-refuses}
use Rattle.theorems.proofs.Pieces.{cut_inv}
use Rattle.theorems.proofs.Calls.{answer_ok, file-ok, scratch_of, made_of, won}
use Rattle.theorems.proofs.Twice.{cutting_twice}

-- Lists without repeats
once-apart : (p : List ℕ) (x : ℕ) (q : List ℕ) → Once (p ++ (x ∷ q)) → member x p ≡ false
once-apart [] x q o = refl
once-apart (y ∷ p) x q o = out_of x (y ∷ p) (λ m. ⊎_elim first (λ i. clash i (once-apart p x q o.1)) (in_cons x y p m))
  where
    first : x ≡ y → ⊥
    first e = clash (in_right y p (x ∷ q) (in_eq (x ∷ q) (sym e) (in_here x q))) o.0

none_more : (r rest : List ℕ) → Once (r ++ rest) → ((x : ℕ) → In x rest → In x r) → rest ≡ []
none_more r [] o h = refl
none_more r (x ∷ rest) o h = clash (h x (in_here x rest)) (once-apart r x rest o)

firsts-all : (p q : List ℕ) → Once (p ++ q) → firsts p q ≡ p ++ q
firsts-all p [] o = sym (append-nil p)
firsts-all p (x ∷ q) o =
    ap (λ (l : List ℕ). firsts l q) (numbered-new p x (once-apart p x q o))
    ∙ firsts-all (p ++ (x ∷ [])) q (subst Once (sym (append_assoc p (x ∷ []) q)) o)
    ∙ append_assoc p (x ∷ []) q

places-all : (p q : List ℕ) → Once (p ++ q) → map (place (p ++ q)) q ≡ counting (length p) (length q)
places-all p [] o = refl
places-all p (x ∷ q) o =
    let assoc = append_assoc p (x ∷ []) q in
    ap₂ (λ (y : ℕ) (l : List ℕ). y ∷ l)
    (ap (place (p ++ (x ∷ q))) (sym (get_or-append_seam p x q 0)) ∙ place-get (p ++ (x ∷ q)) (length p) o (omega (arith, length-append p (x ∷ q))))
    (ap (λ (l : List ℕ). map (place l) q) (sym assoc)
    ∙ places-all (p ++ (x ∷ [])) q (subst Once (sym assoc) o)
    ∙ ap (λ (n : ℕ). counting n (length q)) (length-append p (x ∷ []) ∙ add-one (length p)))

all_own : (r q : List ℕ) → ((x : ℕ) → In x q → In x r) → all (λ g. member g r) q ≡ true
all_own r [] h = refl
all_own r (x ∷ q) h = both_intro (h x (in_here x q)) (all_own r q (λ y i. h y (in_there y x q i)))

-- a roster's own walk
module _ (t : Tables) (ids r : List ℕ) (w : closure t ids ≡ ok r) where
  needed-own : (g : ℕ) → Needed t r g → Needed t ids g
  needed-own _ zeroth = zeroth
  needed-own _ (asked g i) = (roster-least t ids r w).needed g i
  needed-own _ (component g c cs n e i) = component g c cs (needed-own g n) e i

  not-refused : (k : ℕ) → Refused t r k → ⊥
  not-refused k (inl q) = unreadable q.1
    where
      unreadable : Unreadable t r → ⊥
      unreadable (none e) = ((walk-refuses t ids).succeeds r w).0 (none e)
      unreadable (outside g i l) = omega (arith, (roster_in_order t ids r w).glyphs g i)
      unreadable (outline g n e) = ((walk-refuses t ids).succeeds r w).0 (outline g (needed-own g n) e)
  not-refused k (inr q) = ((walk-refuses t ids).succeeds r w).1 (q.1.0, q.1.1, q.1.2, λ g i. needed-own g (q.1.3 g i))

  firsts-own : firsts (0 ∷ []) r ≡ r
  firsts-own = go r (roster_in_order t ids r w).once (closure-roster t ids r w).first (closure-roster t ids r w).zeroth
    where
      go : (r : List ℕ) → Once r → get_or r 0 0 ≡ 0 → In 0 r → firsts (0 ∷ []) r ≡ r
      go [] o z i = clash i refl
      go (x ∷ r) o z i =
          subst (λ (x : ℕ). Once (x ∷ r) → firsts (0 ∷ []) (x ∷ r) ≡ x ∷ r) (sym z)
          (λ o. ap (λ (l : List ℕ). firsts l r) (numbered_in (0 ∷ []) 0 (in_here 0 [])) ∙ firsts-all (0 ∷ []) r o) o

  pub closure-own : closure t r ≡ ok r
  closure-own = go (closure t r) refl
    where
      go : (m : Res (List ℕ)) → closure t r ≡ m → m ≡ ok r
      go (refuse k) e = absurd (not-refused k ((walk-refuses t r).refuses k e))
      go (ok s) e =
          let n = roster_in_order t r s e in
          let rest = n.in_order.0 in
          let is : s ≡ r ++ rest = n.in_order.1 ∙ ap (λ (l : List ℕ). l ++ rest) firsts-own in
          let held : (x : ℕ) → In x rest → In x r = λ x i.
          (roster-least t ids r w).kept x (needed-own x ((roster-least t r s e).needed x (subst (In x) (sym is) (in_right x r rest i)))) in
          ap (λ (l : List ℕ). ok l) (is ∙ ap (λ (l : List ℕ). r ++ l) (none_more r rest (subst Once is n.once) held) ∙ append-nil r)

cut-own : (t : Tables) (ids : List ℕ) (c : CutFont) → cut_tables t ids ≡ ok c → cut_tables t c.roster ≡ cut_tables t ids
unfolding cut_tables
cut-own t ids c e =
    let w = (cut_inv t ids c e).taken.walk in
    ap {A = Res (List ℕ)} {B = Res CutFont} (λ m. m >>= λ r. rewrite t r) (closure-own t ids c.roster w ∙ sym w)

made-own : (t : Tables) (ids : List ℕ) (c : CutFont) → cut_tables t ids ≡ ok c → made t c.roster ≡ made t ids
unfolding made
made-own t ids c e =
    ap {A = Res CutFont} {B = Res Made}
    (λ m. m >>= λ c. need 5 (leb (length (file (entries c.tables))) 4294967295) >> ok (made_of c))
    (cut-own t ids c e)

pub own_glyphs : OwnGlyphs
unfolding ready
own_glyphs first small f small_file own room enough =
    let s = won first f.success in
    let t = s.tables in
    let c = s.font in
    let r = roster_of first in
    let once = subst Once (sym s.roster) (roster_in_order t first.ids c.roster (cut_inv t first.ids c s.cuts).taken.walk).once in
    let kept : (answer first).kept ≡ length r = ap (λ (a : Answer). a.kept) s.answers ∙ ap length (sym s.roster) in
    let direct : Input = record { font = first.font; index = first.index; ids = r; scratch = first.scratch; out = small.out } in
    let makes : made t r ≡ ok (made_of c) = ap (made t) s.roster ∙ made-own t first.ids c s.cuts ∙ s.makes in
    let space = le-leb _ (length small.out) (subst (λ (a : Answer). a.length ≤ length small.out) s.answers room) in
    let delivers = answer_ok direct t s.passed (made_of c) makes space in
    let same =
    cutting_twice first small direct r f
    (record {
      kept = all_own r r (λ x i. i);
      small_file = small_file;
      new_numbers = own ∙ ap (counting 0) kept ∙ sym (places-all [] r once);
      original = (refl, refl);
      old_numbers = refl;
      room = refl;
      scratch = (enough, scratch_of first t s.passed);
    }) in (
      same.answers ∙ delivers ∙ sym s.answers,
      same.files (ap (λ (a : Answer). a.refusal) delivers) ∙ file-ok direct t s.passed (made_of c) makes space ∙ sym s.file,
    )
