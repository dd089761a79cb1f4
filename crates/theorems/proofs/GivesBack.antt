-- A call succeeds, or its output is too short, or an earlier step refuses, before the scratch was touched or after: each case computes.
use mathlib.Core.Path.{◌≡◌, refl, sym, ap, ap₂, ◌∙◌, subst}
use mathlib.Core.Bool.{Bool, false}
use mathlib.Core.List.{List, ◌++◌}
use Prim.Native.Nat.{ℕ, ◌*◌, ◌-◌, ◌≤◌, ◌<◌}
use native.Mathlib.Omega.{arith}
use lib.ListN.{length, drop, replicate}
use borrow.Author.Tests.{le-leb, lt-leb}
use Rattle.model.specs.Res.{Res, refuse, ok, pick, ◌>>=◌}
use Rattle.model.specs.Bytes.{Bytes, over}
use Rattle.model.specs.Font.{Tables}
use Rattle.model.specs.Cut.{count}
use Rattle.model.specs.Call.{Input, Answer, Made, answer, out_from, out_after, places_from, scratch_from, scratch_after, ready, made, delivered, last}
use Rattle.model.proofs.Res.{bind_ok}
use Rattle.model.proofs.Closure.{closure-roster}
use Rattle.theorems.specs.GivesBack.{Success, Refusal, Leaves, success, early, late, GivesBack}
use Rattle.model.proofs.Chosen.{pigeons}
use Rattle.model.proofs.Members.{in_under}
use Rattle.theorems.proofs.Pieces.{cut_inv}
use Rattle.theorems.proofs.Refusals.{whole, Result, done, too_long, refusal, result, number}
use Rattle.theorems.proofs.Calls.{out-ok, scratch-ok, made_of, Won, won}

succeeds : (x : Input) (s : Won x) → Success x s.tables
succeeds x s =
    let m = made_of s.font in
    let held = le-leb (length m.bytes) (length x.out) s.room in
    let t = s.tables in
    let r = closure-roster t x.ids m.roster (cut_inv t x.ids s.font s.cuts).taken.walk in
    record {
      cut = s.makes ∙ ap₂ (λ (r : List ℕ) (b : Bytes). ok (record { roster = r; bytes = b })) (sym s.roster) (sym s.file);
      file_length = ap (λ (a : Answer). a.length) s.answers ∙ ap length (sym s.file);
      number = ap (λ (a : Answer). a.kept) s.answers ∙ ap length (sym s.roster);
      most = subst (λ (l : List ℕ). length l ≤ count t) (sym s.roster) (pigeons (count t) m.roster r.once (in_under (count t) m.roster r.within));
      out = out-ok x t s.passed m s.makes held ∙ ap (λ (b : Bytes). over b x.out) (sym s.file);
      scratch =
          scratch-ok x t s.passed m s.makes held
          ∙ ap (λ (r : List ℕ). (r ++ replicate (4 * count t - length r) 0) ++ drop (4 * count t) x.scratch) (sym s.roster);
    }

module _ (x : Input) where
  -- the output is too short
  short : (t : Tables) (m : Made) → ready x ≡ ok t → made t x.ids ≡ ok m → length x.out < length m.bytes → answer x ≡ delivered false m → Leaves x
  unfolding out_after scratch_after
  short t m p i l q =
      let places = 4 * count t in
      let test = lt-leb (length m.bytes) (length x.out) l in
      let six = ap (λ (a : Answer). a.refusal) q in
      late t (omega (arith, six)) p
      (record {
        none = ap (λ (a : Answer). a.kept) q;
        zero = λ no. absurd (no six);
        needed = λ _. subst (λ (a : Answer). length x.out < a.length) (sym q) l;
        out =
            ap (λ (r : Res Tables). out_from x.out (r >>= λ t. made t x.ids)) p
            ∙ ap (out_from x.out) i
            ∙ ap (λ (t : Bool). pick t (over m.bytes x.out) x.out) test;
      })
      (ap (scratch_from x) p
      ∙ ap (λ (r : Res Made). places_from places (length x.out) r ++ drop places x.scratch) i
      ∙ ap (λ (t : Bool). pick t (m.roster ++ replicate (places - length m.roster) 0) (replicate places 0) ++ drop places x.scratch) test)

  -- an earlier step refuses
  stopped : (k : ℕ) → whole x ≡ refuse k → Leaves x
  unfolding answer out_after scratch_after
  stopped k e = go (ready x) refl
    where
      q : answer x ≡ record { refusal = k; kept = 0; length = 0 }
      q = ap (last (length x.out)) e

      leaves : Refusal x
      leaves =
          record {
            none = ap (λ (a : Answer). a.kept) q;
            zero = λ _. ap (λ (a : Answer). a.length) q;
            needed = λ six. absurd ((number x k e).2 (sym (ap (λ (a : Answer). a.refusal) q) ∙ six));
            out = ap (out_from x.out) e;
          }

      some : 1 ≤ (answer x).refusal
      some = omega (arith, ap (λ (a : Answer). a.refusal) q, (number x k e).0)

      go : (r : Res Tables) → ready x ≡ r → Leaves x
      go (refuse j) p =
          let is : (answer x).refusal ≡ j = ap (λ (r : Res Tables). (last (length x.out) (r >>= λ t. made t x.ids)).refusal) p in
          early some (p ∙ ap refuse (sym is)) leaves (ap (scratch_from x) p)
      go (ok t) p =
          late t some p leaves
          (ap (scratch_from x) p
          ∙ ap (λ (r : Res Made). places_from (4 * count t) (length x.out) r ++ drop (4 * count t) x.scratch) (sym (bind_ok _ _ p refl) ∙ e))

pub gives_back : GivesBack
gives_back x = go (result x)
  where
    go : Result x → Leaves x
    go (done t m p i l q) =
        let zero = ap (λ (a : Answer). a.refusal) q in
        let s = won x zero in
        success s.tables zero s.passed (succeeds x s)
    go (too_long t m p i l q) = short x t m p i l q
    go (refusal k e) = stopped x k e
