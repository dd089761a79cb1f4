-- No table is longer than the planned file: a table that is there lies before the layout's end.
use mathlib.Core.Path.{◌≡◌, refl, sym, ◌∙◌}
use mathlib.Core.Bool.{true, false}
use mathlib.Core.Option.{Option, none, some}
use mathlib.Core.List.{List}
use Prim.Native.Nat.{ℕ, zero, suc, ◌≤◌, ◌<◌}
use native.Mathlib.Omega.{arith}
use lib.Dec.{leb}
use lib.ListN.{length, get_or}
use borrow.Author.Tests.{leb-true, leb-false}
use Rattle.model.specs.Bytes.{Bytes}
use Rattle.model.specs.Font.{Tables}
use Rattle.model.specs.File.{entries, file}
use Rattle.model.proofs.Res.{true_false}
use Rattle.model.proofs.Members.{by}
use Rattle.places.specs.declared.Tables.{Tables as Places}
use Rattle.places.specs.Places.{place_at, present_at}
use Rattle.construct.specs.Construct.{raised, count_to, start_at, directory_length, laid_out}
use Rattle.plan.specs.declared.Plan.{Plan}
use Rattle.plan.specs.Steps.{renewed, tables_of, there?, bytes_in}
use Rattle.plan.specs.Sources.{Found}
use Rattle.tables.proofs.Standing.{file-length}

module _ (d : ℕ) (t : Places) where
  start-next : (k : ℕ) → start_at d t k ≤ start_at d t (suc k)
  unfolding start_at
  start-next k = omega arith

  start-grows : (n k : ℕ) → k ≤ n → start_at d t k ≤ start_at d t n
  start-grows zero k h = omega (arith, none_before k h)
    where
      none_before : (k : ℕ) → k ≤ 0 → start_at d t k ≤ start_at d t 0
      none_before zero h = omega arith
      none_before (suc k) h = absurd (omega arith)
  start-grows (suc n) k h =
      by (leb k n)
      (λ e. omega (arith, start-grows n k (leb-true k n e), start-next n))
      (λ e. same (suc n) k (omega (arith, leb-false k n e)))
    where
      same : (n k : ℕ) → k ≡ n → start_at d t k ≤ start_at d t n
      same n k e = rw e (omega arith)

  -- a table that is there ends before the next one starts
  table_ends : (k : ℕ) → present_at t k ≡ true → (place_at t k).length ≤ start_at d t (suc k)
  unfolding start_at raised
  table_ends k e = rw e (omega arith)

absent-empty : (o : Option Bytes) → there? o ≡ false → length (bytes_in o) ≡ 0
absent-empty none e = refl
absent-empty (some b) e = true_false e

pub file-holds : (t : Tables) (r : List ℕ) (p : Plan) → Found t r p → 52 ≤ length t.head → (k : ℕ) → k < 11 → (place_at p.sized k).length ≤ length (file (entries (renewed t r)))
unfolding laid_out
file-holds t r p f long k h =
    let d = directory_length (count_to p.sized 11) in
    let o = get_or (tables_of (renewed t r)) k none in
    by (present_at p.sized k)
    (λ e. omega (arith, file-length t r p f long, table_ends d p.sized k e, start-grows d p.sized 11 (suc k) h))
    (λ e. omega (arith, (f.sized k h).1, absent-empty o (sym (f.sized k h).0 ∙ e)))
