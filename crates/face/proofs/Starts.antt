-- Step 1, by the kind found: what the code does at each kind is the model's.
use mathlib.Core.Path.{◌≡◌}
use mathlib.Core.Bool.{true, false}
use Prim.Native.Nat.{ℕ, ◌+◌, ◌*◌}
use lib.Dec.{eqb}
use borrow.Author.Tests.{eqb-true}
use Rattle.std.specs.Prelude.{Option, Some, None}
use Rattle.model.specs.Res.{Res, refuse, ok, need, ◌>>◌}
use Rattle.model.specs.Bytes.{Bytes, word32, holds}
use Rattle.model.specs.Font.{face_start, face_at, outlines, TRUETYPE, APPLE, OTTO, TTCF}
use Rattle.model.proofs.Members.{by}
use Rattle.face.specs.declared.Kind.{Kind}
use Rattle.face.specs.declared.Kind.TheVariants.{TrueType, Cff, Collection}
use Rattle.face.specs.Opening.{kind_at}

-- no kind with outlines is OTTO
not-otto : (k : ℕ) → outlines k ≡ true → eqb k OTTO ≡ false
not-otto k h = by (eqb k TRUETYPE) (λ e. rw (eqb-true k TRUETYPE e)) (λ e. rw (eqb-true k APPLE (rw e at h)))

module _ (b : Bytes) (at : ℕ) where
  abbrev face_by : Option Kind → Res ℕ
  face_by None = refuse 3
  face_by (Some TrueType) = ok at
  face_by (Some Cff) = refuse 2
  face_by (Some Collection) = refuse 3

  pub face_at_by_kind : face_at b at ≡ face_by (kind_at b at)
  unfolding face_at
  face_at_by_kind =
      by (holds b at 4)
      (λ h. rw h
      (by (outlines (word32 b at))
      (λ o. rw (o, not-otto (word32 b at) o))
      (λ o. rw o (by (eqb (word32 b at) OTTO) (λ c. rw c) (λ c. rw c (by (eqb (word32 b at) TTCF) (λ d. rw d) (λ d. rw d)))))))
      (λ h. rw h)

abbrev pub start_by : Bytes → ℕ → Option Kind → Res ℕ
start_by b i None = refuse 1
start_by b i (Some TrueType) = ok 0
start_by b i (Some Cff) = refuse 2
start_by b i (Some Collection) = need 3 (holds b (12 + 4 * i) 4) >> face_at b (word32 b (12 + 4 * i))

pub face_start_by_kind : (b : Bytes) (i : ℕ) → face_start b i ≡ start_by b i (kind_at b 0)
unfolding face_start
face_start_by_kind b i =
    by (holds b 0 4)
    (λ h. rw h
    (by (outlines (word32 b 0))
    (λ o. rw o)
    (λ o. rw o (by (eqb (word32 b 0) OTTO) (λ c. rw c) (λ c. rw c (by (eqb (word32 b 0) TTCF) (λ d. rw d) (λ d. rw d)))))))
    (λ h. rw h)
