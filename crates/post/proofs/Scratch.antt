-- The scratch when post is measured: the roster and what lies behind are as they were, and what is between is what `write` goes by.
use mathlib.Core.Path.{◌≡◌, refl, sym, ap, ◌∙◌}
use mathlib.Core.Bool.{true}
use mathlib.Core.List.{List, []}
use Prim.Native.Nat.{ℕ, ◌+◌, ◌*◌, ◌≤◌}
use native.Mathlib.Omega.{arith}
use lib.ListN.{length, take}
use lib.Seq.{length-take-le, take-take}
use Rattle.model.specs.Res.{refuse, ok, map_res, is_ok, value_of}
use Rattle.model.specs.Bytes.{word32}
use Rattle.model.specs.Post.{cut_post}
use Rattle.model.proofs.Res.{true_false, map_inv}
use Rattle.std.specs.Prelude.{Ok, Err}
use Rattle.answer.specs.declared.Refusal.{Refusal}
use Rattle.answer.specs.Answers.{number}
use Rattle.post.specs.Post.{Named, Measured, post_bytes}
use Rattle.post.specs.Found.{Sought}
use Rattle.post.proofs.Cut.{named-cut}
use Rattle.post.proofs.Grow.{length-post_bytes}
use Rattle.post.proofs.Found.{behind-roster}

pub measured-refused : (b : List ℕ) (s : List ℕ) (n kept : ℕ) (r : Refusal) → cut_post b (take kept s) ≡ refuse (number r) → Measured b s n kept (Err r) s
measured-refused b s n kept r e =
    record { size = sym (ap (map_res length) e); same_length = refl; front = refl; back = refl; index = λ t. true_false (sym t); unnamed = λ _. refl }

pub measured-copied : (b : List ℕ) (s : List ℕ) (n kept : ℕ) → cut_post b (take kept s) ≡ ok b → (word32 b 0 ≡ 0x00020000 → ⊥) → Measured b s n kept (Ok (length b)) s
measured-copied b s n kept e v =
    record { size = sym (ap (map_res length) e); same_length = refl; front = refl; back = refl; index = λ t. record { index = λ w. absurd (v w) }; unnamed = λ _. refl }

-- the names found, and the rest of the table
pub measured-cut : (b s after : List ℕ) (n kept r : ℕ) → kept ≤ n → 4 * n ≤ length s → Named b (take kept s) → Sought b n kept s r after
    → Measured b s n kept (Ok (34 + 2 * kept + r)) after
measured-cut b s after n kept r k h m x =
    let l : length (take kept s) ≡ kept = length-take-le kept s (omega arith) in
    let new : 34 + 2 * kept + r ≡ length (post_bytes b (take kept s)) = omega (arith, x.size, length-post_bytes b (take kept s) (omega (arith, m.array))) in
    record {
      size = ap ok new ∙ sym (ap (map_res length) (named-cut b (take kept s) m));
      same_length = x.behind.same_length;
      front = x.behind.front;
      back = x.behind.back;
      index = λ t. record { index = λ w. rw (behind-roster n n s after x.behind kept (omega arith)) x.located };
      unnamed = λ v. absurd (v m.version);
    }

-- what `measure` ensures is what `write` requires, of the scratch as it is then
module _ (b s after : List ℕ) (n kept l : ℕ) (h : kept ≤ n) (m : Measured b s n kept (Ok l) after) where
  pub measured-roster : take kept after ≡ take kept s
  measured-roster =
      sym (take-take kept (2 * n) after (omega arith)) ∙ ap (take kept) m.front ∙ take-take kept (2 * n) s (omega arith)

  measured-new : (new : List ℕ) × (cut_post b (take kept after) ≡ ok new) × (length new ≡ l)
  measured-new =
      map_inv length (cut_post b (take kept after)) l
      (ap (λ (ids : List ℕ). map_res length (cut_post b ids)) measured-roster ∙ sym m.size)

  pub measured-passes : is_ok (cut_post b (take kept after)) ≡ true
  measured-passes = ap is_ok measured-new.1

  pub measured-length : length (value_of [] (cut_post b (take kept after))) ≡ l
  measured-length = ap (λ r. length (value_of [] r)) measured-new.1 ∙ measured-new.2
