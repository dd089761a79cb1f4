-- The requests: those asked so far made the roster, and the others asked of it give the whole.
use Rattle.std.proofs.Common.{◌≡◌, refl, sym, ap, ◌∙◌, subst, List, [], ◌∷◌, reverse, ℕ, ◌+◌, ◌*◌, ◌<◌, add-one, length, get_or, drop, drop-cons, leb, Result, Ok, Err}
use Rattle.model.specs.Res.{Res, refuse, ok, ◌>>=◌}
use Rattle.model.specs.Walk.{Walk, going, refused, numbered, full, seed}
use Rattle.model.proofs.Members.{by}
use Rattle.remapper.specs.State.{Walking, Numbering, asked, Counts, Asked}
use Rattle.answer.specs.declared.Refusal.{Refusal}
use Rattle.closure.specs.Turns.{asks, Numbered}

-- the walk starts where they end
abbrev pub begun : Res (List ℕ) → Walk
begun (ok r) = going r (reverse r)
begun (refuse k) = refused k

pub seed-asks : (n : ℕ) (r qs : List ℕ) → seed n r qs ≡ begun (asks n r qs)
seed-asks n r [] = refl
seed-asks n r (q ∷ qs) = by (leb n q) (λ e. rw e) (λ e. by (full r q) (λ k. rw (e, k)) (λ k. rw (e, k) (seed-asks n (numbered r q) qs)))

-- i of them are asked
pub record Asking (n : ℕ) (ids s₀ s : List ℕ) (count i : ℕ) : Type 0 where
  pub past : drop (4 * n) s ≡ drop (4 * n) s₀
  pub size : length s ≡ length s₀
  pub held : Numbering n s count
  pub left : asks n held.0 (drop i ids) ≡ asks n (0 ∷ []) ids

pub asking_start : (n : ℕ) (ids s : List ℕ) → Walking n s (0 ∷ []) [] → Asking n ids s s 1 0
asking_start n ids s v = record { past = refl; size = refl; held = (0 ∷ [], v, refl); left = refl }

module _ (n : ℕ) (ids s₀ s : List ℕ) (count i : ℕ) (v : Asking n ids s₀ s count i) (h : i < length ids) (s' : List ℕ) where
  more : asks n v.held.0 (get_or ids i 0 ∷ drop (i + 1) ids) ≡ asks n (0 ∷ []) ids
  more = ap (asks n v.held.0) (sym (drop-cons ids i 0 h ∙ ap {B = List ℕ} (λ (x : ℕ). get_or ids i 0 ∷ drop x ids) (sym (add-one i)))) ∙ v.left

  at : (a : Result ℕ Refusal) → Asked n s s' (get_or ids i 0) count a → Counts n s' a (asked n v.held.0 (get_or ids i 0))
  at a t = t.counts v.held.0 v.held.1 v.held.2

  pub asking_more : (k : ℕ) → Asked n s s' (get_or ids i 0) count (Ok k) → length s' ≡ length s → Asking n ids s₀ s' k (i + 1)
  asking_more k t e = go (asked n v.held.0 (get_or ids i 0)) (at (Ok k) t) more
    where
      go : (m : Res (List ℕ)) → Counts n s' (Ok k) m → (m >>= λ (r : List ℕ). asks n r (drop (i + 1) ids)) ≡ asks n (0 ∷ []) ids → Asking n ids s₀ s' k (i + 1)
      go (ok r) c q = record { past = t.past ∙ v.past; size = e ∙ v.size; held = (r, c.0, c.1); left = q }
      go (refuse j) c q = absurd c

  pub asking_no : (e : Refusal) → Asked n s s' (get_or ids i 0) count (Err e) → Numbered n ids s₀ s' (Err e)
  asking_no e t = record { past = t.past ∙ v.past; counts = go (asked n v.held.0 (get_or ids i 0)) (at (Err e) t) more }
    where
      go : (m : Res (List ℕ)) → Counts n s' (Err e) m → (m >>= λ (r : List ℕ). asks n r (drop (i + 1) ids)) ≡ asks n (0 ∷ []) ids → Counts n s' (Err e) (asks n (0 ∷ []) ids)
      go (ok r) c q = absurd c
      go (refuse j) c q = subst (Counts n s' (Err e)) q c
