-- Chains of names' places: a walk's step adds one, other walks leave it alone, and four that meet are one list of names.
use mathlib.Core.Path.{◌≡◌, refl, sym, ap₂, ◌∙◌}
use mathlib.Core.Logic.{◌⊎◌, inl, inr, ⊎_elim}
use mathlib.Core.List.{List}
use Prim.Native.Nat.{ℕ, zero, suc, ◌+◌, ◌*◌, ◌-◌, ◌%◌, ◌/◌, ◌≤◌, ◌<◌}
use native.Mathlib.Omega.{arith}
use native.Mathlib.Nat.{zero-add, mul-le-mul_right, div-mul-le_self}
use lib.Dec.{ltb, eqb}
use lib.ListN.{length, get_or, set, length-set}
use lib.Seq.{get_or-set_same, get_or-set_other}
use borrow.Author.Tests.{ltb-true, ltb-false, eqb-true, eqb-false}
use Rattle.model.specs.Bytes.{Bytes, word16}
use Rattle.model.proofs.Members.{by}
use Rattle.post.specs.Post.{size_at, walked, Stands, place_in, with_place, ChainAt, Chained}
use Rattle.post.specs.Chains.{Chain, Stepped, Went, Spaced, Four, Begun, Joined, Head, Headed, Heads, Led, Arrived, Rounded}
use Rattle.std.specs.Prelude.{Option, Some, None, OnSome}
use Rattle.post.specs.declared.chains.Lane.{Lane}
use Rattle.post.specs.declared.chains.Starts.{Starts}
use Rattle.post.specs.declared.chains.Lanes.{Lanes}
use Rattle.post.proofs.Walk.{walked-turn, walked_stop, size-whole, stands-first, stands-walked}
use Rattle.post.proofs.Held.{length-with_place, place_same}

-- so many names, and so many more
pub walked-add : (b : Bytes) (p m n : ℕ) → walked b p (m + n) ≡ walked b (walked b p m) n
unfolding walked
walked-add b p zero n = rw (zero-add n)
walked-add b p (suc m) n =
    let e : suc m + n ≡ suc (m + n) = omega arith in
    by (eqb (size_at b p) 0)
    (λ z. let o = eqb-true (size_at b p) 0 z in
    walked_stop b p (suc m + n) o ∙ sym (rw (walked_stop b p (suc m) o) (walked_stop b p n o)))
    (λ z. let o : 0 < size_at b p = omega (arith, eqb-false (size_at b p) 0 z) in
    rw (e, walked-turn b p (m + n) o, walked-turn b p m o) (walked-add b (p + 1 + size_at b p) m n))

walked_one : (b : Bytes) (base n p : ℕ) → walked b base n ≡ p → 0 < size_at b p → walked b base (n + 1) ≡ p + 1 + size_at b p
unfolding walked
walked_one b base n p e h = walked-add b base n 1 ∙ rw e (walked-turn b p 0 h)

-- a chain is what it is by its own numbers only
pub chain-kept : (b : Bytes) (room after : List ℕ) (base at : ℕ) (l : Lane) → Chain b room base at l
    → ((x : ℕ) → at ≤ x → x < at + l.n → get_or after x 0 ≡ get_or room x 0) → Chain b after base at l
chain-kept b room after base at l c k =
    record {
      ahead = c.ahead;
      held = λ j h. rw (k (at + j) (omega arith) (omega arith)) (c.held j h);
      here = c.here;
    }

module _ (b : Bytes) (room : List ℕ) (base at : ℕ) (l : Lane) (c : Chain b room base at l) (h : l.p ≤ length b) (fits : at + l.n < length room) where
  held_more : (j : ℕ) → j < l.n + 1 → base + get_or (set room (at + l.n) (l.p - base)) (at + j) 0 ≡ walked b base j
  held_more j k =
      by (ltb j l.n)
      (λ t. let lt = ltb-true j l.n t in
      rw (get_or-set_other room (at + l.n) (at + j) (l.p - base) 0 (λ e. omega arith)) (c.held j lt))
      (λ t. let e : j ≡ l.n = omega (arith, ltb-false j l.n t) in
      rw (e, get_or-set_same room (at + l.n) (l.p - base) 0 fits) (let w = c.here h in omega (arith, c.ahead, w)))

  pub step-more : (r : Lane) → r.n ≡ l.n + 1 → base ≤ r.p → (r.p ≤ length b → walked b base (l.n + 1) ≡ r.p)
      → Stepped b base at l room r (set room (at + l.n) (l.p - base))
  step-more r e a w =
      record {
        chain = record { ahead = a; held = λ j k. held_more j (omega arith); here = λ i. rw e (w i) };
        more = omega arith;
        grown = omega arith;
        others = λ x n. get_or-set_other room (at + l.n) x (l.p - base) 0 n;
        same_length = length-set room (at + l.n) (l.p - base);
      }

  pub step-name : 0 < get_or b l.p 0 → l.p < length b → l.p + 1 + get_or b l.p 0 ≤ length b → walked b base (l.n + 1) ≡ l.p + 1 + get_or b l.p 0
  step-name s i w =
      let z : size_at b l.p ≡ get_or b l.p 0 = size-whole b l.p i (omega arith) in
      rw (← z) (walked_one b base l.n l.p (c.here h) (omega arith))

pub step_rests : (b : Bytes) (room : List ℕ) (base at : ℕ) (l : Lane) → Chain b room base at l → Stepped b base at l room l room
step_rests b room base at l c = record { chain = c; more = omega arith; grown = omega arith; others = λ x n. refl; same_length = refl }

-- one walk's step and another's chain
pub step_keeps : (b : Bytes) (base at base' at' : ℕ) (l r l' : Lane) (room after : List ℕ) → Stepped b base at l room r after
    → (at + l.n < at') ⊎ (at' + l'.n ≤ at + l.n) → Chain b room base' at' l' → Chain b after base' at' l'
step_keeps b base at base' at' l r l' room after s d c =
    chain-kept b room after base' at' l' c (λ x i k. s.others x (λ e. ⊎_elim (λ w. omega arith) (λ w. omega arith) d))

-- a walk that has not begun
pub chain-start : (b : Bytes) (room : List ℕ) (base at : ℕ) (l : Lane) → l.p ≡ base → l.n ≡ 0 → Chain b room base at l
unfolding walked
chain-start b room base at l e z =
    record { ahead = omega arith; held = λ j h. absurd (omega arith); here = λ i. rw (z, e) }

-- four walks side by side, each step kept by the three others
module _ (b : Bytes) (at q : ℕ) (s : Starts) (turns : ℕ) (l₁ l₂ l₃ l₄ : Lane) (room : List ℕ) (f : Four b room at q s turns l₁ l₂ l₃ l₄) (lt : turns < q) where
  module _ (r₁ : Lane) (room₁ : List ℕ) (s₁ : Stepped b s.a at l₁ room r₁ room₁) where
    pub second-kept : Chain b room₁ s.b (at + q) l₂
    second-kept = step_keeps b s.a at s.b (at + q) l₁ r₁ l₂ room room₁ s₁ (inl (omega (arith, f.few₁))) f.chain₂

    module _ (r₂ : Lane) (room₂ : List ℕ) (s₂ : Stepped b s.b (at + q) l₂ room₁ r₂ room₂) where
      pub third-kept : Chain b room₂ s.c (at + 2 * q) l₃
      third-kept =
          step_keeps b s.b (at + q) s.c (at + 2 * q) l₂ r₂ l₃ room₁ room₂ s₂ (inl (omega (arith, f.few₂)))
          (step_keeps b s.a at s.c (at + 2 * q) l₁ r₁ l₃ room room₁ s₁ (inl (omega (arith, f.few₁))) f.chain₃)

      module _ (r₃ : Lane) (room₃ : List ℕ) (s₃ : Stepped b s.c (at + 2 * q) l₃ room₂ r₃ room₃) where
        pub fourth-kept : Chain b room₃ s.d (at + 3 * q) l₄
        fourth-kept =
            step_keeps b s.c (at + 2 * q) s.d (at + 3 * q) l₃ r₃ l₄ room₂ room₃ s₃ (inl (omega (arith, f.few₃)))
            (step_keeps b s.b (at + q) s.d (at + 3 * q) l₂ r₂ l₄ room₁ room₂ s₂ (inl (omega (arith, f.few₂)))
            (step_keeps b s.a at s.d (at + 3 * q) l₁ r₁ l₄ room room₁ s₁ (inl (omega (arith, f.few₁))) f.chain₄))

        module _ (r₄ : Lane) (room₄ : List ℕ) (s₄ : Stepped b s.d (at + 3 * q) l₄ room₃ r₄ room₄) where
          pub four-turn : Four b room₄ at q s (turns + 1) r₁ r₂ r₃ r₄
          four-turn =
              record {
                chain₁ = step_keeps b s.d (at + 3 * q) s.a at l₄ r₄ r₁ room₃ room₄ s₄ (inr (omega (arith, f.few₁, s₁.more)))
                    (step_keeps b s.c (at + 2 * q) s.a at l₃ r₃ r₁ room₂ room₃ s₃ (inr (omega (arith, f.few₁, s₁.more)))
                    (step_keeps b s.b (at + q) s.a at l₂ r₂ r₁ room₁ room₂ s₂ (inr (omega (arith, f.few₁, s₁.more))) s₁.chain));
                chain₂ = step_keeps b s.d (at + 3 * q) s.b (at + q) l₄ r₄ r₂ room₃ room₄ s₄ (inr (omega (arith, f.few₂, s₂.more)))
                    (step_keeps b s.c (at + 2 * q) s.b (at + q) l₃ r₃ r₂ room₂ room₃ s₃ (inr (omega (arith, f.few₂, s₂.more))) s₂.chain);
                chain₃ = step_keeps b s.d (at + 3 * q) s.c (at + 2 * q) l₄ r₄ r₃ room₃ room₄ s₄ (inr (omega (arith, f.few₃, s₃.more))) s₃.chain;
                chain₄ = s₄.chain;
                few₁ = omega (arith, f.few₁, s₁.more);
                few₂ = omega (arith, f.few₂, s₂.more);
                few₃ = omega (arith, f.few₃, s₃.more);
                few₄ = omega (arith, f.few₄, s₄.more);
              }

          four-front : (x : ℕ) → x < at → get_or room₄ x 0 ≡ get_or room x 0
          four-front x h =
              s₄.others x (λ e. omega arith) ∙ s₃.others x (λ e. omega arith) ∙ s₂.others x (λ e. omega arith) ∙ s₁.others x (λ e. omega arith)

          four-length : length room₄ ≡ length room
          four-length = s₄.same_length ∙ s₃.same_length ∙ s₂.same_length ∙ s₁.same_length

-- the loop over turns
pub record Going (b : Bytes) (at q : ℕ) (s : Starts) (room₀ room : List ℕ) (l₁ l₂ l₃ l₄ : Lane) (turns : ℕ) : Type 0 where
  pub four : Four b room at q s turns l₁ l₂ l₃ l₄
  pub fits : turns ≤ q
  pub same_length : length room ≡ length room₀
  pub front : (x : ℕ) → x < at → get_or room x 0 ≡ get_or room₀ x 0

pub going-turn : (b : Bytes) (at q : ℕ) (s : Starts) (room₀ room : List ℕ) (l₁ l₂ l₃ l₄ : Lane) (turns : ℕ)
    → Going b at q s room₀ room l₁ l₂ l₃ l₄ turns → turns < q
    → (r₁ r₂ r₃ r₄ : Lane) (room₁ room₂ room₃ room₄ : List ℕ)
    → Stepped b s.a at l₁ room r₁ room₁ → Stepped b s.b (at + q) l₂ room₁ r₂ room₂ → Stepped b s.c (at + 2 * q) l₃ room₂ r₃ room₃
    → Stepped b s.d (at + 3 * q) l₄ room₃ r₄ room₄
    → Going b at q s room₀ room₄ r₁ r₂ r₃ r₄ (turns + 1)
going-turn b at q s room₀ room l₁ l₂ l₃ l₄ turns g lt r₁ r₂ r₃ r₄ room₁ room₂ room₃ room₄ s₁ s₂ s₃ s₄ =
    record {
      four = four-turn b at q s turns l₁ l₂ l₃ l₄ room g.four lt r₁ room₁ s₁ r₂ room₂ s₂ r₃ room₃ s₃ r₄ room₄ s₄;
      fits = omega arith;
      same_length = four-length b at q s turns l₁ l₂ l₃ l₄ room g.four lt r₁ room₁ s₁ r₂ room₂ s₂ r₃ room₃ s₃ r₄ room₄ s₄ ∙ g.same_length;
      front = λ x h. four-front b at q s turns l₁ l₂ l₃ l₄ room g.four lt r₁ room₁ s₁ r₂ room₂ s₂ r₃ room₃ s₃ r₄ room₄ s₄ x h ∙ g.front x h;
    }

pub four_start : (b : Bytes) (at q : ℕ) (s : Starts) (room : List ℕ) (f : Lanes) → Begun s f → Four b room at q s f.turns f.a f.b f.c f.d
four_start b at q s room f g =
    record {
      chain₁ = rw g.at_a (chain-start b room s.a at _ refl refl);
      chain₂ = rw g.at_b (chain-start b room s.b (at + q) _ refl refl);
      chain₃ = rw g.at_c (chain-start b room s.c (at + 2 * q) _ refl refl);
      chain₄ = rw g.at-d (chain-start b room s.d (at + 3 * q) _ refl refl);
      few₁ = rw g.at_a (omega arith);
      few₂ = rw g.at_b (omega arith);
      few₃ = rw g.at_c (omega arith);
      few₄ = rw g.at-d (omega arith);
    }

-- a walk alone
pub record Alone (b : Bytes) (base at q : ℕ) (from : Lane) (room₀ room : List ℕ) (l : Lane) (turns : ℕ) : Type 0 where
  pub chain : Chain b room base at l
  pub few : l.n ≤ turns
  pub fits : turns ≤ q
  pub grown : from.n ≤ l.n
  pub same_length : length room ≡ length room₀
  pub front : (x : ℕ) → x < at → get_or room x 0 ≡ get_or room₀ x 0

pub alone_turn : (b : Bytes) (base at q : ℕ) (from : Lane) (room₀ room after : List ℕ) (l r : Lane) (turns : ℕ)
    → Alone b base at q from room₀ room l turns → turns < q → Stepped b base at l room r after
    → Alone b base at q from room₀ after r (turns + 1)
alone_turn b base at q from room₀ room after l r turns a lt s =
    record {
      chain = s.chain;
      few = omega (arith, a.few, s.more);
      fits = omega arith;
      grown = omega (arith, a.grown, s.grown);
      same_length = s.same_length ∙ a.same_length;
      front = λ x h. s.others x (λ e. omega arith) ∙ a.front x h;
    }

-- heads: a place that is none of a chain's four numbers is not of its head
place_far : (room : List ℕ) (j x v : ℕ) → (x < 2 * j) ⊎ (2 * j + 1 < x) → place_in (set room x v) j ≡ place_in room j
unfolding place_in
place_far room j x v h =
    ap₂ (λ (y z : ℕ). y + 65536 * z)
    (get_or-set_other room x (2 * j) v 0 (λ e. ⊎_elim (λ w. omega arith) (λ w. omega arith) h))
    (get_or-set_other room x (2 * j + 1) v 0 (λ e. ⊎_elim (λ w. omega arith) (λ w. omega arith) h))

beside_place : (room : List ℕ) (j p x : ℕ) → (x < 2 * j) ⊎ (2 * j + 1 < x) → get_or (with_place room j p) x 0 ≡ get_or room x 0
unfolding with_place
beside_place room j p x h =
    get_or-set_other (set room (2 * j) (p % 65536)) (2 * j + 1) x (p / 65536) 0 (λ e. ⊎_elim (λ w. omega arith) (λ w. omega arith) h)
    ∙ get_or-set_other room (2 * j) x (p % 65536) 0 (λ e. ⊎_elim (λ w. omega arith) (λ w. omega arith) h)

pub head-set : (room : List ℕ) (i base first last : ℕ) → 8 + 4 * i ≤ length room
    → Headed i base first last room (set (set (with_place room (2 + 2 * i) base) (6 + 4 * i) first) (7 + 4 * i) last)
head-set room i base first last h =
    let r₁ : List ℕ = with_place room (2 + 2 * i) base in
    let r₂ : List ℕ = set r₁ (6 + 4 * i) first in
    let n₁ : length r₁ ≡ length room = length-with_place room (2 + 2 * i) base in
    let n₂ : length r₂ ≡ length r₁ = length-set r₁ (6 + 4 * i) first in
    record {
      head = record {
        base_at = place_far r₂ (2 + 2 * i) (7 + 4 * i) last (inr (omega arith)) ∙ place_far r₁ (2 + 2 * i) (6 + 4 * i) first (inr (omega arith))
            ∙ place_same room (2 + 2 * i) base (omega arith);
        first-at = get_or-set_other r₂ (7 + 4 * i) (6 + 4 * i) last 0 (λ e. omega arith) ∙ get_or-set_same r₁ (6 + 4 * i) first 0 (omega arith);
        last-at = get_or-set_same r₂ (7 + 4 * i) last 0 (omega arith);
      };
      same_length = length-set r₂ (7 + 4 * i) last ∙ n₂ ∙ n₁;
      front = λ x k. get_or-set_other r₂ (7 + 4 * i) x last 0 (λ e. omega arith) ∙ get_or-set_other r₁ (6 + 4 * i) x first 0 (λ e. omega arith)
          ∙ beside_place room (2 + 2 * i) base x (inl (omega arith));
      back = λ x k. get_or-set_other r₂ (7 + 4 * i) x last 0 (λ e. omega arith) ∙ get_or-set_other r₁ (6 + 4 * i) x first 0 (λ e. omega arith)
          ∙ beside_place room (2 + 2 * i) base x (inr (omega arith));
    }

place-alike : (room after : List ℕ) (i : ℕ) → ((x : ℕ) → 4 + 4 * i ≤ x → x < 8 + 4 * i → get_or after x 0 ≡ get_or room x 0)
    → place_in after (2 + 2 * i) ≡ place_in room (2 + 2 * i)
unfolding place_in
place-alike room after i k = ap₂ (λ (y z : ℕ). y + 65536 * z) (k (2 * (2 + 2 * i)) (omega arith) (omega arith)) (k (2 * (2 + 2 * i) + 1) (omega arith) (omega arith))

head-kept : (room after : List ℕ) (i base first last : ℕ) → Head room i base first last
    → ((x : ℕ) → 4 + 4 * i ≤ x → x < 8 + 4 * i → get_or after x 0 ≡ get_or room x 0) → Head after i base first last
head-kept room after i base first last h k =
    record {
      base_at = place-alike room after i k ∙ h.base_at;
      first-at = k (6 + 4 * i) (omega arith) (omega arith) ∙ h.first-at;
      last-at = k (7 + 4 * i) (omega arith) (omega arith) ∙ h.last-at;
    }

pub heads_set : (i first : ℕ) (s : Starts) (n₁ n₂ n₃ n₄ : ℕ) (room room₁ room₂ room₃ room₄ : List ℕ)
    → Headed i s.a first (n₁ - 1) room room₁ → Headed (i + 1) s.b (first + n₁) (n₂ - 1) room₁ room₂
    → Headed (i + 2) s.c (first + n₁ + n₂) (n₃ - 1) room₂ room₃ → Headed (i + 3) s.d (first + n₁ + n₂ + n₃) (n₄ - 1) room₃ room₄
    → Heads i first s n₁ n₂ n₃ n₄ room room₄
heads_set i first s n₁ n₂ n₃ n₄ room room₁ room₂ room₃ room₄ h₁ h₂ h₃ h₄ =
    record {
      head₁ = head-kept room₁ room₄ i s.a first (n₁ - 1) h₁.head
          (λ x l u. h₄.front x (omega arith) ∙ h₃.front x (omega arith) ∙ h₂.front x (omega arith));
      head₂ = head-kept room₂ room₄ (i + 1) s.b (first + n₁) (n₂ - 1) h₂.head (λ x l u. h₄.front x (omega arith) ∙ h₃.front x (omega arith));
      head₃ = head-kept room₃ room₄ (i + 2) s.c (first + n₁ + n₂) (n₃ - 1) h₃.head (λ x l u. h₄.front x (omega arith));
      head₄ = h₄.head;
      same_length = h₄.same_length ∙ h₃.same_length ∙ h₂.same_length ∙ h₁.same_length;
      front = λ x k. h₄.front x (omega arith) ∙ h₃.front x (omega arith) ∙ h₂.front x (omega arith) ∙ h₁.front x k;
      back = λ x k. h₄.back x (omega arith) ∙ h₃.back x (omega arith) ∙ h₂.back x (omega arith) ∙ h₁.back x (omega arith);
    }

-- a chain with its head is a chain of the index
chain-at : (b : Bytes) (after : List ℕ) (q c i base first at : ℕ) (l : Lane) → Head after i base first (l.n - 1) → Chain b after base at l → 0 < l.n → l.n ≤ q
    → get_or after 1 0 ≡ q → get_or after 2 0 ≡ c → at ≡ 4 + 4 * c + i * q → Stands b base first → ChainAt b after i
chain-at b after q c i base first at l h k some few share number e st =
    record {
      few = rw (h.last-at, share) (omega arith);
      places = λ j le.
          let lt : j < l.n = omega (arith, h.last-at) in
          rw (h.base_at, h.first-at, share, number, ← e, k.held j lt) (stands-walked b base first j st);
    }

-- the four chains are one list of names
module _ (b : Bytes) (q c i turns : ℕ) (room room₁ after : List ℕ) (from : Lane) (s : Starts) (f : Lanes) (d : Lane) (led : Led b room q c i from) (sp : Spaced b s)
    (four : Four b room (4 + 4 * c + i * q) q s turns f.a f.b f.c f.d) (fits : turns ≤ q) (jo : Joined s f) (here : s.a ≡ from.p)
    (w : Went b s.d (4 + 4 * c + (i + 3) * q) q f.d room d room₁) (hs : Heads i from.n s f.a.n f.b.n f.c.n d.n room₁ after) where
  kept-after : (base at : ℕ) (l : Lane) → 4 + 4 * c ≤ at → at + l.n ≤ 4 + 4 * c + (i + 3) * q → Chain b room base at l → Chain b after base at l
  kept-after base at l lo hi k =
      chain-kept b room after base at l k (λ x p r. hs.back x (omega (arith, led.four-more)) ∙ w.front x (omega arith))

  joined_at : (base first : ℕ) (at : ℕ) (l : Lane) → Chain b room base at l → l.p ≤ length b → Stands b base first → Stands b l.p (first + l.n)
  joined_at base first at l k h st = rw (k.here h) at (stands-walked b base first l.n st)

  stands₁ : Stands b s.a from.n
  stands₁ = rw here (led.stands (omega (arith, sp.in_a)))

  stands₂ : Stands b s.b (from.n + f.a.n)
  stands₂ = rw jo.at_b at (joined_at s.a from.n (4 + 4 * c + i * q) f.a four.chain₁ (omega (arith, sp.in_b, jo.at_b)) stands₁)

  stands₃ : Stands b s.c (from.n + f.a.n + f.b.n)
  stands₃ = rw jo.at_c at (joined_at s.b (from.n + f.a.n) (4 + 4 * c + i * q + q) f.b four.chain₂ (omega (arith, sp.in_c, jo.at_c)) stands₂)

  stands₄ : Stands b s.d (from.n + f.a.n + f.b.n + f.c.n)
  stands₄ = rw jo.at-d at (joined_at s.c (from.n + f.a.n + f.b.n) (4 + 4 * c + i * q + 2 * q) f.c four.chain₃ (omega (arith, sp.in_d, jo.at-d)) stands₃)

  share-after : get_or after 1 0 ≡ q
  share-after = hs.front 1 (omega arith) ∙ w.front 1 (omega arith) ∙ led.share

  number-after : get_or after 2 0 ≡ c
  number-after = hs.front 2 (omega arith) ∙ w.front 2 (omega arith) ∙ led.number

  chain₁-at : ChainAt b after i
  chain₁-at = chain-at b after q c i s.a from.n (4 + 4 * c + i * q) f.a hs.head₁
      (kept-after s.a (4 + 4 * c + i * q) f.a (omega arith) (omega (arith, four.few₁)) four.chain₁) jo.some₁ (omega (arith, four.few₁)) share-after number-after refl stands₁

  chain₂-at : ChainAt b after (i + 1)
  chain₂-at = chain-at b after q c (i + 1) s.b (from.n + f.a.n) (4 + 4 * c + i * q + q) f.b hs.head₂
      (kept-after s.b (4 + 4 * c + i * q + q) f.b (omega arith) (omega (arith, four.few₂)) four.chain₂) jo.some₂ (omega (arith, four.few₂)) share-after number-after (omega arith) stands₂

  chain₃-at : ChainAt b after (i + 2)
  chain₃-at = chain-at b after q c (i + 2) s.c (from.n + f.a.n + f.b.n) (4 + 4 * c + i * q + 2 * q) f.c hs.head₃
      (kept-after s.c (4 + 4 * c + i * q + 2 * q) f.c (omega arith) (omega (arith, four.few₃)) four.chain₃) jo.some₃ (omega (arith, four.few₃)) share-after number-after (omega arith) stands₃

  chain₄-at : ChainAt b after (i + 3)
  chain₄-at = chain-at b after q c (i + 3) s.d (from.n + f.a.n + f.b.n + f.c.n) (4 + 4 * c + (i + 3) * q) d hs.head₄
      (chain-kept b room₁ after s.d (4 + 4 * c + (i + 3) * q) d w.chain (λ x p r. hs.back x (omega (arith, led.four-more)))) (omega (arith, jo.some₄, w.grown)) w.few share-after number-after refl stands₄

  pub arrive : from.n + f.a.n + f.b.n + f.c.n + d.n ≤ 65535 → Arrived b q c i from.n room (record { p = d.p; n = from.n + f.a.n + f.b.n + f.c.n + d.n }) after
  arrive small =
      record {
        first-at = hs.head₁.first-at;
        stands = λ h. rw (w.chain.here h) at (stands-walked b s.d (from.n + f.a.n + f.b.n + f.c.n) d.n stands₄);
        small = small;
        chains = λ j lo hi. by (eqb j i)
            (λ t. rw (eqb-true j i t) chain₁-at)
            (λ t₁. by (eqb j (i + 1))
            (λ t. rw (eqb-true j (i + 1) t) chain₂-at)
            (λ t₂. by (eqb j (i + 2))
            (λ t. rw (eqb-true j (i + 2) t) chain₃-at)
            (λ t₃. let e : j ≡ i + 3 = omega (arith, eqb-false j i t₁, eqb-false j (i + 1) t₂, eqb-false j (i + 2) t₃) in rw e chain₄-at)));
        heads_front = λ x h. hs.front x h ∙ w.front x (omega (arith, led.four-more));
        places-front = λ x lo hi. hs.back x (omega (arith, led.four-more)) ∙ w.front x (omega arith);
        same_length = hs.same_length ∙ w.same_length;
      }

-- what was written behind `at` before is no matter in front of it
pub arrived_behind : (b : Bytes) (q c i first : ℕ) (l : Lane) (room room₁ after : List ℕ) → i + 4 ≤ c → Arrived b q c i first room₁ l after
    → ((x : ℕ) → x < 4 + 4 * c + i * q → get_or room₁ x 0 ≡ get_or room x 0) → length room₁ ≡ length room → Arrived b q c i first room l after
arrived_behind b q c i first l room room₁ after four a k same =
    record {
      first-at = a.first-at;
      stands = a.stands;
      small = a.small;
      chains = a.chains;
      heads_front = λ x h. a.heads_front x h ∙ k x (omega arith);
      places-front = λ x lo hi. a.places-front x lo hi ∙ k x hi;
      same_length = a.same_length ∙ same;
    }

-- the chains in front stay when four more are made
chain_stays : (b : Bytes) (q c i j : ℕ) (room after : List ℕ) → j < i → get_or room 1 0 ≡ q → get_or room 2 0 ≡ c
    → ((x : ℕ) → x < 4 + 4 * i → get_or after x 0 ≡ get_or room x 0)
    → ((x : ℕ) → 4 + 4 * c ≤ x → x < 4 + 4 * c + i * q → get_or after x 0 ≡ get_or room x 0) → ChainAt b room j → ChainAt b after j
chain_stays b q c i j room after lt share number heads places h =
    let m = mul-le-mul_right {m = j + 1} {n = i} q (omega arith) in
    record {
      few = rw (heads 1 (omega arith), heads (7 + 4 * j) (omega arith)) h.few;
      places = λ k le.
          let last : k ≤ get_or room (7 + 4 * j) 0 = rw (heads (7 + 4 * j) (omega arith)) at le in
          let few = h.few in
          rw (
            heads 1 (omega arith),
            heads 2 (omega arith),
            place-alike room after j (λ x lo hi. heads x (omega arith)),
            heads (6 + 4 * j) (omega arith),
            places (4 + 4 * get_or room 2 0 + j * get_or room 1 0 + k) (omega arith) (rw (share, number) (omega (arith, share, few))),
          )
          (h.places k last);
    }

-- i chains of c are made
pub record Made (b : Bytes) (q c i : ℕ) (room : List ℕ) : Type 0 where
  pub mark : get_or room 0 0 ≡ 0
  pub share : get_or room 1 0 ≡ q
  pub number : get_or room 2 0 ≡ c
  pub from_first : 0 < i → get_or room 6 0 ≡ 0
  pub chains : (j : ℕ) → j < i → ChainAt b room j

pub made_more : (b : Bytes) (q c i first : ℕ) (l : Lane) (room after : List ℕ) → (i ≡ 0 → first ≡ 0) → Made b q c i room → Arrived b q c i first room l after
    → Made b q c (i + 4) after
made_more b q c i first l room after start m a =
    record {
      mark = a.heads_front 0 (omega arith) ∙ m.mark;
      share = a.heads_front 1 (omega arith) ∙ m.share;
      number = a.heads_front 2 (omega arith) ∙ m.number;
      from_first = λ some. by (eqb i 0)
          (λ t. let e = eqb-true i 0 t in (rw e at a.first-at) ∙ start e)
          (λ t. let h : 0 < i = omega (arith, eqb-false i 0 t) in a.heads_front 6 (omega arith) ∙ m.from_first h);
      chains = λ j h. by (ltb j i)
          (λ t. let lt = ltb-true j i t in chain_stays b q c i j room after lt m.share m.number a.heads_front a.places-front (m.chains j lt))
          (λ t. a.chains j (ltb-false j i t) h);
    }

pub made_all : (b : Bytes) (q c : ℕ) (room : List ℕ) → 8 ≤ c → 4 + 4 * c + c * q ≤ length room → Made b q c c room → (get_or room 0 0 ≡ 0) × Chained b room
made_all b q c room eight long m = (
  m.mark,
  record {
    eight = omega (arith, m.number);
    inside = rw (m.number, m.share) long;
    from_first = m.from_first (omega arith);
    chains = λ i h. m.chains i (omega (arith, m.number));
  },
)

-- the numbers in front of the heads, and each chain's share of what is left behind them
pub marked : (room : List ℕ) (q c : ℕ) → 3 ≤ length room
    → (get_or (set (set (set room 0 0) 1 q) 2 c) 0 0 ≡ 0) × (get_or (set (set (set room 0 0) 1 q) 2 c) 1 0 ≡ q) × (get_or (set (set (set room 0 0) 1 q) 2 c) 2 0 ≡ c)
marked room q c h =
    let r₁ : List ℕ = set room 0 0 in
    let r₂ : List ℕ = set r₁ 1 q in
    let n₁ : length r₁ ≡ length room = length-set room 0 0 in
    let n₂ : length r₂ ≡ length r₁ = length-set r₁ 1 q in (
      get_or-set_other r₂ 2 0 c 0 (λ e. omega arith) ∙ get_or-set_other r₁ 1 0 q 0 (λ e. omega arith) ∙ get_or-set_same room 0 0 0 (omega arith),
      get_or-set_other r₂ 2 1 c 0 (λ e. omega arith) ∙ get_or-set_same r₁ 1 q 0 (omega arith),
      get_or-set_same r₂ 2 c 0 (omega arith),
    )

pub share-fits : (len c : ℕ) → 4 ≤ c → 4 + 4 * c ≤ len → len ≤ 131072
    → (4 + 4 * c + c * ((len - 4 - 4 * c) / c) ≤ len) × ((len - 4 - 4 * c) / c ≤ 32768)
share-fits len c four h short =
    let d = div-mul-le_self (len - 4 - 4 * c) c in
    let m = mul-le-mul_right {m = 4} {n = c} ((len - 4 - 4 * c) / c) four in
    (omega arith, omega arith)

-- a round's part of the way ends within the whole
pub part-inside : (len rounds j : ℕ) → j < rounds → (j + 1) * (len / rounds) ≤ len
part-inside len rounds j h = omega (arith, mul-le-mul_right {m = j + 1} {n = rounds} (len / rounds) (omega arith), div-mul-le_self len rounds)

-- the loop over rounds: those made so far, and what the next one starts from
pub record Rounds (b : Bytes) (q c i : ℕ) (room₀ room : List ℕ) (from : Lane) : Type 0 where
  pub made : Made b q c i room
  pub led : Led b room q c i from
  pub first : i ≡ 0 → from.n ≡ 0
  pub same_length : length room ≡ length room₀

pub rounds_start : (b : Bytes) (q c : ℕ) (room : List ℕ) (l : Lane) → l.p ≡ 34 + 2 * word16 b 32 → l.n ≡ 0 → 4 ≤ c → 4 + 4 * c + c * q ≤ length room
    → length room ≤ 131072 → q ≤ 32768 → get_or room 0 0 ≡ 0 → get_or room 1 0 ≡ q → get_or room 2 0 ≡ c → Rounds b q c 0 room room l
rounds_start b q c room l ep en four long short few mark share number =
    record {
      made = record { mark = mark; share = share; number = number; from_first = λ h. absurd (omega arith); chains = λ j h. absurd (omega arith) };
      led = record {
        stands = λ h. rw (ep, en) (stands-first b);
        small = omega arith;
        four-more = four;
        room_for = long;
        short = short;
        few = few;
        share = share;
        number = number;
      };
      first = λ e. en;
      same_length = refl;
    }

pub rounds_turn : (b : Bytes) (q c i i' : ℕ) (room₀ room after : List ℕ) (from l : Lane) → Rounds b q c i room₀ room from → i' ≡ i + 4 → i + 8 ≤ c
    → Arrived b q c i from.n room l after → Rounds b q c i' room₀ after l
rounds_turn b q c i i' room₀ room after from l r e four a =
    let m : Made b q c i' after = rw e (made_more b q c i from.n l room after r.first r.made a) in
    record {
      made = m;
      led = record {
        stands = a.stands;
        small = a.small;
        four-more = omega arith;
        room_for = omega (arith, a.same_length, r.led.room_for);
        short = omega (arith, a.same_length, r.led.short);
        few = r.led.few;
        share = m.share;
        number = m.number;
      };
      first = λ z. absurd (omega arith);
      same_length = a.same_length ∙ r.same_length;
    }

-- the last round
pub rounds_end : (b : Bytes) (q c i : ℕ) (room₀ room after : List ℕ) (from : Lane) (r : Option Lane) → Rounds b q c i room₀ room from → 8 ≤ c → i + 4 ≡ c
    → Rounded b q c i from.n room r after → OnSome r ((get_or after 0 0 ≡ 0) × Chained b after)
rounds_end b q c i room₀ room after from None s eight e a = tt
rounds_end b q c i room₀ room after from (Some l) s eight e a =
    made_all b q c after eight (omega (arith, s.led.room_for, a.same_length)) (rw e at (made_more b q c i from.n l room after s.first s.made a))

-- a name's place in its chain
pub slot-inside : (b : Bytes) (room : List ℕ) (i j : ℕ) → Chained b room → i < get_or room 2 0 → j ≤ get_or room (7 + 4 * i) 0 → 4 + 4 * get_or room 2 0 + i * get_or room 1 0 + j < length room
slot-inside b room i j c h k =
    let m = mul-le-mul_right {m = i + 1} {n = get_or room 2 0} (get_or room 1 0) (omega arith) in
    omega (arith, (c.chains i h).few, c.inside)

pub chain-name : (b : Bytes) (room : List ℕ) (i k j : ℕ) → Chained b room → i < get_or room 2 0 → k ≡ get_or room (6 + 4 * i) 0 + j → j ≤ get_or room (7 + 4 * i) 0
    → Stands b (place_in room (2 + 2 * i) + get_or room (4 + 4 * get_or room 2 0 + i * get_or room 1 0 + j) 0) k
chain-name b room i k j c h e l = rw e ((c.chains i h).places j l)

pub chain-walk : (b : Bytes) (room : List ℕ) (i k j : ℕ) → Chained b room → i < get_or room 2 0 → k ≡ get_or room (6 + 4 * i) 0 + j → get_or room (7 + 4 * i) 0 < j
    → Stands b (walked b (place_in room (2 + 2 * i) + get_or room (4 + 4 * get_or room 2 0 + i * get_or room 1 0 + get_or room (7 + 4 * i) 0) 0) (j - get_or room (7 + 4 * i) 0)) k
chain-walk b room i k j c h e l =
    let last : ℕ = get_or room (7 + 4 * i) 0 in
    let n : get_or room (6 + 4 * i) 0 + last + (j - last) ≡ k = omega arith in
    rw (← n) (stands-walked b _ (get_or room (6 + 4 * i) 0 + last) (j - last) ((c.chains i h).places last (omega arith)))

-- what the walks leave of what a round starts from, and of what it says
pub led-room : (b : Bytes) (q c i : ℕ) (room after : List ℕ) (from : Lane) → Led b room q c i from → ((x : ℕ) → x < 4 + 4 * c + i * q → get_or after x 0 ≡ get_or room x 0)
    → length after ≡ length room → Led b after q c i from
led-room b q c i room after from l k e =
    record {
      stands = l.stands;
      small = l.small;
      four-more = l.four-more;
      room_for = omega (arith, l.room_for);
      short = omega (arith, l.short);
      few = l.few;
      share = k 1 (omega arith) ∙ l.share;
      number = k 2 (omega arith) ∙ l.number;
    }

pub rounded_behind : (b : Bytes) (q c i first : ℕ) (room room₁ after : List ℕ) (r : Option Lane) → i + 4 ≤ c → Rounded b q c i first room₁ r after
    → ((x : ℕ) → x < 4 + 4 * c + i * q → get_or room₁ x 0 ≡ get_or room x 0) → length room₁ ≡ length room → Rounded b q c i first room r after
rounded_behind b q c i first room room₁ after None four a k same = a ∙ same
rounded_behind b q c i first room room₁ after (Some l) four a k same = arrived_behind b q c i first l room room₁ after four a k same
