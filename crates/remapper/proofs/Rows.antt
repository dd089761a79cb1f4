-- What the stores do to the rows of the scratch: a link's store changes that link only.
use Rattle.std.proofs.Common.{ℕ, ◌+◌, ◌*◌, ◌-◌, ◌%◌, ◌≤◌, ◌<◌, List, ◌≡◌, refl, ap, ◌∙◌, arith, length, get_or, take, drop, length-set, get_or-set_same, get_or-set_other, drop-set-lt, eqb, eqb-true}
use lib.Seq.{take-set-le}
use borrow.Author.Tests.{eqb-false}
use Rattle.model.proofs.Members.{by}
use Rattle.remapper.specs.Scratch.{link, relinked, prev, next, unlinked, inserted}
use Rattle.remapper.proofs.Ring.{Upd}

-- only links differ
pub record Keeps (n : ℕ) (s s' : List ℕ) : Type 0 where
  pub size : length s' ≡ length s
  pub lower : take (2 * n) s' ≡ take (2 * n) s
  pub past : drop (4 * n) s' ≡ drop (4 * n) s

pub keeps_self : (n : ℕ) (s : List ℕ) → Keeps n s s
keeps_self n s = record { size = refl; lower = refl; past = refl }

pub keeps-link : (n : ℕ) (s : List ℕ) (base g v : ℕ) → 2 * n ≤ base + g → base + g < 4 * n → Keeps n s (relinked base s g v)
unfolding relinked
keeps-link n s base g v h k =
    let d = (v + 65536 - g) % 65536 in
    record { size = length-set s (base + g) d; lower = take-set-le (2 * n) s (base + g) d h; past = drop-set-lt (4 * n) s (base + g) d k }

pub keeps_trans : (n : ℕ) (a b c : List ℕ) → Keeps n a b → Keeps n b c → Keeps n a c
keeps_trans n a b c h k = record { size = k.size ∙ h.size; lower = k.lower ∙ h.lower; past = k.past ∙ h.past }

-- the distance to v, from g, leads to v
there : (g v : ℕ) → g < 65536 → v < 65536 → ((v + 65536 - g) % 65536 + g) % 65536 ≡ v
there g v h k = omega arith

pub link-low : (base : ℕ) (s : List ℕ) (g : ℕ) → link base s g < 65536
unfolding link
link-low base s g = omega arith

module _ (base : ℕ) (s : List ℕ) (g v : ℕ) where
  link-same : base + g < length s → g < 65536 → v < 65536 → link base (relinked base s g v) g ≡ v
  unfolding link relinked
  link-same h a b = ap (λ (t : ℕ). (t + g) % 65536) (get_or-set_same s (base + g) ((v + 65536 - g) % 65536) 0 h) ∙ there g v a b

  link_other : (row x : ℕ) → (row + x ≡ base + g → ⊥) → link row (relinked base s g v) x ≡ link row s x
  unfolding link relinked
  link_other row x q = ap (λ (t : ℕ). (t + x) % 65536) (get_or-set_other s (base + g) (row + x) ((v + 65536 - g) % 65536) 0 q)

  -- a link from a glyph to a glyph is a glyph's id, also where there are more than a link can name
  pub link-below : (n row x : ℕ) → (row + x ≡ base + g → x ≡ g) → base + g < length s → g < n → v < n → link row s x < n → link row (relinked base s g v) x < n
  unfolding link relinked
  link-below n row x j h a b k =
      by (eqb (row + x) (base + g)) (λ e. same (eqb-true (row + x) (base + g) e)) (λ e. omega (arith, link_other row x (eqb-false (row + x) (base + g) e), k))
    where
      near : (d : ℕ) → d ≡ (v + 65536 - g) % 65536 → x ≡ g → (d + x) % 65536 < n
      near d e q = omega arith

      same : row + x ≡ base + g → link row (relinked base s g v) x < n
      same e =
          near (get_or (relinked base s g v) (row + x) 0)
          (ap (λ (i : ℕ). get_or (relinked base s g v) i 0) e ∙ get_or-set_same s (base + g) ((v + 65536 - g) % 65536) 0 h) (j e)

module _ (n : ℕ) (s : List ℕ) (u v : ℕ) (size : 4 * n ≤ length s) (low : u < n) where
  pub next-next : u < 65536 → v < 65536 → Upd n (next n s) (next n (relinked (3 * n) s u v)) u v
  next-next a b = (link-same (3 * n) s u v (omega arith) a b, λ x m q. link_other (3 * n) s u v (3 * n) x (λ e. q (omega arith)))

  pub next-prev : (x : ℕ) → x < n → prev n (relinked (3 * n) s u v) x ≡ prev n s x
  next-prev x m = link_other (3 * n) s u v (2 * n) x (omega arith)

  pub prev-prev : u < 65536 → v < 65536 → Upd n (prev n s) (prev n (relinked (2 * n) s u v)) u v
  prev-prev a b = (link-same (2 * n) s u v (omega arith) a b, λ x m q. link_other (2 * n) s u v (2 * n) x (λ e. q (omega arith)))

  pub prev-next : (x : ℕ) → next n (relinked (2 * n) s u v) x ≡ next n s x
  prev-next x = link_other (2 * n) s u v (3 * n) x (omega arith)

-- what `unlinked` does
pub record Unlinks (n : ℕ) (s : List ℕ) (c : ℕ) (s' : List ℕ) : Type 0 where
  pub keeps : Keeps n s s'
  pub nx : Upd n (next n s) (next n s') (prev n s c) (next n s c)
  pub pv : Upd n (prev n s) (prev n s') (next n s c) (prev n s c)

pub unlinks : (n : ℕ) (s : List ℕ) (c : ℕ) → 4 * n ≤ length s → prev n s c < n → next n s c < n → Unlinks n s c (unlinked n s c)
unfolding unlinked
unlinks n s c h u w =
    record {
      keeps = keeps_trans n s s₁ s₂ k (keeps-link n s₁ (2 * n) W U (omega arith) (omega arith));
      nx = (prev-next n s₁ W U h₁ w U ∙ a.0, λ x m q. prev-next n s₁ W U h₁ w x ∙ a.1 x m q);
      pv = (b.0, λ x m q. b.1 x m q ∙ next-prev n s U W h u x m);
    }
  where
    U : ℕ
    U = prev n s c

    W : ℕ
    W = next n s c

    s₁ : List ℕ
    s₁ = relinked (3 * n) s U W

    s₂ : List ℕ
    s₂ = relinked (2 * n) s₁ W U

    k : Keeps n s s₁
    k = keeps-link n s (3 * n) U W (omega arith) (omega arith)

    h₁ : 4 * n ≤ length s₁
    h₁ = omega (arith, k.size)

    a : Upd n (next n s) (next n s₁) U W
    a = next-next n s U W h u (link-low (2 * n) s c) (link-low (3 * n) s c)

    b : Upd n (prev n s₁) (prev n s₂) W U
    b = prev-prev n s₁ W U h₁ w (link-low (3 * n) s c) (link-low (2 * n) s c)

-- what `inserted` does, of an id that a link can name
pub record Inserts (n : ℕ) (s : List ℕ) (c : ℕ) (s' : List ℕ) : Type 0 where
  pub n0 : next n s' 0 ≡ c
  pub nc : (c ≡ 0 → ⊥) → next n s' c ≡ next n s 0
  pub nx : (x : ℕ) → x < n → (x ≡ 0 → ⊥) → (x ≡ c → ⊥) → next n s' x ≡ next n s x
  pub pt : prev n s' (next n s 0) ≡ c
  pub pc : (c ≡ next n s 0 → ⊥) → prev n s' c ≡ 0
  pub px : (x : ℕ) → x < n → (x ≡ next n s 0 → ⊥) → (x ≡ c → ⊥) → prev n s' x ≡ prev n s x

module _ (n : ℕ) (s : List ℕ) (c : ℕ) (h : 4 * n ≤ length s) (k : c < n) (t : next n s 0 < n) where
  T : ℕ
  T = next n s 0

  s₁ : List ℕ
  s₁ = relinked (3 * n) s c T

  s₂ : List ℕ
  s₂ = relinked (2 * n) s₁ c 0

  s₃ : List ℕ
  s₃ = relinked (2 * n) s₂ T c

  keeps₁ : Keeps n s s₁
  unfolding s₁
  keeps₁ = keeps-link n s (3 * n) c T (omega arith) (omega arith)

  keeps₂ : Keeps n s s₂
  unfolding s₂
  keeps₂ = keeps_trans n s s₁ s₂ keeps₁ (keeps-link n s₁ (2 * n) c 0 (omega arith) (omega arith))

  keeps₃ : Keeps n s s₃
  unfolding s₃ T
  keeps₃ = keeps_trans n s s₂ s₃ keeps₂ (keeps-link n s₂ (2 * n) T c (omega arith) (omega arith))

  pub keeps-inserted : Keeps n s (inserted n s c)
  unfolding inserted s₃ s₂ s₁ T
  keeps-inserted = keeps_trans n s s₃ (relinked (3 * n) s₃ 0 c) keeps₃ (keeps-link n s₃ (3 * n) 0 c (omega arith) (omega arith))

  pub inserts : c < 65536 → Inserts n s c (inserted n s c)
  unfolding inserted s₃ s₂ s₁ T
  inserts small =
      record {
        n0 = d.0;
        nc = λ q. d.1 c k q ∙ f₃ c ∙ f₂ c ∙ a.0;
        nx = λ x m q r. d.1 x m q ∙ f₃ x ∙ f₂ x ∙ a.1 x m r;
        pt = p₄ T t ∙ e.0;
        pc = λ q. p₄ c k ∙ e.1 c k q ∙ b.0;
        px = λ x m q r. p₄ x m ∙ e.1 x m q ∙ b.1 x m r ∙ next-prev n s c T h k x m;
      }
    where
      s₄ : List ℕ
      s₄ = relinked (3 * n) s₃ 0 c

      h₁ : 4 * n ≤ length s₁
      h₁ = omega (arith, keeps₁.size)

      h₂ : 4 * n ≤ length s₂
      h₂ = omega (arith, keeps₂.size)

      h₃ : 4 * n ≤ length s₃
      h₃ = omega (arith, keeps₃.size)

      z : 0 < n
      z = omega arith

      top : T < 65536
      top = link-low (3 * n) s 0

      a : Upd n (next n s) (next n s₁) c T
      a = next-next n s c T h k small top

      b : Upd n (prev n s₁) (prev n s₂) c 0
      b = prev-prev n s₁ c 0 h₁ k small (omega arith)

      e : Upd n (prev n s₂) (prev n s₃) T c
      e = prev-prev n s₂ T c h₂ t top small

      d : Upd n (next n s₃) (next n s₄) 0 c
      d = next-next n s₃ 0 c h₃ z (omega arith) small

      f₂ : (x : ℕ) → next n s₂ x ≡ next n s₁ x
      f₂ x = prev-next n s₁ c 0 h₁ k x

      f₃ : (x : ℕ) → next n s₃ x ≡ next n s₂ x
      f₃ x = prev-next n s₂ T c h₂ t x

      p₄ : (x : ℕ) → x < n → prev n s₄ x ≡ prev n s₃ x
      p₄ x m = next-prev n s₃ 0 c h₃ z x m
