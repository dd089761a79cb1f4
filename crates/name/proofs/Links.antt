-- Buckets and links: a first use more is the last of its bucket, and a walk along the links passes every first use of the bucket.
use Rattle.std.proofs.Common.{◌≡◌, ℕ, suc, ◌+◌, ◌*◌, ◌/◌, ◌%◌, ◌^◌, ◌<◌, ◌≤◌, eqb, ltb, List, length, get_or, set, sym, ap, ◌∙◌, mul-le-mul_right, arith, length-set, get_or-set_other, get_or-set_same, ltb-false, ltb-true, eqb-true}
use borrow.Author.Tests.{eqb-false}
use Rattle.model.specs.Bytes.{Bytes}
use Rattle.name.specs.Hashed.{eight_at, mixed_of, words_of, bucket_of, Latest}
use Rattle.name.specs.Rows.{string_at, key_at, Apart, Linked, Walkable}
use Rattle.name.proofs.Rows.{by}

-- a share of the buckets
pub share-below : (x n : ℕ) → x < 4294967296 → 0 < n → x * n / 4294967296 < n
share-below x n h g = omega (arith, mul-le-mul_right {m = x} {n = 4294967295} n (omega arith))

pub words-next : (s : Bytes) (k : ℕ) → k % 8 ≡ 0 → (words_of s (k / 8) + mixed_of (eight_at s k) k) % 2 ^ 64 ≡ words_of s ((k + 8) / 8)
unfolding words_of
words-next s k h =
    let e : (k + 8) / 8 ≡ suc (k / 8) = omega arith in
    let f : 8 * (k / 8) ≡ k = omega arith in
    rw (e, f)

-- a number more, whose key is h: it is the last with that key, and others keep theirs
module _ (key more : ℕ → ℕ) (used h : ℕ) (old : (j : ℕ) → j < used → more j ≡ key j) (new : more used ≡ h) where
  pub latest_old : (top g x : ℕ) → top ≤ used → Latest key top g x → Latest more top g x
  latest_old top g x t l =
      record {
        within = l.within;
        keyed = λ n e. old n (omega (arith, l.within)) ∙ l.keyed n e;
        none = λ j a e. l.none j a (sym (old j (omega arith)) ∙ e);
      }

  pub latest_here : Latest more (used + 1) h (used + 1)
  latest_here =
      record {
        within = omega arith;
        keyed = λ n e. (let q : n ≡ used = omega arith in rw q new);
        none = λ j a e. a;
      }

  pub latest_other : (g x : ℕ) → (g ≡ h → ⊥) → Latest key used g x → Latest more (used + 1) g x
  latest_other g x d l =
      record {
        within = omega (arith, l.within);
        keyed = λ n e. old n (omega (arith, l.within)) ∙ l.keyed n e;
        none = λ j a e.
            by (ltb j used)
            (λ f. l.none j (ltb-true _ _ f) (sym (old j (ltb-true _ _ f)) ∙ e))
            (λ f. (let q : used ≡ j = omega (arith, ltb-false j used f) in absurd (d (sym e ∙ ap more (sym q) ∙ new))));
      }

-- a first use more
module _ (b : Bytes) (firsts links heads : List ℕ) (used row bucket : ℕ) (l : Linked b firsts links heads used) (room : used < length firsts) (place : used < length links)
    (within : bucket < length heads) (its : bucket ≡ bucket_of (string_at b row) (length heads))
    (absent : (j : ℕ) → j < used → string_at b (get_or firsts j 0) ≡ string_at b row → ⊥) where
  row_old : (j : ℕ) → j < used → get_or (set firsts used row) j 0 ≡ get_or firsts j 0
  row_old j h = get_or-set_other firsts used j row 0 (λ e. omega arith)

  row_new : get_or (set firsts used row) used 0 ≡ row
  row_new = get_or-set_same firsts used row 0 room

  key-old : (j : ℕ) → j < used → key_at b (set firsts used row) (length heads) j ≡ key_at b firsts (length heads) j
  unfolding key_at
  key-old j h = ap (λ (r : ℕ). bucket_of (string_at b r) (length heads)) (row_old j h)

  key-new : key_at b (set firsts used row) (length heads) used ≡ bucket
  unfolding key_at
  key-new = ap (λ (r : ℕ). bucket_of (string_at b r) (length heads)) row_new ∙ sym its

  apart_more : Apart b (set firsts used row) (used + 1)
  apart_more =
      record {
        differ = λ j k h t e.
            by (ltb k used)
            (λ f.
            let g = ltb-true k used f in
            l.apart.differ j k h g (rw (row_old j (omega arith), row_old k g) at e))
            (λ f.
            let q : k ≡ used = omega (arith, ltb-false k used f) in
            let d : string_at b (get_or (set firsts used row) j 0) ≡ string_at b (get_or (set firsts used row) used 0) = rw q at e in
            absent j (omega arith) (rw (row_old j (omega arith), row_new) at d));
      }

  last_more : (h : ℕ) → h < length heads → Latest (key_at b (set firsts used row) (length heads)) (used + 1) h (get_or (set heads bucket (used + 1)) h 0)
  last_more h t =
      by (eqb h bucket)
      (λ f.
      let q = eqb-true h bucket f in
      rw (q, get_or-set_same heads bucket (used + 1) 0 within)
      (latest_here (key_at b firsts (length heads)) (key_at b (set firsts used row) (length heads)) used bucket key-old key-new))
      (λ f.
      let d = eqb-false h bucket f in
      rw (get_or-set_other heads bucket h (used + 1) 0 d)
      (latest_other (key_at b firsts (length heads)) (key_at b (set firsts used row) (length heads)) used bucket key-old key-new h (get_or heads h 0) d (l.last h t)))

  before_more : (u : ℕ) → u < used + 1
      → Latest (key_at b (set firsts used row) (length heads)) u (key_at b (set firsts used row) (length heads) u) (get_or (set links used (get_or heads bucket 0)) u 0)
  before_more u t =
      by (ltb u used)
      (λ f.
      let g = ltb-true u used f in
      let d : u ≡ used → ⊥ = λ e. omega arith in
      rw (get_or-set_other links used u (get_or heads bucket 0) 0 d, key-old u g)
      (latest_old (key_at b firsts (length heads)) (key_at b (set firsts used row) (length heads)) used bucket key-old key-new u _ (get_or links u 0) (omega arith) (l.before u g)))
      (λ f.
      let q : u ≡ used = omega (arith, ltb-false u used f) in
      rw (q, get_or-set_same links used (get_or heads bucket 0) 0 place, key-new)
      (latest_old (key_at b firsts (length heads)) (key_at b (set firsts used row) (length heads)) used bucket key-old key-new used bucket (get_or heads bucket 0) (omega arith) (l.last bucket within)))

  pub linked-more : Linked b (set firsts used row) (set links used (get_or heads bucket 0)) (set heads bucket (used + 1)) (used + 1)
  linked-more =
      let e : length (set heads bucket (used + 1)) ≡ length heads = length-set heads bucket (used + 1) in
      record { last = rw e last_more; before = rw e before_more; apart = apart_more }

-- along the links: what was passed has another string
pub record Walking (b : Bytes) (firsts links heads : List ℕ) (bucket i next : ℕ) : Type 0 where
  pub within : next ≤ get_or heads bucket 0
  pub keyed : (n : ℕ) → next ≡ n + 1 → key_at b firsts (length heads) n ≡ bucket
  pub passed : (used : ℕ) → Linked b firsts links heads used → (j : ℕ) → next ≤ j → j < used → string_at b (get_or firsts j 0) ≡ string_at b i → ⊥

module _ {b : Bytes} {firsts links heads : List ℕ} {bucket i : ℕ} (w : Walkable b firsts links heads bucket i) where
  key-same : (j : ℕ) → string_at b (get_or firsts j 0) ≡ string_at b i → key_at b firsts (length heads) j ≡ bucket
  unfolding key_at
  key-same j e = ap (λ (s : Bytes). bucket_of s (length heads)) e ∙ sym w.its

  pub walking_start : Walking b firsts links heads bucket i (get_or heads bucket 0)
  walking_start =
      record {
        within = omega arith;
        keyed = (w.linked.last bucket w.within).keyed;
        passed = λ used l j h t e. omega (arith, (l.last bucket w.within).none j t (key-same j e));
      }

  module _ (n next : ℕ) (e : next ≡ n + 1) (a : Walking b firsts links heads bucket i next) where
    pub walking-number : n < w.used
    walking-number = omega (arith, a.within, (w.linked.last bucket w.within).within)

    before : Latest (key_at b firsts (length heads)) n (key_at b firsts (length heads) n) (get_or links n 0)
    before = w.linked.before n walking-number

    pub walking-back : get_or links n 0 ≤ n
    walking-back = before.within

    pub walking-next : (string_at b (get_or firsts n 0) ≡ string_at b i → ⊥) → Walking b firsts links heads bucket i (get_or links n 0)
    walking-next d =
        record {
          within = omega (arith, a.within, walking-back);
          keyed = λ m q. before.keyed m q ∙ a.keyed n e;
          passed = λ used l j h t q.
              by (ltb j n)
              (λ f. omega (arith, before.none j (ltb-true _ _ f) (key-same j q ∙ sym (a.keyed n e))))
              (λ f. by (eqb j n)
              (λ g. (let r = eqb-true j n g in d (rw r at q)))
              (λ g.
              let r = eqb-false j n g in
              let p = ltb-false j n f in
              a.passed used l j (omega arith) t q));
        }
