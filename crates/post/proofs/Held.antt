-- The places of names in the scratch: a place put in is read back, the others stay; so every place held is that of its name.
use mathlib.Core.Path.{◌≡◌, refl, ap₂, ◌∙◌}
use mathlib.Core.List.{List}
use Prim.Native.Nat.{ℕ, ◌+◌, ◌*◌, ◌-◌, ◌/◌, ◌%◌, ◌≤◌, ◌<◌}
use native.Mathlib.Omega.{arith}
use lib.Dec.{ltb}
use borrow.Author.Tests.{ltb-true, ltb-false}
use native.Mathlib.Nat.{div-add-mod', mod-lt, div-lt_iff_lt-mul, div-mul-le_self, mul-le-mul_right, zero-mul}
use lib.ListN.{length, get_or, set, length-set}
use lib.Seq.{get_or-set_same, get_or-set_other}
use Rattle.model.specs.Bytes.{Bytes, word16}
use Rattle.post.specs.Post.{walked, Stands, place_in, with_place, Strided, Index}
use Rattle.model.proofs.Members.{by}
use Rattle.post.proofs.Walk.{stands-first, stands-walked, walked-inside}

pub length-with_place : (room : List ℕ) (j p : ℕ) → length (with_place room j p) ≡ length room
unfolding with_place
length-with_place room j p = simp length-set

pub place_same : (room : List ℕ) (j p : ℕ) → 2 * j + 1 < length room → place_in (with_place room j p) j ≡ p
unfolding place_in with_place
place_same room j p h =
    let r : List ℕ = set room (2 * j) (p % 65536) in
    let a : get_or (set r (2 * j + 1) (p / 65536)) (2 * j) 0 ≡ p % 65536 =
    get_or-set_other r (2 * j + 1) (2 * j) (p / 65536) 0 (λ e. omega arith) ∙ get_or-set_same room (2 * j) (p % 65536) 0 (omega arith) in
    let b : get_or (set r (2 * j + 1) (p / 65536)) (2 * j + 1) 0 ≡ p / 65536 =
    get_or-set_same r (2 * j + 1) (p / 65536) 0 (simp length-set h) in
    omega arith

pub place_other : (room : List ℕ) (j i p : ℕ) → (i ≡ j → ⊥) → place_in (with_place room j p) i ≡ place_in room i
unfolding place_in with_place
place_other room j i p n =
    let r : List ℕ = set room (2 * j) (p % 65536) in
    let a : get_or (set r (2 * j + 1) (p / 65536)) (2 * i) 0 ≡ get_or room (2 * i) 0 =
    get_or-set_other r (2 * j + 1) (2 * i) (p / 65536) 0 (λ e. omega arith) ∙ get_or-set_other room (2 * j) (2 * i) (p % 65536) 0 (λ e. n (omega arith)) in
    let b : get_or (set r (2 * j + 1) (p / 65536)) (2 * i + 1) 0 ≡ get_or room (2 * i + 1) 0 =
    get_or-set_other r (2 * j + 1) (2 * i + 1) (p / 65536) 0 (λ e. n (omega arith)) ∙ get_or-set_other room (2 * j) (2 * i + 1) (p % 65536) 0 (λ e. omega arith) in
    omega arith

-- with this stride every slot fits the room
pub stride_enough : (w m : ℕ) → 0 < m → w / (w / m + 1) < m
stride_enough w m h =
    let a = div-add-mod' w m in
    let b = mod-lt w {m = m} h in
    (div-lt_iff_lt-mul {k = w / m + 1} (omega arith)).1 (omega arith)

-- the slot's name is not behind the one looked for
pub slot-before : (k s j : ℕ) → j ≤ k / s → j * s ≤ k
slot-before k s j h = omega (arith, mul-le-mul_right s h, div-mul-le_self k s)

-- the filling: places 1 to j are held, and p is that of place j
pub record Filled (b : Bytes) (s last : ℕ) (room₀ room : List ℕ) (p j : ℕ) : Type 0 where
  pub within : j ≤ last
  pub same_length : length room ≡ length room₀
  pub inside : p ≤ length b
  pub here : Stands b p (j * s)
  pub held : (i : ℕ) → 0 < i → i ≤ j → Stands b (place_in room i) (i * s)

pub fill_start : (b : Bytes) (s last : ℕ) (room : List ℕ) → 34 + 2 * word16 b 32 ≤ length b → Filled b s last room room (34 + 2 * word16 b 32) 0
fill_start b s last room h =
    record { within = omega arith; same_length = refl; inside = h; here = rw zero-mul (stands-first b); held = λ i p q. absurd (omega arith) }

pub fill_turn : (b : Bytes) (s last : ℕ) (room₀ room : List ℕ) (p j : ℕ) → Filled b s last room₀ room p j → j < last
    → 2 * last + 1 < length room₀
    → Filled b s last room₀ (with_place room (j + 1) (walked b p s)) (walked b p s) (j + 1)
fill_turn b s last room₀ room p j f l h =
    let q : ℕ = walked b p s in
    let e : j * s + s ≡ (j + 1) * s = omega arith in
    let here-next : Stands b q ((j + 1) * s) = rw (← e) (stands-walked b p (j * s) s f.here) in
    record {
      within = omega arith;
      same_length = length-with_place room (j + 1) q ∙ f.same_length;
      inside = walked-inside b p s f.inside;
      here = here-next;
      held = λ i a z. by (ltb i (j + 1))
          (λ t. let i<j = ltb-true i (j + 1) t in
          rw (place_other room (j + 1) i q (λ e. omega arith)) (f.held i a (omega arith)))
          (λ t. let i≡j : i ≡ j + 1 = omega (arith, ltb-false i (j + 1) t) in
          rw (i≡j, place_same room (j + 1) q (omega (arith, f.same_length))) here-next);
    }

place-behind : (room : List ℕ) (s last j : ℕ) → 0 < j → place_in (set (set room 0 s) 1 last) j ≡ place_in room j
unfolding place_in
place-behind room s last j q = ap₂ (λ (x y : ℕ). x + 65536 * y) (at (2 * j) (omega arith)) (at (2 * j + 1) (omega arith))
  where
    at : (i : ℕ) → 1 < i → get_or (set (set room 0 s) 1 last) i 0 ≡ get_or room i 0
    at i h = get_or-set_other (set room 0 s) 1 i last 0 (λ e. omega arith) ∙ get_or-set_other room 0 i s 0 (λ e. omega arith)

-- the stride and the last place, at the start of the room, behind which the places stand
pub fill_end : (b : Bytes) (s last : ℕ) (room₀ room : List ℕ) (p : ℕ) → Filled b s last room₀ room p last → 0 < s → 2 * last + 1 < length room₀
    → Index b (set (set room 0 s) 1 last)
fill_end b s last room₀ room p f h k =
    let e : length (set room 0 s) ≡ length room = length-set room 0 s in
    let a : get_or (set (set room 0 s) 1 last) 0 0 ≡ s =
    get_or-set_other (set room 0 s) 1 0 last 0 (λ e. omega arith) ∙ get_or-set_same room 0 s 0 (omega (arith, f.same_length)) in
    let c : get_or (set (set room 0 s) 1 last) 1 0 ≡ last =
    get_or-set_same (set room 0 s) 1 last 0 (omega (arith, f.same_length)) in
    record {
      some = simp length-set (omega (arith, f.same_length));
      strided = λ z. record {
        inside = rw c (simp length-set (omega (arith, f.same_length)));
        places = λ j q r. rw a (rw (place-behind room s last j q) (f.held j q (omega arith)));
      };
      chained = λ z. absurd (omega arith);
    }

pub last_fits : (w len : ℕ) → 2 ≤ len → 2 * (w / (w / (len / 2) + 1)) + 1 < len
last_fits w len h = let a = stride_enough w (len / 2) (omega arith) in omega arith

-- name k is as far behind the held place j as its number is behind that one's
pub index-walk : (b : Bytes) (room : List ℕ) (k s j : ℕ) → Strided b room → s ≡ get_or room 0 0 → j ≤ get_or room 1 0 → 0 < j → j * s ≤ k
    → Stands b (walked b (place_in room j) (k - j * s)) k
index-walk b room k s j x e last some h =
    let here : Stands b (place_in room j) (j * s) = rw e (x.places j some last) in
    let n : j * s + (k - j * s) ≡ k = omega arith in
    rw n at (stands-walked b (place_in room j) (j * s) (k - j * s) here)
