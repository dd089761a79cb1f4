-- Names found one after the other: what is put away stays, and so do the roster and the index in front of it.
use mathlib.Core.Path.{◌≡◌, refl, sym, ap, ap₂, ◌∙◌}
use mathlib.Core.Bool.{Bool, true, false}
use mathlib.Core.List.{List, flat_map}
use Prim.Native.Nat.{ℕ, ◌+◌, ◌*◌, ◌-◌, ◌%◌, ◌/◌, ◌≤◌, ◌<◌}
use native.Mathlib.Omega.{arith}
use lib.Dec.{ltb, leb}
use lib.ListN.{length, take, drop, get_or, set, length-take, length-drop}
use lib.Seq.{take-take, get_or-take, get_or-drop, ext_get_or, take-set-le, drop-set-lt, length-take-le, take_at, drop_at, drop-drop}
use Rattle.std.specs.Prelude.{Option, Some, None}
use Rattle.std.specs.Borrow.{Bor}
use borrow.Author.Tests.{ltb-true, ltb-false, leb-true}
use borrow.Rule.Slice.PartMut.{put_mid, take_put, drop_put, same_len_mid}
use Rattle.model.specs.Res.{either}
use Rattle.model.specs.Bytes.{Bytes, part}
use Rattle.model.proofs.Members.{by}
use Rattle.model.proofs.Res.{true_false}
use Rattle.post.specs.Post.{Stands, place_in, with_place, Index, name_bytes, Located, many_names, placed_for, room_start, room_of}
use Rattle.post.specs.Found.{places_at, index_for, Behind, PutAway, Sized, Placing, Sought}
use Rattle.post.proofs.Held.{length-with_place, place_same, place_other}

-- nothing in front changes
pub behind-same : (n at : ℕ) (s : List ℕ) → Behind n at s s
behind-same n at s = record { same_length = refl; front = refl; back = refl }

pub behind-then : (n at : ℕ) (s t u : List ℕ) → Behind n at s t → Behind n at t u → Behind n at s u
behind-then n at s t u x y =
    record { same_length = y.same_length ∙ x.same_length; front = y.front ∙ x.front; back = y.back ∙ x.back }

pub behind_from : (n at m : ℕ) (s t : List ℕ) → m ≤ at → Behind n at s t → Behind n m s t
behind_from n at m s t h x =
    record {
      same_length = x.same_length;
      front = sym (take-take (2 * m) (2 * at) t (omega arith)) ∙ ap (take (2 * m)) x.front ∙ take-take (2 * m) (2 * at) s (omega arith);
      back = x.back;
    }

module _ (n at : ℕ) (s t : List ℕ) (x : Behind n at s t) where
  pub behind-roster : (kept : ℕ) → kept ≤ 2 * at → take kept t ≡ take kept s
  behind-roster kept h =
      sym (take-take kept (2 * at) t h) ∙ ap (take kept) x.front ∙ take-take kept (2 * at) s h

  pub behind-number : (i : ℕ) → i < 2 * at → get_or t i 0 ≡ get_or s i 0
  behind-number i h =
      sym (get_or-take (2 * at) t i 0 h) ∙ ap (λ (l : List ℕ). get_or l i 0) x.front ∙ get_or-take (2 * at) s i 0 h

  pub behind-part : (a k : ℕ) → a + k ≤ 2 * at → part t a k ≡ part s a k
  behind-part a k h =
      ext_get_or 0 (part t a k) (part s a k) (simp (length-take, length-drop, x.same_length)) (λ i l.
      let q : i < k = omega (arith, length-take k (drop a t)) in
      get_or-take k (drop a t) i 0 q ∙ get_or-drop a t i 0 ∙ behind-number (a + i) (omega arith) ∙ sym (get_or-drop a s i 0) ∙ sym (get_or-take k (drop a s) i 0 q))

  pub index_stays : (own : Option (Bor (List ℕ))) → n ≤ at → index_for own t n at ≡ index_for own s n at
  index_stays None h = behind-part (2 * n) (2 * at - 2 * n) (omega arith)
  index_stays (Some own) h = refl

-- a place put away, or none
pub put-none : (b : Bytes) (n at j p : ℕ) (s : List ℕ) → 2 * n ≤ at → PutAway b n at j p s s
put-none b n at j p s h = record { behind = behind-same n at s; others = λ i e. refl; here = λ l. absurd (omega arith) }

pub put_some : (b : Bytes) (n at j p q : ℕ) (s : List ℕ) → at + j < 2 * n → 4 * n ≤ length s → ((k : ℕ) → Stands b p k → Stands b q k)
    → PutAway b n at j p s (with_place s (at + j) q)
unfolding with_place
put_some b n at j p q s h l w =
    let a : List ℕ = set s (2 * (at + j)) (q % 65536) in
    record {
      behind = record {
        same_length = length-with_place s (at + j) q;
        front = take-set-le (2 * at) a (2 * (at + j) + 1) (q / 65536) (omega arith) ∙ take-set-le (2 * at) s (2 * (at + j)) (q % 65536) (omega arith);
        back = drop-set-lt (4 * n) a (2 * (at + j) + 1) (q / 65536) (omega arith) ∙ drop-set-lt (4 * n) s (2 * (at + j)) (q % 65536) (omega arith);
      };
      others = λ i e. place_other s (at + j) (at + i) q (λ f. e (omega arith));
      here = λ _ k t. rw (place_same s (at + j) q (omega arith)) (w k t);
    }

-- the names of the first roster places, and one more
pub placing_start : (b : Bytes) (n at : ℕ) (s : List ℕ) → Placing b n at 0 s s
placing_start b n at s = record { behind = behind-same n at s; found = λ h i l. absurd (omega arith) }

pub placing_turn : (b : Bytes) (n at j r : ℕ) (s t u : List ℕ) → j < 2 * at → Placing b n at j s t → Sized b n at j t r u → Placing b n at (j + 1) s u
placing_turn b n at j r s t u h p z =
    let g : get_or t j 0 ≡ get_or s j 0 = behind-number n at s t p.behind j h in
    record {
      behind = behind-then n at s t u p.behind z.behind;
      found = λ l i m q. by (ltb i j)
          (λ e. let i<j = ltb-true i j e in rw (z.others i (λ e. omega arith)) (p.found l i i<j q))
          (λ e. let i≡j : i ≡ j = omega (arith, ltb-false i j e) in
          rw (i≡j, ← g) (z.here l (rw (i≡j, ← g) at q)));
    }

pub placing_number : (b : Bytes) (n at j kept : ℕ) (s t : List ℕ) → j < kept → kept ≤ 2 * at → Placing b n at j s t → get_or t j 0 ≡ get_or (take kept s) j 0
placing_number b n at j kept s t h k p = behind-number n at s t p.behind j (omega arith) ∙ sym (get_or-take kept s j 0 h)

-- found places as `write` reads them
place-part : (u : List ℕ) (a at k j : ℕ) → a ≡ 2 * at → 2 * j + 1 < k → place_in (part u a k) j ≡ place_in u (at + j)
unfolding place_in
place-part u a at k j e h = ap₂ (λ (x y : ℕ). x + 65536 * y) (number (2 * j) (2 * (at + j)) (omega arith) (omega arith)) (number (2 * j + 1) (2 * (at + j) + 1) (omega arith) (omega arith))
  where
    number : (i m : ℕ) → i < k → a + i ≡ m → get_or (part u a k) i 0 ≡ get_or u m 0
    number i m q f = get_or-take k (drop a u) i 0 q ∙ get_or-drop a u i 0 ∙ ap (λ (x : ℕ). get_or u x 0) f

module _ (b : Bytes) (n at kept : ℕ) (s u : List ℕ) (h : kept ≤ n) (l : 4 * n ≤ length u) (p : Placing b n at kept s u) where
  located : (f : Bool) → at ≡ places_at f n kept → (f ≡ false → Index b (part s (2 * n) (2 * at - 2 * n))) → Located b (take kept s) f (room_of f n kept u)
  unfolding places_at room_of room_start
  located true e x =
      record {
        places = λ j q.
            let k : j < kept = omega (arith, length-take kept s) in
            let g : get_or (take kept s) j 0 ≡ get_or s j 0 = get_or-take kept s j 0 k in
            record {
              place = λ _ i. (
                simp (length-take, length-drop) (omega arith),
                rw (g, place-part u (4 * n - 2 * kept) at (4 * n - (4 * n - 2 * kept)) j (omega arith) (omega arith)) (p.found (omega arith) j k (rw g at i)),
              );
              index = λ z. true_false z;
            };
      }
  located false e x =
      let d : 4 * n - 2 * n ≡ 2 * at - 2 * n = omega arith in
      record {
        places = λ j q.
            record {
              place = λ z. true_false (sym z);
              index = λ _. rw (d, behind-part n at s u p.behind (2 * n) (2 * at - 2 * n) (omega arith)) (x refl);
            };
      }

-- all names found, after the index was put in front of the places
pub sought : (b : Bytes) (n at kept r : ℕ) (s t u : List ℕ) → kept ≤ n → n ≤ at → 4 * n ≤ length s → at ≡ places_at (placed_for (length b) n kept) n kept
    → Behind n n s t → (placed_for (length b) n kept ≡ false → Index b (part t (2 * n) (2 * at - 2 * n)))
    → r ≡ length (flat_map (name_bytes b) (take kept t)) → Placing b n at kept t u → Sought b n kept s r u
sought b n at kept r s t u h k l e x i z p =
    let same : take kept t ≡ take kept s = behind-roster n n s t x kept (omega arith) in
    record {
      size = z ∙ ap (λ (ids : List ℕ). length (flat_map (name_bytes b) ids)) same;
      behind = behind-then n n s t u x (behind_from n at n t u k p.behind);
      located = rw same at (located b n at kept t u h (omega (arith, p.behind.same_length, x.same_length)) p (placed_for (length b) n kept) e i);
    }

pub start-bound : (f : Bool) (n kept : ℕ) → room_start f n kept ≤ 4 * n
unfolding room_start
start-bound true n kept = omega arith
start-bound false n kept = omega arith

-- with far more names than glyphs places are put away
pub placed_many : (len n kept : ℕ) → many_names len n ≡ true → placed_for len n kept ≡ true
unfolding placed_for
placed_many len n kept e =
    by (leb (4 * kept) n) (λ f. ap (λ (x : Bool). either x (many_names len n)) f) (λ f. ap₂ either f e)

-- where the places begin: behind the index, which has two numbers at least
pub at_bounds : (f : Bool) (n kept : ℕ) → kept ≤ n → (n ≤ places_at f n kept) × (places_at f n kept ≤ 2 * n) × (places_at f n kept < 2 * n → places_at f n kept + kept ≤ 2 * n)
unfolding places_at
at_bounds true n kept h = (omega arith, omega arith, λ q. omega arith)
at_bounds false n kept h = (omega arith, omega arith, λ q. absurd (omega arith))

pub at_room : (len n kept : ℕ) → 0 < n → many_names len n ≡ false → n < places_at (placed_for len n kept) n kept
unfolding placed_for places_at
at_room len n kept h e =
    by (leb (4 * kept) n) (λ f. rw f (omega (arith, leb-true (4 * kept) n f))) (λ f. rw (f, e) (omega arith))

-- the index put into the scratch
module _ (s room : List ℕ) (n at : ℕ) (h : n ≤ at) (k : at ≤ 2 * n) (l : 4 * n ≤ length s) (e : length room ≡ length (take (2 * at - 2 * n) (drop (2 * n) s))) where
  room-length : length room ≡ 2 * at - 2 * n
  room-length = e ∙ simp (length-take, length-drop) (omega arith)

  pub filled_behind : Behind n n s (put_mid (2 * n) (2 * at - 2 * n) s room)
  filled_behind =
      let new : List ℕ = put_mid (2 * n) (2 * at - 2 * n) s room in
      let rest : ℕ = 4 * n - 2 * at in
      let end : 2 * at + rest ≡ 4 * n = omega arith in
      let last : drop (2 * at + rest) new ≡ drop (2 * at + rest) s =
      sym (drop-drop rest (2 * at) new) ∙ ap (drop rest) (drop_put (2 * n) (2 * at) s room (omega arith) (omega arith) room-length) ∙ drop-drop rest (2 * at) s in
      record {
        same_length = same_len_mid (2 * n) (2 * at - 2 * n) s room e;
        front = take_put (2 * n) (2 * at - 2 * n) s room (omega arith);
        back = rw end at last;
      }

  pub filled_index : part (put_mid (2 * n) (2 * at - 2 * n) s room) (2 * n) (2 * at - 2 * n) ≡ room
  filled_index =
      ap (take (2 * at - 2 * n)) (drop_at (take (2 * n) s) _ (2 * n) (length-take-le (2 * n) s (omega arith)))
      ∙ take_at room _ (2 * at - 2 * n) room-length
