-- Records by places: `rest` takes the record that `component_at` finds, and goes on behind it; so do the ids and the end.
use Rattle.std.proofs.Common.{◌≡◌, refl, sym, ap, ap₂, ◌∙◌, subst, Bool, true, false, List, [], ◌∷◌, ◌++◌, map, Option, None, Some, ℕ, suc, ◌+◌, ◌*◌, ◌-◌, ◌≤◌, ◌<◌, arith, add-zero, ltb, leb, length, drop, length-append, length-take, length-drop, drop-drop, get_or-take, le-leb, leb-true, leb-false, ltb-true}
use native.Mathlib.Nat.{add-sub_cancel_left}
use borrow.Author.Tests.{lt-leb}
use Rattle.model.specs.Res.{Res, refuse, ok, pick, need, map_res, ◌>>◌}
use Rattle.model.specs.Bytes.{Bytes, word16, flag, holds, part, concat}
use Rattle.model.specs.Outline.{Records, records, record_size, flags_of, id_of, before, last_of}
use Rattle.model.proofs.Bytes.{word16-drop}
use Rattle.model.proofs.Outline.{record_size-least, turn, records-turn}
use Rattle.model.proofs.Outlines.{records-same}
use Rattle.outline.specs.Places.{component_at, component_id, rest, ids_from, end_from}
use Rattle.outline.specs.declared.Component.{Component}
use Rattle.outline.specs.declared.Component.TheVariants.{More, Last}

pub map-map : {A B C : Type 0} (f : A → B) (g : B → C) (m : Res A) → map_res g (map_res f m) ≡ map_res (λ (a : A). g (f a)) m
map-map f g (refuse k) = refl
map-map f g (ok a) = refl

-- a word of a part; a part's length
pub word16-part : (b : Bytes) (at size i : ℕ) → i + 2 ≤ size → word16 (part b at size) i ≡ word16 b (at + i)
word16-part b at size i h =
    ap₂ (λ (x y : ℕ). x * 256 + y) (get_or-take size (drop at b) i 0 (omega arith)) (get_or-take size (drop at b) (i + 1) 0 (omega arith))
    ∙ word16-drop b at i

pub length_part : (b : Bytes) (at size : ℕ) → at + size ≤ length b → length (part b at size) ≡ size
length_part b at size h = simp (length-take, length-drop) (omega arith)

-- the test of a place is that of the part which starts there
holds-drop : (b : Bytes) (at size : ℕ) → 0 < size → holds (drop at b) 0 size ≡ holds b at size
holds-drop b at size h = go (leb (at + size) (length b)) refl
  where
    go : (t : Bool) → leb (at + size) (length b) ≡ t → leb (0 + size) (length (drop at b)) ≡ t
    go true e = le-leb (0 + size) (length (drop at b)) (simp length-drop (omega (arith, leb-true (at + size) (length b) e)))
    go false e = lt-leb (0 + size) (length (drop at b)) (simp length-drop (omega (arith, leb-false (at + size) (length b) e)))

-- the records from a place on, by what stands there
unfoldable pub follow : ℕ → Bytes → ℕ → Option Component → Res Records
follow n b at (Some (More id next)) = map_res (before (part b at (next - at))) (rest n b next)
follow n b at (Some (Last id next keep)) = ok (part b at (next - at) ∷ [], pick keep (drop next b) [])
follow n b at None = refuse 3

tests : (f : Option Component → Res Records) (x y : Option Component) (m l : Res Records) (head whole low more : Bool)
    → refuse 3 ≡ f None → m ≡ f x → l ≡ f y
    → (need 3 head >> (need 3 whole >> (need 3 low >> pick more m l)))
    ≡ f (pick head (pick whole (pick low (pick more x y) None) None) None)
tests f x y m l false whole low more z p q = z
tests f x y m l true false low more z p q = z
tests f x y m l true true false more z p q = z
tests f x y m l true true true true z p q = p
tests f x y m l true true true false z p q = q

module _ (n : ℕ) (b : Bytes) (at : ℕ) where
  flags-here : flags_of (drop at b) ≡ word16 b at
  flags-here = word16-drop b at 0 ∙ ap (λ (k : ℕ). word16 b k) (add-zero at)

  turn-here : (more : Res Records) → (size : ℕ) → size ≡ record_size (word16 b at)
      → turn n (drop at b) more
      ≡ (need 3 (holds b at 4) >> (need 3 (holds b at size) >> (need 3 (ltb (word16 b (at + 2)) n)
      >> pick (flag 0x0020 (word16 b at)) (map_res (before (part b at size)) more) (ok (last_of (part b at size) (drop (at + size) b))))))
  unfolding turn
  turn-here more size e =
      rw (flags-here, ← e, holds-drop b at 4 (omega arith), holds-drop b at size (omega (arith, record_size-least (word16 b at))), word16-drop b at 2, drop-drop size at b)

  followed_more : (size : ℕ) → map_res (before (part b at size)) (rest n b (at + size)) ≡ follow n b at (Some (More (word16 b (at + 2)) (at + size)))
  unfolding follow
  followed_more size = rw (add-sub_cancel_left at size)

  followed_last : (size : ℕ) → 2 ≤ size
      → ok (last_of (part b at size) (drop (at + size) b)) ≡ follow n b at (Some (Last (word16 b (at + 2)) (at + size) (flag 0x0100 (word16 b at))))
  unfolding follow
  followed_last size h =
      ap (λ (x : ℕ). ok (part b at size ∷ [], pick (flag 0x0100 x) (drop (at + size) b) []))
      (word16-part b at size 0 (omega arith) ∙ ap (λ (k : ℕ). word16 b k) (add-zero at))
      ∙ rw (add-sub_cancel_left at size)

  pub rest-follow : rest n b at ≡ follow n b at (component_at n b at)
  unfolding rest component_at
  rest-follow =
      let size : ℕ = record_size (word16 b at) in
      records-same n (length b) (suc (length b)) (drop at b) (simp length-drop (omega arith)) (simp length-drop (omega arith))
      ∙ records-turn n (length b) (drop at b)
      ∙ turn-here (records n (length b) (drop (record_size (flags_of (drop at b))) (drop at b))) size refl
      ∙ tests (follow n b at) (Some (More (word16 b (at + 2)) (at + size))) (Some (Last (word16 b (at + 2)) (at + size) (flag 0x0100 (word16 b at))))
      _ _ (holds b at 4) (holds b at size) (ltb (word16 b (at + 2)) n) (flag 0x0020 (word16 b at))
      nothing
      (ap (λ (k : ℕ). map_res (before (part b at size)) (records n (length b) (drop (record_size k) (drop at b)))) flags-here
      ∙ ap (λ (l : Bytes). map_res (before (part b at size)) (records n (length b) l)) (drop-drop size at b)
      ∙ followed_more size)
      (followed_last size (omega (arith, record_size-least (word16 b at))))
    where
      nothing : refuse 3 ≡ follow n b at None
      nothing = unfold follow in refl

-- what is known of a record that was found
pub record Taken (n : ℕ) (b : Bytes) (at id next : ℕ) : Type 0 where
  pub ahead : at + 6 ≤ next
  pub within : next ≤ length b
  pub low : id < n
  pub is-id : id ≡ word16 b (at + 2)

abbrev TakenOf : ℕ → Bytes → ℕ → Option Component → Type 0
TakenOf n b at (Some (More id next)) = Taken n b at id next
TakenOf n b at (Some (Last id next keep)) = Taken n b at id next
TakenOf n b at None = Unit {0}

module _ (n : ℕ) (b : Bytes) (at : ℕ) where
  taken : TakenOf n b at (component_at n b at)
  unfolding component_at
  taken = go (holds b at 4) (holds b at size) (ltb (word16 b (at + 2)) n) (flag 0x0020 (word16 b at)) refl refl
    where
      size : ℕ
      size = record_size (word16 b at)

      go : (head whole low more : Bool) → holds b at size ≡ whole → ltb (word16 b (at + 2)) n ≡ low
          → TakenOf n b at (pick head (pick whole (pick low (pick more (Some (More (word16 b (at + 2)) (at + size))) (Some (Last (word16 b (at + 2)) (at + size) (flag 0x0100 (word16 b at))))) None) None) None)
      go false whole low more e f = tt
      go true false low more e f = tt
      go true true false more e f = tt
      go true true true more e f = both more (record {
        ahead = omega (arith, record_size-least (word16 b at));
        within = leb-true (at + size) (length b) e;
        low = ltb-true (word16 b (at + 2)) n f;
        is-id = refl;
      })
        where
          both : (more : Bool) → Taken n b at (word16 b (at + 2)) (at + size) → TakenOf n b at (pick more (Some (More (word16 b (at + 2)) (at + size))) (Some (Last (word16 b (at + 2)) (at + size) (flag 0x0100 (word16 b at)))))
          both true t = t
          both false t = t

  pub taken_more : {id next : ℕ} → component_at n b at ≡ Some (More id next) → Taken n b at id next
  taken_more e = subst (TakenOf n b at) e taken

  pub taken-last : {id next : ℕ} {keep : Bool} → component_at n b at ≡ Some (Last id next keep) → Taken n b at id next
  taken-last e = subst (TakenOf n b at) e taken

  pub taken_low : (c : Component) → component_at n b at ≡ Some c → component_id c < n
  taken_low (More id next) e = (taken_more e).low
  taken_low (Last id next keep) e = (taken-last e).low

  pub rest_bad : component_at n b at ≡ None → rest n b at ≡ refuse 3
  unfolding follow
  rest_bad e = rest-follow n b at ∙ ap (follow n b at) e

  pub rest_more : {id next : ℕ} → component_at n b at ≡ Some (More id next) → rest n b at ≡ map_res (before (part b at (next - at))) (rest n b next)
  unfolding follow
  rest_more e = rest-follow n b at ∙ ap (follow n b at) e

  pub rest-last : {id next : ℕ} {keep : Bool} → component_at n b at ≡ Some (Last id next keep)
      → rest n b at ≡ ok (part b at (next - at) ∷ [], pick keep (drop next b) [])
  unfolding follow
  rest-last e = rest-follow n b at ∙ ap (follow n b at) e

  -- a taken record's id is the one at its place; its bytes are all there
  pub taken-id : {id next : ℕ} → Taken n b at id next → id_of (part b at (next - at)) ≡ id
  taken-id {next = next} t = word16-part b at (next - at) 2 (omega arith) ∙ sym t.is-id

  pub taken-length : {id next : ℕ} → Taken n b at id next → length (part b at (next - at)) ≡ next - at
  taken-length {next = next} t = length_part b at (next - at) (omega arith)

  -- the ids from a place on
  pub ids_bad : component_at n b at ≡ None → ids_from n b at ≡ refuse 3
  unfolding ids_from
  ids_bad e = ap (λ m. map_res (λ (r : Records). map id_of r.0) m) (rest_bad e)

  pub ids_more : {id next : ℕ} → component_at n b at ≡ Some (More id next) → ids_from n b at ≡ map_res (λ (l : List ℕ). id ∷ l) (ids_from n b next)
  unfolding ids_from
  ids_more {id = id} {next = next} e =
      ap (λ m. map_res (λ (r : Records). map id_of r.0) m) (rest_more e)
      ∙ map-map (before (part b at (next - at))) (λ (r : Records). map id_of r.0) (rest n b next)
      ∙ ap (λ (x : ℕ). map_res (λ (r : Records). x ∷ map id_of r.0) (rest n b next)) (taken-id (taken_more e))
      ∙ sym (map-map (λ (r : Records). map id_of r.0) (λ (l : List ℕ). id ∷ l) (rest n b next))

  pub ids-last : {id next : ℕ} {keep : Bool} → component_at n b at ≡ Some (Last id next keep) → ids_from n b at ≡ ok (id ∷ [])
  unfolding ids_from
  ids-last e = ap (λ m. map_res (λ (r : Records). map id_of r.0) m) (rest-last e) ∙ ap (λ (x : ℕ). ok (x ∷ [])) (taken-id (taken-last e))

  -- where the kept bytes end, from a place on
  pub end_bad : component_at n b at ≡ None → end_from n b at ≡ refuse 3
  unfolding end_from
  end_bad e = ap (λ m. map_res (λ (r : Records). at + length (concat r.0 ++ r.1)) m) (rest_bad e)

  pub end_more : {id next : ℕ} → component_at n b at ≡ Some (More id next) → end_from n b at ≡ end_from n b next
  unfolding end_from
  end_more {id = id} {next = next} e =
      ap (λ m. map_res (λ (r : Records). at + length (concat r.0 ++ r.1)) m) (rest_more e) ∙ go (rest n b next)
    where
      t : Taken n b at id next
      t = taken_more e

      go : (m : Res Records) → map_res (λ (r : Records). at + length (concat r.0 ++ r.1)) (map_res (before (part b at (next - at))) m)
          ≡ map_res (λ (r : Records). next + length (concat r.0 ++ r.1)) m
      go (refuse k) = refl
      go (ok r) =
          let grown : at + length ((part b at (next - at) ++ concat r.0) ++ r.1) ≡ next + length (concat r.0 ++ r.1) = simp (length-append, taken-length t) (omega (arith, t.ahead)) in
          ap ok grown

  pub end_last : {id next : ℕ} {keep : Bool} → component_at n b at ≡ Some (Last id next keep) → end_from n b at ≡ ok (pick keep (length b) next)
  unfolding end_from
  end_last {id = id} {next = next} {keep = keep} e =
      ap (λ m. map_res (λ (r : Records). at + length (concat r.0 ++ r.1)) m) (rest-last e) ∙ ap ok (go keep)
    where
      t : Taken n b at id next
      t = taken-last e

      go : (keep : Bool) → at + length ((part b at (next - at) ++ []) ++ pick keep (drop next b) []) ≡ pick keep (length b) next
      go true = simp (length-append, taken-length t, length-drop) (omega (arith, t.ahead, t.within))
      go false = simp (length-append, taken-length t) (omega (arith, t.ahead))
