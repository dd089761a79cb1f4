-- One turn of reading records; records that were read are as long with new ids, and no longer than what they were read from.
use mathlib.Core.Path.{◌≡◌, refl, ◌∙◌}
use mathlib.Core.Bool.{Bool, true, false}
use mathlib.Core.List.{[], ◌∷◌, ◌++◌, map}
use Prim.Native.Nat.{ℕ, zero, suc, ◌+◌, ◌≤◌}
use native.Mathlib.Omega.{arith}
use lib.Dec.{ltb}
use lib.ListN.{length, take, drop, length-append, length-take, length-drop}
use lib.Seq.{length-take-le}
use borrow.Author.Tests.{leb-true}
use Rattle.model.specs.Res.{Res, refuse, ok, pick, need, map_res, ◌>>◌}
use Rattle.model.specs.Bytes.{Bytes, flag, holds, concat}
use Rattle.model.specs.Outline.{Records, records, record_size, flags_of, id_of, before, last_of, renumber_record}

-- what a turn makes of the records that follow
unfoldable pub turn : ℕ → Bytes → Res Records → Res Records
turn n b more =
    need 3 (holds b 0 4)
    >> (need 3 (holds b 0 (record_size (flags_of b)))
    >> (need 3 (ltb (id_of b) n)
    >> pick (flag 0x0020 (flags_of b))
    (map_res (before (take (record_size (flags_of b)) b)) more)
    (ok (last_of (take (record_size (flags_of b)) b) (drop (record_size (flags_of b)) b)))))

pub records-turn : (n turns : ℕ) (b : Bytes) → records n (suc turns) b ≡ turn n b (records n turns (drop (record_size (flags_of b)) b))
unfolding records turn
records-turn n turns b = refl

-- a record with a new id is as long as before
pub length-renumber_record : (new : ℕ → ℕ) (r : Bytes) → 4 ≤ length r → length (renumber_record new r) ≡ length r
length-renumber_record new r h = simp (length-append, length-take, length-drop) (omega arith)

-- records that were read, and what is kept behind them: as long with new ids, and no longer than what they were read from
pub record Kept (new : ℕ → ℕ) (b : Bytes) (rs : Records) : Type 0 where
  pub same : length (concat (map (renumber_record new) rs.0) ++ rs.1) ≡ length (concat rs.0 ++ rs.1)
  pub within : length (concat rs.0 ++ rs.1) ≤ length b

abbrev pub KeptOf : (ℕ → ℕ) → Bytes → Res Records → Type 0
KeptOf new b (refuse k) = Unit {0}
KeptOf new b (ok rs) = Kept new b rs

pub record_size-least : (flags : ℕ) → 6 ≤ record_size flags
record_size-least flags = omega (arith, least (flag 0x0001 flags))
  where
    least : (t : Bool) → 2 ≤ pick t 4 2
    least true = omega arith
    least false = omega arith

module _ (new : ℕ → ℕ) (b : Bytes) (size : ℕ) (four : 4 ≤ size) (whole : size ≤ length b) where
  taken : length (take size b) ≡ size
  taken = length-take-le size b whole

  again : length (renumber_record new (take size b)) ≡ size
  again = length-renumber_record new (take size b) (omega (arith, taken)) ∙ taken

  kept-before : (m : Res Records) → KeptOf new (drop size b) m → KeptOf new b (map_res (before (take size b)) m)
  kept-before (refuse k) h = tt
  kept-before (ok rs) h =
      record {
        same =
            let e : length ((renumber_record new (take size b) ++ concat (map (renumber_record new) rs.0)) ++ rs.1) ≡ length ((take size b ++ concat rs.0) ++ rs.1) =
            simp (length-append, taken) (omega (arith, simp length-append at again, simp length-append at h.same)) in
            e;
        within =
            let e : length ((take size b ++ concat rs.0) ++ rs.1) ≤ length b =
            simp (length-append, taken) (omega (arith, simp (length-append, length-drop) at h.within)) in
            e;
      }

  kept-last : (keep : Bool) → Kept new b (take size b ∷ [], pick keep (drop size b) [])
  kept-last true = record { same = simp (length-append, taken) (omega (arith, simp length-append at again)); within = simp (length-append, taken, length-drop) (omega arith) }
  kept-last false = record { same = simp (length-append, taken) (omega (arith, simp length-append at again)); within = simp (length-append, taken) (omega arith) }

pub records-kept : (n turns : ℕ) (new : ℕ → ℕ) (b : Bytes) → KeptOf new b (records n turns b)
unfolding records
records-kept n zero new b = tt
records-kept n (suc turns) new b =
    go (holds b 0 4) (holds b 0 size) (ltb (id_of b) n) (flag 0x0020 (flags_of b)) refl (records-kept n turns new (drop size b))
  where
    size : ℕ
    size = record_size (flags_of b)

    go : (head whole low more : Bool) → holds b 0 size ≡ whole → KeptOf new (drop size b) (records n turns (drop size b))
        → KeptOf new b (need 3 head >> (need 3 whole >> (need 3 low >> pick more (map_res (before (take size b)) (records n turns (drop size b))) (ok (last_of (take size b) (drop size b))))))
    go false whole low more e ih = tt
    go true false low more e ih = tt
    go true true false more e ih = tt
    go true true true true e ih = kept-before new b size (omega (arith, record_size-least (flags_of b))) (omega (arith, leb-true (0 + size) (length b) e)) (records n turns (drop size b)) ih
    go true true true false e ih = kept-last new b size (omega (arith, record_size-least (flags_of b))) (omega (arith, leb-true (0 + size) (length b) e)) (flag 0x0100 (flags_of (take size b)))
