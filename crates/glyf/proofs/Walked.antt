-- What the walk makes sure of is what writing asks for: the theorems about the closure, in this crate's terms; and what it added up is what is written.
use Rattle.std.proofs.Common.{◌≡◌, refl, sym, ap, ap₂, ◌∙◌, subst, true, List, [], ◌∷◌, map, ℕ, ◌+◌, ◌*◌, ◌≤◌, arith, length, get_or, take, length-take}
use Rattle.model.specs.Res.{Res, refuse, ok, each, is_ok, value_of}
use Rattle.model.specs.Bytes.{Bytes, pad2, sum, member, place}
use Rattle.model.specs.Font.{Tables}
use Rattle.model.specs.Glyf.{Width, short, width_of}
use Rattle.model.specs.Cut.{count, outline_of, parts_of, closure}
use Rattle.model.proofs.Res.{ok_inj, bind_inv}
use Rattle.model.proofs.Thin.{ids}
use Rattle.model.proofs.Least.{Roster}
use Rattle.model.proofs.Closure.{closure-roster, pieces-known}
use Rattle.glyf.specs.Pieces.{outline_at, piece, pieces, length_at, raised_to, Readable, Numbered, Measured}
use Rattle.glyf.proofs.Pieces.{each-piece_of, entries-all, value_of_lem, length-read}
use Rattle.glyf.proofs.Tables.{length-padded}

module _ (t : Tables) (qs r : List ℕ) (e : closure t qs ≡ ok r) where
  walked : Roster (count t) (parts_of t) qs r
  walked = closure-roster t qs r e

  pub readable_from : Readable (width_of t.head) (count t) t.loca t.glyf r
  readable_from =
      record {
        few = walked.size;
        entries = entries-all (width_of t.head) t.loca (walked.within 0 walked.zeroth);
        low = walked.within;
        read = ap is_ok (sym (each-piece_of t (place r) r) ∙ (pieces-known t qs r e).1);
      }

  -- with the roster at the scratch's start, and each number + 1 behind n places
  pub numbered_from : (scratch : List ℕ) → take (length r) scratch ≡ r → 2 * count t ≤ length scratch
      → ((g : ℕ) → member g r ≡ true → get_or scratch (count t + g) 0 ≡ place r g + 1)
      → Numbered (width_of t.head) (count t) t.loca t.glyf scratch (length r)
  unfolding parts_of outline_of outline_at
  numbered_from scratch front room numbers =
      record {
        readable = subst (Readable (width_of t.head) (count t) t.loca t.glyf) (sym front) readable_from;
        roster = omega (arith, ap length front, length-take (length r) scratch);
        room = room;
        numbers = subst (λ (x : List ℕ). (g : ℕ) → member g x ≡ true → get_or scratch (count t + g) 0 ≡ place x g + 1) (sym front) numbers;
        closed = subst (λ (x : List ℕ). (g id : ℕ) → member g x ≡ true → member id (value_of [] (parts_of t g)) ≡ true → member id x ≡ true) (sym front)
            (λ g id m k. walked.closed g m id (rw (ids-value (parts_of t g)) k));
      }
    where
      ids-value : (m : Res (List ℕ)) → ids m ≡ value_of [] m
      ids-value (refuse k) = refl
      ids-value (ok cs) = refl

-- the roster's lengths are those of its pieces
module _ (w : Width) (n : ℕ) (loca glyf : Bytes) where
  lengths_each : (new k : ℕ → ℕ) (h : Bytes → ℕ) → ((b : Bytes) → h b ≡ k (length b)) → (xs : List ℕ) (bs : List Bytes) → each (piece w n loca glyf new) xs ≡ ok bs
      → map (λ (g : ℕ). k (length_at w n loca glyf g)) xs ≡ map h bs
  lengths_each new k h is [] bs e = ap (map h) (ok_inj e)
  lengths_each new k h is (x ∷ xs) bs e =
      let a = bind_inv (piece w n loca glyf new x) _ bs e in
      let c = bind_inv (each (piece w n loca glyf new) xs) _ bs a.then in
      ap₂ {C = List ℕ} (λ (y : ℕ) (l : List ℕ). y ∷ l) (ap k (sym (length-read w n loca glyf new x a.value a.first)) ∙ sym (is a.value)) (lengths_each new k h is xs c.value c.first)
      ∙ ap (map h) (ok_inj c.then)

  pub measured-roster : (roster : List ℕ) → Readable w n loca glyf roster
      → Measured (pieces w n loca glyf roster) (sum (map (λ (g : ℕ). raised_to short (length_at w n loca glyf g)) roster)) (sum (map (length_at w n loca glyf) roster))
  unfolding pieces
  measured-roster roster r =
      let all = value_of_lem [] (each (piece w n loca glyf (place roster)) roster) r.read in
      record {
        is_even = ap sum (lengths_each (place roster) (raised_to short) (λ (b : Bytes). length (pad2 b)) (length-padded short) roster (pieces w n loca glyf roster) all);
        is_raw = ap sum (lengths_each (place roster) (λ (x : ℕ). x) (λ (b : Bytes). length b) (λ b. refl) roster (pieces w n loca glyf roster) all);
      }
