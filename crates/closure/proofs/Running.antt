-- All turns are the walk: at each there are turns left and a state of the walk that the scratch holds, such that going on from it gives the whole;
-- and the sums are over those read, the roster from the place `left` on.
use Rattle.std.proofs.Common.{◌≡◌, refl, sym, ap, ◌∙◌, subst, List, [], reverse, ℕ, zero, suc, ◌+◌, ◌*◌, ◌%◌, ◌≤◌, ◌<◌, arith, length, take, drop, length-drop, drop_of_length-le, Option, None, Some, Result, Ok, Err}
use lib.Seq.{take-length}
use Rattle.model.specs.Res.{Res}
use Rattle.model.specs.Walk.{Walk, going, kept, refused}
use Rattle.model.proofs.Thin.{step_t, run_t, Done, run_t_done}
use Rattle.remapper.specs.State.{Walking, Numbering}
use Rattle.remapper.proofs.Numbering.{walking_room}
use Rattle.closure.specs.Turns.{stack, Underway, Holds, At, Turned, Summed, Ends, Ran}
use Rattle.answer.specs.declared.Refusal.{Refusal}
use Rattle.closure.specs.declared.Turn.{Turn}
use Rattle.closure.proofs.Sums.{summed_none, summed_more, summed_small}

-- a length read, and the sums so far, are small
pub record Fit (more even raw : ℕ) : Type 0 where
  pub one : more < 4294967296
  pub evens : even ≤ 281474976710656
  pub raws : raw ≤ 281474976710656

module _ (parts : ℕ → Res (List ℕ)) (lengths : ℕ → ℕ) (n : ℕ) where
  -- from this state, some turns on, the walk is whole
  abbrev Onward : List ℕ → ℕ → ℕ → ℕ → ℕ → Walk → Type 0
  Onward s count left even raw whole =
      (turns : ℕ) × (r : List ℕ) × (st : List ℕ) × Holds n s count left r st × Summed lengths (drop left r) even raw × (run_t parts turns (going r st) ≡ whole)

  -- and so it is from what a turn makes of it
  abbrev After : List ℕ → ℕ → Result (Option Turn) Refusal → ℕ → ℕ → Walk → Type 0
  After s count a even raw whole =
      (turns : ℕ) × (w : Walk) × (before : List ℕ) × At lengths n s count before a w × Summed lengths before even raw × (run_t parts turns w ≡ whole)

  abbrev Live : List ℕ → ℕ → ℕ → ℕ → ℕ → Type 0
  Live s count left even raw = (u : Underway n s count left) × Summed lengths (drop left u.0) even raw

  pub record Running (s₀ : List ℕ) (count₀ : ℕ) (s : List ℕ) (count left even raw : ℕ) : Type 0 where
    pub past : drop (4 * n) s ≡ drop (4 * n) s₀
    pub size : length s ≡ length s₀
    pub live : Live s count left even raw
    pub sim : (r : List ℕ) → Walking n s₀ r [] → count₀ ≡ length r → (turns : ℕ) → Done (run_t parts turns (going r (reverse r)))
        → Onward s count left even raw (run_t parts turns (going r (reverse r)))

  pub running_start : (s : List ℕ) (count : ℕ) → Numbering n s count → Running s count s count count 0 0
  running_start s count v =
      record {
        past = refl;
        size = refl;
        live = ((v.0, [], v.1, v.2, omega (arith, v.2)), none v.0 v.2);
        sim = λ r u c f d. (
          f,
          r,
          reverse r,
          ([], u, c, omega arith, ap reverse (sym (ap (λ (t : ℕ). take t r) c ∙ take-length r))),
          none r c,
          refl,
        );
      }
    where
      none : (r : List ℕ) → count ≡ length r → Summed lengths (drop count r) 0 0
      none r c =
          let all : length r ≤ count = omega (arith, c) in
          subst (λ (l : List ℕ). Summed lengths l 0 0) (sym (drop_of_length-le r all)) (summed_none lengths)

  module _ (s₀ : List ℕ) (count₀ : ℕ) (s : List ℕ) (count left even raw : ℕ) (v : Running s₀ count₀ s count left even raw) (s' : List ℕ) where
    abbrev h : Underway n s count left
    h = v.live.0

    now : (a : Result (Option Turn) Refusal) → Turned parts lengths n s s' count left a → At lengths n s' count (drop left h.0) a (step_t parts (going h.0 (stack h.0 h.1 left)))
    now a t = t.at h.0 h.1 h.2 h.3 h.4

    -- a turn on
    next : (a : Result (Option Turn) Refusal) → Turned parts lengths n s s' count left a → (whole : Walk) → Done whole → Onward s count left even raw whole → After s' count a even raw whole
    next a t whole d (zero, r, st, at, z, e) = absurd (subst Done (sym e) d)
    next a t whole d (suc turns, r, st, at, z, e) = (
      turns,
      step_t parts (going r (stack r at.0 left)),
      drop left r,
      t.at r at.0 at.1 at.2 at.3,
      z,
      subst (λ (x : List ℕ). run_t parts turns (step_t parts (going r x)) ≡ whole) at.4 e,
    )

    after : (a : Result (Option Turn) Refusal) → Turned parts lengths n s s' count left a → (r : List ℕ) → Walking n s₀ r [] → count₀ ≡ length r → (turns : ℕ) → Done (run_t parts turns (going r (reverse r)))
        → After s' count a even raw (run_t parts turns (going r (reverse r)))
    after a t r u c f d = next a t (run_t parts f (going r (reverse r))) d (v.sim r u c f d)

    pub running-on : (t : Turn) → Turned parts lengths n s s' count left (Ok (Some t)) → length s' ≡ length s
        → Running s₀ count₀ s' t.count t.left (even + (t.length + t.length % 2)) (raw + t.length)
    running-on t v' e =
        record {
          past = v'.past ∙ v.past;
          size = e ∙ v.size;
          live = live (step_t parts (going h.0 (stack h.0 h.1 left))) (now (Ok (Some t)) v');
          sim = λ r u c f d. again (run_t parts f (going r (reverse r))) (after (Ok (Some t)) v' r u c f d);
        }
      where
        live : (w : Walk) → At lengths n s' count (drop left h.0) (Ok (Some t)) w → Live s' t.count t.left (even + (t.length + t.length % 2)) (raw + t.length)
        live (going r st) a = ((r, a.0.0, a.0.1, a.0.2, a.0.3), summed_more lengths (drop left h.0) (drop t.left r) t.length even raw a.1 v.live.1)
        live (kept r) a = absurd a
        live (refused j) a = absurd a

        again : (whole : Walk) → After s' count (Ok (Some t)) even raw whole → Onward s' t.count t.left (even + (t.length + t.length % 2)) (raw + t.length) whole
        again whole (turns, going r st, before, at, z, e) = (turns, r, st, at.0, summed_more lengths before (drop t.left r) t.length even raw at.1 z, e)
        again whole (turns, kept r, before, at, z, e) = absurd at
        again whole (turns, refused j, before, at, z, e) = absurd at

    pub ran-end : Turned parts lengths n s s' count left (Ok None) → Ran parts lengths n s₀ s' count₀ (Ok (record { kept = count; even = even; raw = raw }))
    ran-end t =
        record { past = t.past ∙ v.past; ends = λ r u c f d. last (run_t parts f (going r (reverse r))) (after (Ok None) t r u c f d) }
      where
        last : (whole : Walk) → After s' count (Ok None) even raw whole → Ends lengths n s' (Ok (record { kept = count; even = even; raw = raw })) whole
        last whole (turns, going r st, before, at, z, e) = absurd at
        last whole (turns, kept r, before, at, z, e) =
            subst (Ends lengths n s' (Ok (record { kept = count; even = even; raw = raw }))) (sym (run_t_done parts turns (kept r) tt) ∙ e)
            (at.0, at.1, subst (λ (l : List ℕ). Summed lengths l even raw) at.2 z)
        last whole (turns, refused j, before, at, z, e) = absurd at

    pub ran-no : (e : Refusal) → Turned parts lengths n s s' count left (Err e) → Ran parts lengths n s₀ s' count₀ (Err e)
    ran-no e t =
        record { past = t.past ∙ v.past; ends = λ r u c f d. last (run_t parts f (going r (reverse r))) (after (Err e) t r u c f d) }
      where
        last : (whole : Walk) → After s' count (Err e) even raw whole → Ends lengths n s' (Err e) whole
        last whole (turns, going r st, before, at, z, q) = absurd at
        last whole (turns, kept r, before, at, z, q) = absurd at
        last whole (turns, refused j, before, at, z, q) = subst (Ends lengths n s' (Err e)) (sym (run_t_done parts turns (refused j) tt) ∙ q) at

    -- a length read is below 2^32
    read_small : ((g : ℕ) → lengths g < 4294967296) → (t : Turn) → Turned parts lengths n s s' count left (Ok (Some t)) → t.length < 4294967296
    read_small small t v' = go (step_t parts (going h.0 (stack h.0 h.1 left))) (now (Ok (Some t)) v')
      where
        go : (w : Walk) → At lengths n s' count (drop left h.0) (Ok (Some t)) w → t.length < 4294967296
        go (going r st) a = omega (arith, a.1.size, small a.1.g)
        go (kept r) a = absurd a
        go (refused j) a = absurd a

  -- and the sums so far fit: they are of at most 65,536 lengths
  sums-small : (s₀ : List ℕ) (count₀ : ℕ) (s : List ℕ) (count left even raw : ℕ) → Running s₀ count₀ s count left even raw → ((g : ℕ) → lengths g < 4294967296) → n ≤ 65536
      → (even ≤ 281474976710656) × (raw ≤ 281474976710656)
  sums-small s₀ count₀ s count left even raw v small few =
      let u = v.live.0 in
      let z = summed_small lengths small (drop left u.0) even raw v.live.1 in
      let l : length (drop left u.0) ≤ 65536 = simp length-drop (omega (arith, few, walking_room n s u.0 u.1 u.2)) in
      (omega (arith, z.0, l), omega (arith, z.1, l))

  pub sums_fit : {s₀ : List ℕ} {count₀ : ℕ} {s : List ℕ} {count left even raw : ℕ} (v : Running s₀ count₀ s count left even raw) → ((g : ℕ) → lengths g < 4294967296) → n ≤ 65536
      → {s' : List ℕ} {t : Turn} → Turned parts lengths n s s' count left (Ok (Some t)) → Fit t.length even raw
  sums_fit {s₀} {count₀} {s} {count} {left} {even} {raw} v small few {s'} {t} turned =
      let sums = sums-small s₀ count₀ s count left even raw v small few in
      record { one = read_small s₀ count₀ s count left even raw v s' small t turned; evens = sums.0; raws = sums.1 }
