-- One request, test by test: each answer is what the walk makes of the roster.
use Rattle.std.proofs.Common.{ℕ, ◌+◌, ◌*◌, ◌≤◌, ◌<◌, false, List, [], ◌∷◌, ◌++◌, ◌≡◌, refl, sym, ap, ◌∙◌, subst, arith, length, drop, length-append, le-leb, Ok, Err}
use borrow.Author.Tests.{lt-leb}
use Rattle.model.specs.Bytes.{member}
use Rattle.model.specs.Walk.{full, most}
use Rattle.model.proofs.Members.{In, numbered_in, numbered-new, full_in}
use Rattle.remapper.specs.Scratch.{num, given}
use Rattle.remapper.specs.State.{Walking, Numbering, Asked}
use Rattle.answer.specs.declared.Refusal.TheVariants.{MalformedFont, TooManyGlyphs}
use Rattle.remapper.proofs.Numbering.{number-none, number-some, more_room, walking-given, past-given}

module _ (n : ℕ) (s : List ℕ) (q count : ℕ) (v : Numbering n s count) where
  pub asked-out : n ≤ q → Asked n s s q count (Err MalformedFont)
  asked-out h = record { past = refl; counts = λ r u c. rw (le-leb n q h) refl }

  module _ (low : q < n) where
    pub asked-old : (num n s q ≡ 0 → ⊥) → Asked n s s q count (Ok count)
    asked-old k = record { past = refl; counts = λ r u c. let m = here r u in rw (lt-leb n q low, full_in r q m, numbered_in r q m) (u, c) }
      where
        here : (r : List ℕ) → Walking n s r [] → In q r
        here r u = number-some r q (λ e. k (u.rostered.numbers q low ∙ e))

    module _ (free : num n s q ≡ 0) where
      new : (r : List ℕ) → Walking n s r [] → member q r ≡ false
      new r u = number-none r q (sym (u.rostered.numbers q low) ∙ free)

      pub asked-full : most ≤ count → Asked n s s q count (Err TooManyGlyphs)
      unfolding full
      asked-full b = record { past = refl; counts = λ r u c. rw (lt-leb n q low, new r u, le-leb most (length r) (omega arith)) refl }

      pub asking-room : count < n
      asking-room = omega (arith, v.2, more_room n s v.0 [] v.1 q low (new v.0 v.1))

      pub asked-new : (s' : List ℕ) → count < most → s' ≡ given n s q count → Asked n s s' q count (Ok (count + 1))
      unfolding full
      asked-new s' b e =
          record {
            past =
                ap (drop (4 * n)) (e ∙ ap (given n s q) v.2)
                ∙ past-given n s v.0 q v.1.waits.linked.size (more_room n s v.0 [] v.1 q low (new v.0 v.1)) low;
            counts = λ r u c.
                rw (lt-leb n q low, new r u, lt-leb most (length r) (omega arith), numbered-new r q (new r u))
                (subst (λ (t : List ℕ). Walking n t (r ++ (q ∷ [])) []) (sym (e ∙ ap (given n s q) c)) (walking-given n s r [] u q low (new r u) refl), omega (arith, c, length-append r (q ∷ [])));
          }
