-- "The walk": which glyphs are kept, and which new number each gets.
use Rattle.std.specs.Prelude.{Bool, not, List, [], ◌∷◌, ◌++◌, reverse, ℕ, zero, suc, leb, eqb, length}
use Rattle.model.specs.Res.{Res, refuse, ok, pick, both}
use Rattle.model.specs.Bytes.{member}

-- the walk goes on, with a roster (old ids in new order) and a stack (the top first); it ends in a roster or a refusal
pub data Walk : Type 0 where
  going : List ℕ → List ℕ → Walk
  kept : List ℕ → Walk
  refused : ℕ → Walk

-- "number it if unnumbered": it gets the next number
unfoldable pub numbered : List ℕ → ℕ → List ℕ
numbered r g = pick (member g r) r (r ++ (g ∷ []))

-- "the 65,536th is 7": g is unnumbered, and `most` numbers are given
abbrev pub most : ℕ
most = 65535

unfoldable pub full : List ℕ → ℕ → Bool
full r g = both (not (member g r)) (leb most (length r))

-- "push its components that are unnumbered, in record order"
abbrev pub push : List ℕ → List ℕ → List ℕ → List ℕ
push r [] stack = stack
push r (c ∷ cs) stack = push r cs (pick (member c r) stack (c ∷ stack))

-- "read its whole outline; only then push"
abbrev pub opened : Res (List ℕ) → List ℕ → List ℕ → Walk
opened (refuse k) r stack = refused k
opened (ok cs) r stack = going r (push r cs stack)

-- "Take the top one; number it if unnumbered (the 65,536th is 7); read its whole outline": `parts g` reads glyph g's outline and lists its components
abbrev pub step : (ℕ → Res (List ℕ)) → List ℕ → List ℕ → Walk
step parts r [] = kept r
step parts r (g ∷ stack) = pick (full r g) (refused 7) (opened (parts g) (numbered r g) stack)

-- "Repeat until empty": so many turns at the most
abbrev pub run : (ℕ → Res (List ℕ)) → ℕ → Walk → Walk
run parts zero w = w
run parts (suc turns) (going r stack) = run parts turns (step parts r stack)
run parts (suc turns) (kept r) = kept r
run parts (suc turns) (refused k) = refused k

-- "Then the requests in list order, first appearances only; an id of n or more is 3; numbering a 65,536th, here or later, is 7.
-- All numbered ids go on a stack in that order"
abbrev pub seed : ℕ → List ℕ → List ℕ → Walk
seed n r [] = going r (reverse r)
seed n r (q ∷ qs) = pick (leb n q) (refused 3) (pick (full r q) (refused 7) (seed n (numbered r q) qs))

-- "If n is 0: 3. Glyph 0 gets number 0."
unfoldable pub begin : ℕ → List ℕ → Walk
begin n ids = pick (eqb n 0) (refused 3) (seed n (0 ∷ []) ids)

-- a walk still going would be refusal 0; with the turns that Cut gives it none is (theorem `turns-enough`)
abbrev pub ended : Walk → Res (List ℕ)
ended (going r stack) = refuse 0
ended (kept r) = ok r
ended (refused k) = refuse k

-- the whole walk of a font with n glyphs
unfoldable pub walk : ℕ → ℕ → (ℕ → Res (List ℕ)) → List ℕ → Res (List ℕ)
walk turns n parts ids = ended (run parts turns (begin n ids))

-- the requests' first appearances, behind the ids there are
abbrev pub firsts : List ℕ → List ℕ → List ℕ
firsts r [] = r
firsts r (q ∷ qs) = firsts (numbered r q) qs

-- "A component pushed again may move to the top: its older entry would number nothing": the walk that does so, which the code takes
-- (theorem `moving_to_top`: it keeps the same roster)
abbrev pub without : ℕ → List ℕ → List ℕ
without c [] = []
without c (x ∷ l) = pick (eqb x c) (without c l) (x ∷ without c l)

-- each component that has no number goes to the top, and away from where it stood
abbrev pub to_top : List ℕ → List ℕ → List ℕ → List ℕ
to_top r [] stack = stack
to_top r (c ∷ cs) stack = to_top r cs (pick (member c r) stack (c ∷ without c stack))

abbrev pub opened_t : Res (List ℕ) → List ℕ → List ℕ → Walk
opened_t (refuse k) r stack = refused k
opened_t (ok cs) r stack = going r (to_top r cs stack)

abbrev pub step_t : (ℕ → Res (List ℕ)) → Walk → Walk
step_t parts (going r []) = kept r
step_t parts (going r (g ∷ stack)) = pick (full r g) (refused 7) (opened_t (parts g) (numbered r g) stack)
step_t parts (kept r) = kept r
step_t parts (refused k) = refused k

abbrev pub run_t : (ℕ → Res (List ℕ)) → ℕ → Walk → Walk
run_t parts zero w = w
run_t parts (suc turns) w = run_t parts turns (step_t parts w)

abbrev pub walk_t : ℕ → ℕ → (ℕ → Res (List ℕ)) → List ℕ → Res (List ℕ)
walk_t turns n parts ids = ended (run_t parts turns (begin n ids))

-- it has ended
abbrev pub Done : Walk → Type 0
Done (going r stack) = ⊥
Done (kept r) = Unit {0}
Done (refused k) = Unit {0}
