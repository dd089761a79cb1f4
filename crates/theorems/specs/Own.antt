-- A subset cut to all its own glyphs, in order, is the same file (with the premises of cutting twice on the font it came from).
use Rattle.std.specs.Prelude.{◌≡◌, List, [], ◌∷◌, ℕ, zero, suc, ◌≤◌, length}
use Rattle.model.specs.Call.{Input, answer}
use Rattle.theorems.specs.Twice.{file_of, FirstCut, ScratchEnough}

-- n numbers from i on
abbrev pub counting : ℕ → ℕ → List ℕ
counting i zero = []
counting i (suc n) = i ∷ counting (suc i) n

abbrev pub OwnGlyphs : Type 0
OwnGlyphs =
    (first small : Input) → FirstCut first → small.font ≡ file_of first → small.ids ≡ counting 0 (answer first).kept
    → (answer first).length ≤ length small.out → ScratchEnough small → (answer small ≡ answer first) × (file_of small ≡ file_of first)
