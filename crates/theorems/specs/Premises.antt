-- Cutting twice needs both of its premises: without either there is a font for which the two ways differ. And they can be met.
use Rattle.std.specs.Prelude.{◌≡◌, List, ℕ}
use Rattle.model.specs.Call.{Input, answer}
use Rattle.theorems.specs.Twice.{AreBytes, Hhea36, Named, FirstCut, Asked, Same}

-- calls that differ, where P holds of the first
pub record Differ (P : Input → Type 0) : Type 0 where
  pub first : Input
  pub small : Input
  pub direct : Input
  pub glyphs : List ℕ
  pub bytes : AreBytes first.font
  pub success : (answer first).refusal ≡ 0
  pub premise : P first
  pub asked : Asked first glyphs small direct
  pub differ : Same first small direct → ⊥

-- no name is missing, but hhea is not of 36 bytes
abbrev pub HheaNeeded : Type 0
HheaNeeded = Differ Named

-- hhea is of 36 bytes, but a name is missing
abbrev pub NamesNeeded : Type 0
NamesNeeded = Differ Hhea36

-- calls of which all premises hold, and that succeed: what is said of cutting twice is said of something
pub record PremisesMet : Type 0 where
  pub first : Input
  pub small : Input
  pub direct : Input
  pub glyphs : List ℕ
  pub cut : FirstCut first
  pub asked : Asked first glyphs small direct
  pub again : (answer small).refusal ≡ 0
