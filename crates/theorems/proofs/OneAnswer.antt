-- The promise is three equalities with functions of the input: two that meet it are equal to the same.
use mathlib.Core.Path.{refl, sym, ◌∙◌}
use Rattle.theorems.specs.OneAnswer.{OneAnswer}

pub one_answer : OneAnswer
one_answer =
    record {
      some = λ x. record { answers = refl; writes = refl; leaves = refl };
      only = λ x r r' o o' s s' p q. (p.answers ∙ sym q.answers, p.writes ∙ sym q.writes, p.leaves ∙ sym q.leaves);
    }
