-- The fold is over the range's numbers, and its bits are 0 only where each number is.
use Rattle.std.proofs.Common.{◌≡◌, ℕ, ◌+◌, ◌-◌, List, length, take, drop, rules, arith, sym, ◌∙◌, length-drop, bit_or, length-take-le, get_or-take, get_or-drop}
use Rattle.std.proofs.lemmas.Iterator.{YieldsList-from_slice}
use Rattle.std.proofs.lemmas.Iterator.Consumers.{fold_from_yields_List}
use Rattle.remapper.proofs.Clears.{zero-bits}
use Rattle.remapper.proofs.bits.Goals as goal

pub returns : goal.returns
returns c e j h =
    let a = c.args in
    let part : List ℕ = take (a.at + a.count - a.at) (drop a.at a.s.now) in
    let all = fold_from_yields_List _ bit_or 0 c.fold.result c.fold.ensures.ran (YieldsList-from_slice part c.iter.ensures.rest) (λ p x b q k. search rules) in
    let size : length part ≡ a.at + a.count - a.at = length-take-le _ (drop a.at a.s.now) (omega (arith, length-drop a.at a.s.now)) in
    sym (get_or-drop a.at a.s.now j 0)
    ∙ sym (get_or-take (a.at + a.count - a.at) (drop a.at a.s.now) j 0 (omega arith))
    ∙ (zero-bits 0 part (sym all ∙ e)).1 j (omega arith)
