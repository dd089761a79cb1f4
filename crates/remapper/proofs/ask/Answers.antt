-- Each test leads to one answer of the walk; an id without a number leaves room in the roster.
use Rattle.std.proofs.Common.{◌∙◌, sym}
use Rattle.remapper.proofs.Asking.{asked-old, asked-full, asked-new, asking-room}
use Rattle.remapper.proofs.ask.Goals as goal

pub returns-then-get-ne0 : goal.returns-then-get-ne0
returns-then-get-ne0 c = asked-old _ _ _ _ c.requires.1 c.if-n-q.false (λ e. c.if-get-ne0.true (c.get.ensures.0 ∙ e))

pub returns-then-count-ge-MOST : goal.returns-then-count-ge-MOST
returns-then-count-ge-MOST c = asked-full _ _ _ _ c.requires.1 c.if-n-q.false (sym c.get.ensures.0 ∙ c.if-get-ne0.false) c.if-count-ge-MOST.true

pub give-requires : goal.give-requires
give-requires c =
    let h = c.requires in
    let low = c.if-n-q.false in
    (h.0, low, asking-room _ _ _ _ h.1 low (sym c.get.ensures.0 ∙ c.if-get-ne0.false), c.if-count-ge-MOST.false, h.1.1.waits.linked.size)

pub returns : goal.returns
returns c =
    let free = sym c.get.ensures.0 ∙ c.if-get-ne0.false in
    asked-new _ _ _ _ c.requires.1 c.if-n-q.false free _ c.if-count-ge-MOST.false c.give.ensures
