-- What waits on top has no number, so there is room for it in the roster; it is the stack's top.
use Rattle.std.proofs.Common.{◌≡◌, Some, arith}
use Rattle.std.proofs.lemmas.Result.{err_from_is_err_and}
use Rattle.closure.proofs.Turning.{underway_linked, component-low, component-room, turned-full, taken-linked, unread, turned-component}
use Rattle.closure.proofs.take_component.Goals as goal

pub returns-then-count-ge-MOST : goal.returns-then-count-ge-MOST
returns-then-count-ge-MOST c = let h = c.requires in turned-full _ _ _ _ h.2 _ h.3 h.4 _ _ c.if-count-ge-MOST.true

pub take_top-requires : goal.take_top-requires
take_top-requires c =
    let h = c.requires in
    (h.0, component-low _ _ _ _ h.2 _ h.3 h.4, component-room _ _ _ _ h.2 _ h.3 h.4, c.if-count-ge-MOST.false, underway_linked _ _ _ _ h.2)

pub read_glyph-requires : goal.read_glyph-requires
read_glyph-requires c =
    let h = c.requires in
    (h.0, component-low _ _ _ _ h.2 _ h.3 h.4, h.1, taken-linked _ _ _ _ h.2 _ h.3 h.4 c.if-count-ge-MOST.false _ c.take_top.ensures)

pub returns-in_err-length : goal.returns-in_err-length
returns-in_err-length c =
    let h = c.requires in
    let p = err_from_is_err_and c.from_residual.result c.from_residual.ensures.1 in
    let x = unread _ _ c.in_err-length.ensures.value in
    let opened = rw x.0 at c.read_glyph.ensures in
    rw (p.1, p.2, x.1) (turned-component _ _ _ _ h.2 _ h.3 h.4 c.if-count-ge-MOST.false _ c.take_top.ensures _ _ _ _ opened)

pub returns : goal.returns
returns c =
    let h = c.requires in
    let read : c.read_glyph.result ≡ Some c.in_ok-length.length = grind arith in
    let opened = rw read at c.read_glyph.ensures in
    turned-component _ _ _ _ h.2 _ h.3 h.4 c.if-count-ge-MOST.false _ c.take_top.ensures _ _ _ _ opened
