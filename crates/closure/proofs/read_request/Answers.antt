-- Nothing waits, so the stack's top is the last request not yet read; it is in the roster.
use Rattle.std.proofs.Common.{◌≡◌, Some, arith}
use Rattle.std.proofs.lemmas.Result.{err_from_is_err_and}
use Rattle.closure.proofs.Turning.{underway_linked, request-low, unread, turned-request}
use Rattle.closure.proofs.read_request.Goals as goal

pub read_glyph-requires : goal.read_glyph-requires
read_glyph-requires c =
    let h = c.requires in
    (h.0, request-low _ _ _ _ h.2 h.3 (omega arith) _ c.old_id-q.ensures, h.1, underway_linked _ _ _ _ h.2)

pub returns-in_err-length : goal.returns-in_err-length
returns-in_err-length c =
    let h = c.requires in
    let p = err_from_is_err_and c.from_residual.result c.from_residual.ensures.1 in
    let x = unread _ _ c.in_err-length.ensures.value in
    let opened = rw x.0 at c.read_glyph.ensures in
    rw (p.1, p.2, x.1) (turned-request _ _ _ _ h.2 h.3 (omega arith) _ c.old_id-q.ensures _ _ _ _ opened)

pub returns : goal.returns
returns c =
    let h = c.requires in
    let read : c.read_glyph.result ≡ Some c.in_ok-length.length = grind arith in
    let opened = rw read at c.read_glyph.ensures in
    turned-request _ _ _ _ h.2 h.3 (omega arith) _ c.old_id-q.ensures _ _ _ _ opened
