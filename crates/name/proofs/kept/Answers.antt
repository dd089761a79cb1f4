-- The three words of the row are words of the table; the first test decides alone where it fails.
use Rattle.name.proofs.Rows.{kept-by-id, kept-by_platform}
use Rattle.name.proofs.kept.Goals as goal

pub returns-then-unicode : goal.returns-then-unicode
returns-then-unicode c =
    let a = c.args in
    let u = c.unicode in
    let p = c.u16_at in
    let e = c.u16_at-2 in
    kept-by-id a.name.now a.row p.result e.result u.result p.ensures e.ensures u.ensures c.if-unicode.true
    c.u16_at-then-unicode.result c.wanted.result c.u16_at-then-unicode.ensures c.wanted.ensures

pub returns-else-unicode : goal.returns-else-unicode
returns-else-unicode c =
    let a = c.args in
    let u = c.unicode in
    let p = c.u16_at in
    let e = c.u16_at-2 in
    kept-by_platform a.name.now a.row p.result e.result u.result p.ensures e.ensures u.ensures c.if-unicode.false
