use Rattle.std.proofs.Common.{map, length, get_or, take, sym, ap, ◌∙◌, add-zero, arith, length-append}
use Rattle.model.specs.Bytes.{concat, put}
use Rattle.name.specs.Rows.{string_at}
use Rattle.name.proofs.Table.{put-none, strings-next, string-next, string-room}
use Rattle.name.proofs.write_strings.Goals as goal

pub loop-row-init : goal.loop-row-init
loop-row-init c = record { behind = sym (add-zero c.args.at); written = sym (put-none c.args.out.now c.args.at) }

pub copy-requires : goal.copy-requires
copy-requires c = omega (arith, ap length c.string_at-string.ensures, string-room c.args.name.now c.args.firsts.now c.loop-row.row-index c.loop-row-test.true)

pub overflow_add-to : goal.overflow_add-to
overflow_add-to c = omega (arith, ap length c.string_at-string.ensures, string-room c.args.name.now c.args.firsts.now c.loop-row.row-index c.loop-row-test.true)

pub loop-row-preserved : goal.loop-row-preserved
loop-row-preserved c =
    let l = c.loop-row in
    let b = c.args.name.now in
    let rows = c.args.firsts.now in
    let s = c.string_at-string in
    let h = c.loop-row-test.true in
    let e = ap length (strings-next b rows l.row-index h) ∙ length-append (concat (map (string_at b) (take l.row-index rows))) (string_at b (get_or rows l.row-index 0)) in
    let n = string-next b rows l.row-index h c.args.out.now l.out c.args.at l.to (omega arith) l.invariant.behind l.invariant.written in
    record { behind = omega (arith, e, ap length s.ensures); written = c.copy.ensures ∙ ap (put l.out l.to) s.ensures ∙ n }
