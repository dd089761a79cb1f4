-- Three runs of bytes, one behind the other.
use Rattle.std.proofs.Common.{ℕ, ◌+◌, ◌*◌, ap, ◌∙◌, ap₂, arith}
use Rattle.model.specs.Bytes.{Bytes, put, be16, part}
use Rattle.name.specs.Rows.{new_record, string_length}
use Rattle.name.proofs.Table.{length_ids, record_put}
use Rattle.name.proofs.put_record.Goals as goal

pub returns : goal.returns
unfolding new_record
returns c =
    let p = c.part in
    let k = c.copy in
    let u = c.u16_at in
    let w = c.put_u16 in
    let ids : Bytes = part c.args.name.now (6 + 12 * c.args.row) 8 in
    c.put_u16-2.ensures
    ∙ ap (λ (x : Bytes). put x (c.args.at + 10) (be16 c.args.offset))
    (w.ensures ∙ ap₂ (λ (x : Bytes) (l : ℕ). put x (c.args.at + 8) (be16 l)) (k.ensures ∙ ap (put c.args.out.now c.args.at) p.ensures) u.ensures)
    ∙ record_put c.args.out.now c.args.at ids (string_length c.args.name.now c.args.row) c.args.offset (omega arith) (length_ids c.args.name.now c.args.row (omega arith))
