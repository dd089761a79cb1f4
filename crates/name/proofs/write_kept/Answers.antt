-- Records, strings behind them, then the header in front of both.
use Rattle.std.proofs.Common.{ℕ, ◌+◌, ◌*◌, length, ap, ◌∙◌, arith}
use Rattle.model.specs.Bytes.{Bytes, put, be16}
use Rattle.name.proofs.Table.{recorded_strings, recorded_inside, table_written}
use Rattle.name.proofs.Uses.{size-small}
use Rattle.name.proofs.write_kept.Goals as goal

pub rows-requires : goal.rows-requires
rows-requires g c = (size-small g.row.USES g.row.BUCKETS c.requires.1 c.requires.3, c.write_records-kept.ensures.room)

pub write_strings-requires : goal.write_strings-requires
write_strings-requires g c =
    let b = c.args.name.now in
    let w = c.write_records-kept in
    let e = recorded_strings c.requires.0.room.tested w.ensures in
    rw c.rows.ensures (recorded_inside c.requires.0.room.tested w.ensures, omega (arith, ap length e, w.ensures.count, c.requires.0.fits))

pub returns : goal.returns
returns g c =
    let b = c.args.name.now in
    let w = c.write_records-kept in
    let n : ℕ = w.result in
    let e = recorded_strings c.requires.0.room.tested w.ensures in
    c.put_u16-3.ensures
    ∙ ap (λ (x : Bytes). put x 4 (be16 (6 + 12 * n)))
    (c.put_u16-2.ensures
    ∙ ap (λ (x : Bytes). put x 2 (be16 n)) (c.put_u16.ensures ∙ ap (λ (x : Bytes). put x 0 (be16 0)) (rw c.rows.ensures at c.write_strings.ensures)))
    ∙ table_written b c.requires.0.room.tested c.args.out.now _ n _ (omega (arith, c.requires.0.fits)) w.ensures.records w.ensures.count e
