use Rattle.std.proofs.Common.{◌<◌, length, sym, ap, ◌∙◌, arith}
use Rattle.model.specs.Bytes.{word16, put}
use Rattle.name.proofs.Rows.{entries_skip}
use Rattle.name.proofs.Strings.{length-entries, entries-before, bytes_grow, uses-start, arranged_start, uses_skip, offset-small}
use Rattle.name.proofs.Table.{records-none, records_skip, entries_none, entries_next, record_next}
use Rattle.name.proofs.Uses.{size-small}
use Rattle.name.proofs.write_records.Goals.{then-kept, else-kept}
use Rattle.name.proofs.write_records.Goals as goal

pub loop-row-init : goal.loop-row-init
loop-row-init g c =
    let b = c.args.name.now in
    let s = c.args.uses.now in
    let e = c.requires in
    record {
      uses = rw (e.2, e.3) (uses-start b s.rows s.offsets);
      count = entries_none b;
      records = records-none b c.args.out.now;
      arranged = rw (e.2, e.4) (arranged_start b s.rows s.links s.heads e.1);
    }

pub note-offset-requires : goal.note-offset-requires
note-offset-requires g c =
    let l = c.loop-row in (
      size-small g.row.USES g.row.BUCKETS l.uses.places l.uses.buckets.1,
      (
        record {
          room = c.requires.0.room;
          row = omega arith;
          kept = sym c.kept.ensures ∙ c.if-kept.true;
          uses = l.invariant.uses;
          small = omega (arith, l.invariant.uses.bytes, c.requires.0.small, bytes_grow c.args.name.now l.row (word16 c.args.name.now 2) (omega arith));
        },
        l.invariant.arranged,
      ),
    )

pub overflow_mul-n : goal.overflow_mul-n
overflow_mul-n g c = omega (arith, length-entries c.args.name.now c.loop-row.row, c.loop-row.invariant.count)

pub overflow_add-n : goal.overflow_add-n
overflow_add-n g c = omega (arith, length-entries c.args.name.now c.loop-row.row, c.loop-row.invariant.count)

pub put_record-requires : goal.put_record-requires
put_record-requires g c =
    let b = c.args.name.now in
    let l = c.loop-row in
    let k = sym c.kept.ensures ∙ c.if-kept.true in
    let i : l.row < word16 b 2 = omega (arith, c.loop-row-test.true, c.u16_at-count.ensures) in (
      omega (arith, (c.requires.0.room.tested.inside l.row i k).row),
      rw c.note-offset.ensures.2 (offset-small b l.row (word16 b 2) i k c.requires.0.small),
      omega (arith, entries-before b l.row (word16 b 2) i k, c.requires.0.fits, l.invariant.count),
    )

pub overflow_add-n-then-kept : goal.overflow_add-n-then-kept
overflow_add-n-then-kept g c = omega (arith, length-entries c.args.name.now c.loop-row.row, c.loop-row.invariant.count)

pub loop-row-preserved : goal.loop-row-preserved
loop-row-preserved g c =
    let b = c.args.name.now in
    let l = c.loop-row in
    elim c.if-kept.branch [
      | then-kept w ↦
          let k = sym c.kept.ensures ∙ w.if-kept.true in
          rw (w.out-is, w.uses-is, w.n-is)
          record {
            uses = w.note-offset.ensures.0;
            count = entries_next b l.row l.n k l.invariant.count;
            records = (let next = record_next b c.requires.0.room.tested c.args.out.now l.out l.row l.n w.note-offset.result (omega (arith, c.requires.0.fits)) (omega arith) k w.note-offset.ensures.2 l.invariant.count l.invariant.records in cc);
            arranged = w.note-offset.ensures.1;
          }
      | else-kept w ↦
          let k = sym c.kept.ensures ∙ w.if-kept.false in
          rw (w.out-is, w.uses-is, w.n-is)
          record {
            uses = uses_skip b l.uses.rows l.uses.offsets l.uses.used l.uses.end l.row k l.invariant.uses;
            count = l.invariant.count ∙ ap length (sym (entries_skip b l.row k));
            records = l.invariant.records ∙ ap (put c.args.out.now 6) (sym (records_skip b l.row k));
            arranged = l.invariant.arranged;
          }
    ]
