use Rattle.std.proofs.Common.{◌+◌, sym, ◌∙◌, arith}
use Rattle.name.proofs.Strings.{uses-start, arranged_start, uses_skip, bytes-over, bytes-all}
use Rattle.name.proofs.Uses.{size-small}
use Rattle.name.proofs.distinct.Goals.{then-kept+else-uses-gt65535, else-kept}
use Rattle.name.proofs.distinct.Goals as goal

pub loop-row-init : goal.loop-row-init
loop-row-init g c =
    let b = c.args.name.now in
    let s = c.new-uses.result in
    let e = c.new-uses.ensures in
    record {
      uses = rw (e.1, e.2) (uses-start b s.rows s.offsets);
      arranged = rw (e.1, e.3) (arranged_start b s.rows s.links s.heads e.0);
      small = omega arith;
    }

pub note-requires : goal.note-requires
note-requires g c =
    let l = c.loop-row in (
      size-small g.row.USES g.row.BUCKETS l.uses.places l.uses.buckets.1,
      (
        record {
          room = c.requires.0;
          row = omega arith;
          kept = sym c.kept.ensures ∙ c.if-kept.true;
          uses = l.invariant.uses;
          small = l.invariant.small;
        },
        l.invariant.arranged,
      ),
    )

pub returns-then-uses-gt65535 : goal.returns-then-uses-gt65535
returns-then-uses-gt65535 g c =
    bytes-over c.args.name.now (c.loop-row.row + 1) c.note.new.self.end (omega (arith, c.loop-row-test.true, c.u16_at-count.ensures)) c.note.ensures.0.bytes c.if-uses-gt65535.true

pub returns : goal.returns
returns g c =
    let l = c.loop-row in
    bytes-all c.args.name.now l.row l.uses.end (omega arith) l.invariant.uses.bytes l.invariant.small

pub loop-row-preserved : goal.loop-row-preserved
loop-row-preserved g c =
    let l = c.loop-row in
    elim c.if-kept.branch [
      | then-kept+else-uses-gt65535 w ↦ rw w.uses-is record { uses = w.note.ensures.0; arranged = w.note.ensures.1; small = w.if-uses-gt65535.false }
      | else-kept w ↦
          rw w.uses-is
          record {
            uses = uses_skip c.args.name.now l.uses.rows l.uses.offsets l.uses.used l.uses.end l.row (sym c.kept.ensures ∙ w.if-kept.false) l.invariant.uses;
            arranged = l.invariant.arranged;
            small = l.invariant.small;
          }
    ]
