-- What may be written is a table of another version, or one whose rows, count and strings passed their tests.
use Rattle.std.proofs.Common.{length, sym, ap, ◌∙◌, arith}
use Rattle.model.specs.Bytes.{Bytes, over}
use Rattle.model.proofs.Bytes.{put-zero}
use Rattle.name.proofs.Strings.{roomy_rows}
use Rattle.name.proofs.Table.{length_table, ok-long, ok_other, ok-zero}
use Rattle.name.proofs.write.Goals as goal

pub u16_at-requires : goal.u16_at-requires
u16_at-requires c =
    ok-long c.args.name.now c.requires.0

pub copy-requires : goal.copy-requires
copy-requires c =
    let e = ok_other c.args.name.now c.requires.0 (λ e. c.if-u16_at-ne0.true (c.u16_at.ensures ∙ e)) in
    omega (arith, ap length e, c.requires.1)

pub returns-then-u16_at-ne0 : goal.returns-then-u16_at-ne0
returns-then-u16_at-ne0 c =
    let e = ok_other c.args.name.now c.requires.0 (λ e. c.if-u16_at-ne0.true (c.u16_at.ensures ∙ e)) in
    c.copy.ensures ∙ put-zero c.args.out.now c.args.name.now ∙ ap (λ (x : Bytes). over x c.args.out.now) (sym e)

pub u16_at-count-requires : goal.u16_at-count-requires
u16_at-count-requires c =
    let z = ok-zero c.args.name.now c.requires.0 (sym c.u16_at.ensures ∙ c.if-u16_at-ne0.false) in
    omega (arith, z.room.tested.rows)

pub write_kept-requires : goal.write_kept-requires
write_kept-requires c =
    let z = ok-zero c.args.name.now c.requires.0 (sym c.u16_at.ensures ∙ c.if-u16_at-ne0.false) in (
      record {
        room = roomy_rows c.args.name.now 5460 64 z.room (omega (arith, c.if-count-le64.true, c.u16_at-count.ensures));
        small = z.small;
        fits = omega (arith, length_table c.args.name.now z.room.tested, ap length z.value, c.requires.1);
      },
      omega arith,
      omega arith,
      omega arith,
    )

pub write_kept-requires-then-count-le256 : goal.write_kept-requires-then-count-le256
write_kept-requires-then-count-le256 c =
    let z = ok-zero c.args.name.now c.requires.0 (sym c.u16_at.ensures ∙ c.if-u16_at-ne0.false) in (
      record {
        room = roomy_rows c.args.name.now 5460 256 z.room (omega (arith, c.if-count-le256.true, c.u16_at-count.ensures));
        small = z.small;
        fits = omega (arith, length_table c.args.name.now z.room.tested, ap length z.value, c.requires.1);
      },
      omega arith,
      omega arith,
      omega arith,
    )

pub write_kept-requires-else-count-le256 : goal.write_kept-requires-else-count-le256
write_kept-requires-else-count-le256 c =
    let z = ok-zero c.args.name.now c.requires.0 (sym c.u16_at.ensures ∙ c.if-u16_at-ne0.false) in (
      record {
        room = z.room;
        small = z.small;
        fits = omega (arith, length_table c.args.name.now z.room.tested, ap length z.value, c.requires.1);
      },
      omega arith,
      omega arith,
      omega arith,
    )

pub returns-then-count-le64 : goal.returns-then-count-le64
returns-then-count-le64 c =
    let z = ok-zero c.args.name.now c.requires.0 (sym c.u16_at.ensures ∙ c.if-u16_at-ne0.false) in
    c.write_kept.ensures ∙ ap (λ (x : Bytes). over x c.args.out.now) (sym z.value)

pub returns-then-count-le256 : goal.returns-then-count-le256
returns-then-count-le256 c =
    let z = ok-zero c.args.name.now c.requires.0 (sym c.u16_at.ensures ∙ c.if-u16_at-ne0.false) in
    c.write_kept-then-count-le256.ensures ∙ ap (λ (x : Bytes). over x c.args.out.now) (sym z.value)

pub returns-else-count-le256 : goal.returns-else-count-le256
returns-else-count-le256 c =
    let z = ok-zero c.args.name.now c.requires.0 (sym c.u16_at.ensures ∙ c.if-u16_at-ne0.false) in
    c.write_kept-else-count-le256.ensures ∙ ap (λ (x : Bytes). over x c.args.out.now) (sym z.value)
