-- Rows, then the header before them, then the adjustment: the law `finished` joins what the three calls leave.
use Rattle.std.proofs.Common.{◌≡◌, ◌+◌, ◌*◌, ◌%◌, ◌^◌, take, sym, ap, subst, arith}
use Rattle.std.specs.Prelude.{Option}
use Rattle.std.specs.Option.{unwrap_or}
use Rattle.model.specs.Bytes.{be32, put}
use Rattle.model.specs.File.{checksum}
use Rattle.places.specs.declared.Place.{Place}
use Rattle.places.specs.Places.{missing}
use Rattle.construct.specs.Construct.{directory_length, adjusting}
use Rattle.construct.proofs.Lists.{count_small}
use Rattle.construct.proofs.Readiness.{place-room, first-room, count-some}
use Rattle.construct.proofs.Rows.{finished}
use Rattle.construct.proofs.finish.Goals as goal

pub write_header-requires : goal.write_header-requires
unfolding directory_length
write_header-requires c =
    let a = c.args in
    let r = c.requires in
    let s = count-some a.out.now a.new r in
    let m = count_small a.new.tables 11 in
    let f = first-room a.new r.placed in
    let e = r.placed.counts in
    let o = r.room in
    (omega arith, omega arith, omega arith)

pub overflow_mul-new : goal.overflow_mul-new
overflow_mul-new c =
    let a = c.args in
    let m = count_small a.new.tables 11 in
    let e = c.requires.placed.counts in
    omega arith

pub overflow_add-new : goal.overflow_add-new
overflow_add-new c =
    let a = c.args in
    let m = count_small a.new.tables 11 in
    let e = c.requires.placed.counts in
    omega arith

pub adjust-requires : goal.adjust-requires
unfolding directory_length
adjust-requires c =
    let a = c.args in
    let r = c.requires in
    let f = first-room a.new r.placed in
    let p = place-room a.new r.placed 3 (omega arith) r.head in
    let o = r.room in
    let l = r.long in
    let e = ap (λ (q : Option Place). (unwrap_or q missing).offset) c.unwrap-head.ensures in
    (omega arith, omega arith)

pub returns : goal.returns
returns c =
    let a = c.args in
    let e = ap (λ (q : Option Place). unwrap_or q missing) c.unwrap-head.ensures in
    finished a.new a.out.now c.requires _ _ _ _ c.write_rows-sum.ensures.gives c.write_rows-sum.ensures.holds c.write_header.ensures
    (subst (λ (p : Place). c.adjust.new.out ≡ put c.write_header.new.out (p.offset + 8) (be32 (adjusting ((checksum (take (12 + 16 * a.new.count) c.write_header.new.out) + c.write_rows-sum.result) % 2 ^ 32)))) (sym e) c.adjust.ensures)
