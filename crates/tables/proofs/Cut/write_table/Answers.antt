-- Each number has its writer, whose requirement the steps have made sure of; the others' tables are the old ones.
use native.Mathlib.Omega.{arith}
use Rattle.model.proofs.Bytes.{put-zero}
use Rattle.tables.proofs.Bodies.{at-number, roster-few, the_others, head_body, head-room, hhea_body, hhea-room, maxp_body, maxp-room, name_body, name-room, post-body, post-room, copied_body}
use Rattle.tables.proofs.Cut.write_table.Goals as goal

pub write-requires : goal.write-requires
write-requires c =
    let f = at-number c.if-k-eq-HEAD.true c.requires.1 in
    rw (c.old-old.ensures, c.if-k-eq-HEAD.true) (head-room f.ran c.args.out.now f.room)

pub returns-then-k-eq-HEAD : goal.returns-then-k-eq-HEAD
returns-then-k-eq-HEAD c =
    let f = at-number c.if-k-eq-HEAD.true c.requires.1 in
    rw c.if-k-eq-HEAD.true (rw (c.old-old.ensures, c.if-k-eq-HEAD.true, head_body f.ran) at c.write.ensures)

pub write_hhea-requires : goal.write_hhea-requires
write_hhea-requires c =
    let f = at-number c.if-k-eq-HHEA.true c.requires.1 in
    rw (c.old-old.ensures, c.if-k-eq-HHEA.true) (hhea-room f.ran c.args.out.now f.room)

pub returns-then-k-eq-HHEA : goal.returns-then-k-eq-HHEA
returns-then-k-eq-HHEA c =
    let f = at-number c.if-k-eq-HHEA.true c.requires.1 in
    rw c.if-k-eq-HHEA.true (rw (c.old-old.ensures, c.if-k-eq-HHEA.true, hhea_body f.ran) at c.write_hhea.ensures)

pub overflow_cast-self : goal.overflow_cast-self
overflow_cast-self c = let f = roster-few c.requires.1.ran in omega arith

pub write-requires-then-k-eq-MAXP : goal.write-requires-then-k-eq-MAXP
write-requires-then-k-eq-MAXP c =
    let f = at-number c.if-k-eq-MAXP.true c.requires.1 in
    rw (c.old-old.ensures, c.if-k-eq-MAXP.true) (maxp-room f.ran c.args.out.now f.room)

pub returns-then-k-eq-MAXP : goal.returns-then-k-eq-MAXP
returns-then-k-eq-MAXP c =
    let f = at-number c.if-k-eq-MAXP.true c.requires.1 in
    rw c.if-k-eq-MAXP.true (rw (c.old-old.ensures, c.if-k-eq-MAXP.true, maxp_body f.ran) at c.write-then-k-eq-MAXP.ensures)

pub write-requires-then-k-eq-NAME : goal.write-requires-then-k-eq-NAME
write-requires-then-k-eq-NAME c =
    let f = at-number c.if-k-eq-NAME.true c.requires.1 in
    rw (c.old-old.ensures, c.if-k-eq-NAME.true) (name-room f.ran f.there c.args.out.now f.room)

pub returns-then-k-eq-NAME : goal.returns-then-k-eq-NAME
returns-then-k-eq-NAME c =
    let f = at-number c.if-k-eq-NAME.true c.requires.1 in
    rw c.if-k-eq-NAME.true (rw (c.old-old.ensures, c.if-k-eq-NAME.true, name_body f.ran f.there) at c.write-then-k-eq-NAME.ensures)

pub returns-then-k-eq-POST : goal.returns-then-k-eq-POST
returns-then-k-eq-POST c =
    let f = at-number c.if-k-eq-POST.true c.requires.1 in
    rw c.if-k-eq-POST.true (rw (c.old-old.ensures, c.if-k-eq-POST.true, post-body f.ran f.there) at c.write-then-k-eq-POST.ensures)

pub copy-requires : goal.copy-requires
copy-requires c =
    let f = c.requires.1 in
    let e = copied_body f.ran c.args.k (the_others c.args.k c.requires.0.known c.requires.0.no_glyf c.if-k-eq-HEAD.false c.if-k-eq-HHEA.false c.if-k-eq-HMTX.false c.requires.0.no_loca c.if-k-eq-MAXP.false c.if-k-eq-NAME.false c.if-k-eq-POST.false) f.there in
    rw (c.old-old.ensures, e) (omega (arith, f.room))

pub returns : goal.returns
returns c =
    let f = c.requires.1 in
    let e = copied_body f.ran c.args.k (the_others c.args.k c.requires.0.known c.requires.0.no_glyf c.if-k-eq-HEAD.false c.if-k-eq-HHEA.false c.if-k-eq-HMTX.false c.requires.0.no_loca c.if-k-eq-MAXP.false c.if-k-eq-NAME.false c.if-k-eq-POST.false) f.there in
    rw (c.old-old.ensures, e, put-zero) at c.copy.ensures

pub write-requires-then-k-eq-POST-clause-scratch_value : goal.write-requires-then-k-eq-POST-clause-scratch_value
write-requires-then-k-eq-POST-clause-scratch_value c =
    let f = at-number c.if-k-eq-POST.true c.requires.1 in
    let r = post-room f.ran f.there c.args.out.now f.room in
    rw (c.old-old.ensures, c.if-k-eq-POST.true) r.1.1.0

pub write-requires-then-k-eq-POST-clause-indexed : goal.write-requires-then-k-eq-POST-clause-indexed
write-requires-then-k-eq-POST-clause-indexed c =
    let f = at-number c.if-k-eq-POST.true c.requires.1 in
    let r = post-room f.ran f.there c.args.out.now f.room in
    rw (c.old-old.ensures, c.if-k-eq-POST.true) r.1.0

pub write-requires-then-k-eq-POST-clause-scratch_in_bounds : goal.write-requires-then-k-eq-POST-clause-scratch_in_bounds
write-requires-then-k-eq-POST-clause-scratch_in_bounds c =
    let f = at-number c.if-k-eq-POST.true c.requires.1 in
    let r = post-room f.ran f.there c.args.out.now f.room in
    rw (c.old-old.ensures, c.if-k-eq-POST.true) r.1.1.1

pub write-requires-then-k-eq-POST-clause-kept_bound : goal.write-requires-then-k-eq-POST-clause-kept_bound
write-requires-then-k-eq-POST-clause-kept_bound c =
    let f = at-number c.if-k-eq-POST.true c.requires.1 in
    let r = post-room f.ran f.there c.args.out.now f.room in
    r.0
