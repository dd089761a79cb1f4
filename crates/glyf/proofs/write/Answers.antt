use Rattle.std.proofs.Common.{refl, ◌∙◌}
use Rattle.glyf.proofs.Writing.{begun_start, begun_more, all_there, begun_all, begun_end, entry-room, entry-left, writing-room}
use Rattle.glyf.proofs.write.Goals as goal

pub loop-i-init : goal.loop-i-init
loop-i-init c = begun_start c.requires

pub put_entry-requires : goal.put_entry-requires
put_entry-requires c =
    let room = entry-room c.requires c.loop-i.invariant c.loop-i.auto.i-end in
    record { room = room.0; fits = room.1 }

pub write_glyph-run-requires : goal.write_glyph-run-requires
write_glyph-run-requires c =
    let l = c.loop-i in
    record {
      copied = entry-left c.requires l.invariant l.auto.i-end _ c.put_entry.ensures;
      room = writing-room c.requires l.invariant l.auto.i-end _ c.put_entry.ensures _ c.loop-i-test.true c.from.ensures;
    }

pub loop-i-preserved : goal.loop-i-preserved
loop-i-preserved c =
    let l = c.loop-i in
    begun_more c.requires l.invariant l.auto.i-end _ c.put_entry.ensures _ c.loop-i-test.true c.from.ensures _ _ c.write_glyph-run.auto.out c.write_glyph-run.ensures

pub put_entry-requires-2 : goal.put_entry-requires-2
put_entry-requires-2 c =
    let l = c.loop-i in
    let room = entry-room c.requires (begun_all c.requires l.auto.i-end c.loop-i-test.false l.invariant) (all_there c.requires) in
    record { room = room.0; fits = room.1 }

pub returns : goal.returns
returns c =
    let l = c.loop-i in
    c.copy_run.ensures ∙ begun_end c.requires (begun_all c.requires l.auto.i-end c.loop-i-test.false l.invariant) (all_there c.requires) _ c.put_entry-2.ensures refl
