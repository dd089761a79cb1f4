-- A string that is found is stored already, at the offset that was noted; one that is not found becomes the last of the first uses, and its number gets its place in the order.
use Rattle.std.proofs.Common.{get_or, refl, arith}
use Rattle.name.proofs.Strings.{used-few, used-room, used_searchable, notable_in, noted_old, noted_new, placed-absent, placed-ordered}
use Rattle.name.proofs.Uses.{size-small}
use Rattle.name.proofs.FirstUses.note_sorted.Goals as goal

pub find_earlier-found-requires : goal.find_earlier-found-requires
find_earlier-found-requires g c =
    let n = notable_in c.args.self.now.links c.requires.0 (omega arith) (omega arith) (omega arith) in
    used_searchable n c.requires.1

pub offset_bounds-self-first : goal.offset_bounds-self-first
offset_bounds-self-first g c =
    let n = notable_in c.args.self.now.links c.requires.0 (omega arith) (omega arith) (omega arith) in
    omega (arith, (c.find_earlier-found.ensures.at c.in-Ok.first c.in-Ok.is).0, used-few n, c.requires.0.room.few)

pub bounds-self-first : goal.bounds-self-first
bounds-self-first g c =
    let n = notable_in c.args.self.now.links c.requires.0 (omega arith) (omega arith) (omega arith) in
    omega (arith, (c.find_earlier-found.ensures.at c.in-Ok.first c.in-Ok.is).0, used-room n)

pub insert-requires : goal.insert-requires
insert-requires g c =
    let n = notable_in c.args.self.now.links c.requires.0 (omega arith) (omega arith) (omega arith) in
    let room = used-room n in
    (omega (arith, (c.find_earlier-found.ensures.nowhere c.in-Err.place c.in-Err.is).within), omega (arith, room), omega (arith, used-few n, c.requires.0.room.few))

pub push-requires : goal.push-requires
push-requires g c =
    let n = notable_in c.args.self.now.links c.requires.0 (omega arith) (omega arith) (omega arith) in
    let room = used-room n in
    let self = c.args.self.now in
    (size-small g.row.USES g.row.BUCKETS self.places self.buckets.1, (omega (arith, room), omega (arith, c.requires.0.row, c.type_inv.name 2, c.type_inv.name 3), c.requires.0.small, c.length_at.ensures.1))

pub returns-in-Ok : goal.returns-in-Ok
returns-in-Ok g c =
    let n = notable_in c.args.self.now.links c.requires.0 (omega arith) (omega arith) (omega arith) in
    let s = c.find_earlier-found.ensures.at c.in-Ok.first c.in-Ok.is in
    let t = noted_old n c.in-Ok.first (get_or c.args.self.now.offsets c.in-Ok.first 0) s.0 s.1 refl in
    (t.0, c.requires.1, refl, refl, t.1)

pub returns-in-Err : goal.returns-in-Err
returns-in-Err g c =
    let n = notable_in c.args.self.now.links c.requires.0 (omega arith) (omega arith) (omega arith) in
    let f = c.find_earlier-found.ensures.nowhere c.in-Err.place c.in-Err.is in
    let a = placed-absent n c.in-Err.place c.requires.1 f in
    let t = noted_new n a c.length_at.result c.length_at.ensures.0 in
    let p = c.push.ensures in
    rw (p.0, p.1, p.2, p.3, p.4, p.5, p.6, p.7) (t.0, placed-ordered n _ c.in-Err.place c.requires.1 f c.insert.ensures, refl, refl, t.1)
