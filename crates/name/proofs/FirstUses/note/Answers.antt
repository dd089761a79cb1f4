-- A string that is found is stored already, at the offset that was noted; one that is not becomes the last of the first uses and of its bucket. Where the links are too many, the first uses are put in order.
use Rattle.std.proofs.Common.{◌≡◌, ◌+◌, ◌*◌, length, get_or, refl, sym, ap, ◌∙◌, arith}
use Rattle.model.specs.Bytes.{Bytes}
use Rattle.name.specs.Hashed.{bucket_of}
use Rattle.name.proofs.Order.{length-string}
use Rattle.name.proofs.Strings.{used-few, used-room, row_inside, used_walkable, used_sortable, used-found, notable_in, noted_old, noted_new, arranged_new}
use Rattle.name.proofs.Uses.{size-small}
use Rattle.name.proofs.FirstUses.note.Goals as goal

pub bucket-bucket-requires : goal.bucket-bucket-requires
bucket-bucket-requires g c =
    let n = notable_in c.args.self.now.links c.requires.0 (omega arith) (omega arith) (omega arith) in
    let k = c.type_inv.name in (
      omega (arith, ap length c.string_at.ensures, length-string c.args.name.now c.args.row (row_inside n), k (6 + 12 * c.args.row + 8), k (6 + 12 * c.args.row + 8 + 1)),
      c.args.self.now.buckets.0,
      c.args.self.now.buckets.1,
    )

pub find_linked-link-requires : goal.find_linked-link-requires
find_linked-link-requires g c =
    let n = notable_in c.args.self.now.links c.requires.0 (omega arith) (omega arith) (omega arith) in
    let u = c.bucket-bucket.ensures in
    let heads = c.args.self.now.heads in
    let wide : length heads ≡ g.row.BUCKETS = omega arith in
    used_walkable n heads c.bucket-bucket.result (c.requires.1.linked c.if-self.false) (omega (arith, u.1)) (u.0 ∙ ap (bucket_of c.string_at.result.now) (sym wide) ∙ ap (λ (s : Bytes). bucket_of s (length heads)) c.string_at.ensures)

pub offset_bounds-self-first : goal.offset_bounds-self-first
offset_bounds-self-first g c =
    let n = notable_in c.args.self.now.links c.requires.0 (omega arith) (omega arith) (omega arith) in
    let s = c.find_linked-link.ensures.same c.in-Same.first c.in-Same.is in
    omega (arith, used-found n c.args.self.now.heads c.bucket-bucket.result c.in-Same.first (c.requires.1.linked c.if-self.false) (omega (arith, c.bucket-bucket.ensures.1)) s.0, used-few n, c.requires.0.room.few)

pub bounds-self-first : goal.bounds-self-first
bounds-self-first g c =
    let n = notable_in c.args.self.now.links c.requires.0 (omega arith) (omega arith) (omega arith) in
    let s = c.find_linked-link.ensures.same c.in-Same.first c.in-Same.is in
    omega (arith, used-found n c.args.self.now.heads c.bucket-bucket.result c.in-Same.first (c.requires.1.linked c.if-self.false) (omega (arith, c.bucket-bucket.ensures.1)) s.0, used-room n)

pub bounds-self-self : goal.bounds-self-self
bounds-self-self g c =
    let n = notable_in c.args.self.now.links c.requires.0 (omega arith) (omega arith) (omega arith) in
    omega (arith, used-room n)

pub push-requires : goal.push-requires
push-requires g c =
    let n = notable_in c.args.self.now.links c.requires.0 (omega arith) (omega arith) (omega arith) in
    let room = used-room n in
    let self = c.args.self.now in
    (size-small g.row.USES g.row.BUCKETS self.places self.buckets.1, (omega (arith, room), omega (arith, c.requires.0.row, c.type_inv.name 2, c.type_inv.name 3), c.requires.0.small, c.length_at.ensures.1))

pub sort-requires : goal.sort-requires
sort-requires g c =
    let n = notable_in c.args.self.now.links c.requires.0 (omega arith) (omega arith) (omega arith) in
    used_sortable n (c.requires.1.linked c.if-self.false).apart

pub returns-in-Same : goal.returns-in-Same
returns-in-Same g c =
    let n = notable_in c.args.self.now.links c.requires.0 (omega arith) (omega arith) (omega arith) in
    let j = c.in-Same.first in
    let s = c.find_linked-link.ensures.same j c.in-Same.is in
    let u = used-found n c.args.self.now.heads c.bucket-bucket.result j (c.requires.1.linked c.if-self.false) (omega (arith, c.bucket-bucket.ensures.1)) s.0 in
    let t = noted_old n j (get_or c.args.self.now.offsets j 0) u s.1 refl in
    (t.0, c.requires.1, t.1)

pub returns-in-New : goal.returns-in-New
returns-in-New g c =
    let n = notable_in c.args.self.now.links c.requires.0 (omega arith) (omega arith) (omega arith) in
    let u = c.bucket-bucket.ensures in
    let heads = c.args.self.now.heads in
    let wide : length heads ≡ g.row.BUCKETS = omega arith in
    let k = c.requires.1.linked c.if-self.false in
    let i = u.0 ∙ ap (bucket_of c.string_at.result.now) (sym wide) ∙ ap (λ (s : Bytes). bucket_of s (length heads)) c.string_at.ensures in
    let a = c.find_linked-link.ensures.new c.in-New.is c.args.self.now.used k in
    let t = noted_new n a c.length_at.result c.length_at.ensures.0 in
    let p = c.push.ensures in
    rw (p.0, p.1, p.2, p.3, p.4, p.5, p.6, p.7) (t.0, rw c.if-self.false (arranged_new n heads c.bucket-bucket.result c.requires.1.buckets k (omega (arith, u.1)) i a), t.1)
