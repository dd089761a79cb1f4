-- The tag's four bytes and three words, each behind the last; the checksum is read before the first of them is written.
use Rattle.std.proofs.Common.{ℕ, ◌++◌, get_or, sym, ap, ◌∙◌, ap₂, arith}
use Rattle.model.specs.Bytes.{be32, put}
use Rattle.model.specs.File.{checksum}
use Rattle.places.specs.Places.{tag_words}
use Rattle.construct.proofs.Stand.{length_part, puts_4}
use Rattle.construct.proofs.Tags.{tag-bytes}
use Rattle.construct.proofs.write_row.Goals as goal

pub returns : goal.returns
returns c =
    let a = c.args in
    let d = a.out.now in
    let o = a.p.offset in
    let n = a.p.length in
    let tag = get_or tag_words a.k 0 in
    let s = c.checksum-sum.ensures ∙ ap checksum c.part.ensures in
    let pre = c.requires in
    let first = c.copy.ensures ∙ ap (put d a.at) (tag-bytes a.k pre.0) in
    record {
      gives = s;
      holds =
          puts_4 d _ _ _ _ a.at tag c.checksum-sum.result o n (omega arith) first c.put_u32.ensures c.put_u32-2.ensures c.put_u32-3.ensures
          ∙ ap₂ (λ (x y : ℕ). put d a.at (be32 tag ++ (be32 x ++ (be32 o ++ be32 y)))) s (sym (length_part d o n pre.2));
    }
