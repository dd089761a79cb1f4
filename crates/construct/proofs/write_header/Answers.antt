-- Five numbers, each behind the last; the range is at most 16 times the count, so that nothing is lost in 16 bits.
use Rattle.std.proofs.Common.{◌-◌, ◌*◌, ◌++◌, ap, ◌∙◌}
use Rattle.model.specs.Bytes.{be16, be32, over}
use Rattle.construct.specs.declared.Search.{Search}
use Rattle.construct.specs.Construct.{searched}
use Rattle.construct.proofs.Stand.{puts_5}
use Rattle.construct.proofs.write_header.Goals as goal

pub returns : goal.returns
unfolding searched
returns c =
    let a = c.args in
    let d = a.out.now in
    let r = c.search_of-s.result in
    puts_5 d _ _ _ _ _ 0x00010000 a.count r.range r.selector (16 * a.count - r.range) c.put_u32.ensures c.put_u16.ensures
    c.put_u16-2.ensures c.put_u16-3.ensures c.put_u16-4.ensures
    ∙ ap (λ (s : Search). over (be32 0x00010000 ++ (be16 a.count ++ (be16 s.range ++ (be16 s.selector ++ be16 (16 * a.count - s.range))))) d)
    c.search_of-s.ensures
