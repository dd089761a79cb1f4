use Rattle.std.proofs.Common.{◌≡◌, ◌∙◌, arith, rules}
use Rattle.std.specs.Prelude.{count_by, is_some}
use Rattle.construct.proofs.Lists.{count-all}
use Rattle.construct.proofs.count.Goals as goal

pub returns : goal.returns
returns c =
    let t = c.args.tables in
    let e : c.count.result ≡ count_by is_some t.places = search rules in
    e ∙ count-all t (omega arith)
