-- `maxp::write` meets its contract: the version over the start, N behind it, the old bytes behind both.
use mathlib.Core.Path.{refl}
use mathlib.Core.List.{◌++◌}
use lib.ListN.{drop}
use Rattle.model.specs.Bytes.{be16, be32}
use Rattle.model.proofs.Bytes.{put-zero, put-over}
use Rattle.model.proofs.Parts.{tail}
use Rattle.maxp.proofs.write.Goals as goal

pub returns : goal.returns
returns c =
    let a = c.args in
    let d = a.out.now in
    let version = be32 0x00010000 in
    let count = be16 a.kept in
    let rest = drop 6 a.maxp.now in
    cc (put-zero d version, put-over version d count 4 refl, put-over (version ++ count) d rest 6 refl, tail 6 a.maxp.now)
