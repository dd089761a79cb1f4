-- A missing table leaves the output as it was.
use Rattle.std.proofs.Common.{sym, ap}
use Rattle.std.specs.Prelude.{Option, is_some}
use Rattle.std.specs.Option.{unwrap_or}
use Rattle.places.specs.declared.Place.{Place}
use Rattle.places.specs.Places.{missing}
use Rattle.construct.proofs.Written.{write_none}
use Rattle.tables.specs.Writing.{new_body}
use Rattle.tables.proofs.Presence.{none_there}
use Rattle.tables.proofs.Cut.put_table.Goals as goal

pub put_at-requires-clause-there : goal.put_at-requires-clause-there
put_at-requires-clause-there c = (ap is_some c.in-Some.is, sym (ap (λ (o : Option Place). unwrap_or o missing) c.in-Some.is))

pub returns-in_default : goal.returns-in_default
returns-in_default c =
    let a = c.args in write_none a.new a.k (new_body a.self.now a.k) a.out.now (none_there _ c.in_default.not-Some)
