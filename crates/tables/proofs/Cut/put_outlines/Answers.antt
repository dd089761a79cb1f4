-- glyf and loca are always there.
use Rattle.std.proofs.Common.{sym, ap}
use Rattle.std.specs.Prelude.{Option}
use Rattle.std.specs.Option.{unwrap_or}
use Rattle.places.specs.declared.Place.{Place}
use Rattle.places.specs.Places.{missing}
use Rattle.tables.proofs.Standing.{glyf-spot, loca-spot}
use Rattle.tables.proofs.Cut.put_outlines.Goals as goal

pub unwrap-glyf-requires : goal.unwrap-glyf-requires
unwrap-glyf-requires c = let q = c.requires in (glyf-spot q.0 c.args.out.now q.1).there

pub unwrap-loca-requires : goal.unwrap-loca-requires
unwrap-loca-requires c = let q = c.requires in (loca-spot q.0 c.args.out.now q.1).there

pub put_both-requires-clause-places : goal.put_both-requires-clause-places
put_both-requires-clause-places c = (
  sym (ap (λ (o : Option Place). unwrap_or o missing) c.unwrap-glyf.ensures),
  sym (ap (λ (o : Option Place). unwrap_or o missing) c.unwrap-loca.ensures),
)
