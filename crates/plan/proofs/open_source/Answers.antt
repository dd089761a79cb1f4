-- The width as head says it, and the count by it.
use mathlib.Core.Path.{refl, ap, ap₂, ◌∙◌}
use Rattle.model.specs.Glyf.{width_of, glyphs}
use Rattle.places.specs.Places.{contents}
use Rattle.plan.proofs.open_source.Goals as goal

pub is_long-long-requires : goal.is_long-long-requires
unfolding contents
is_long-long-requires c = rw c.table.ensures c.requires.1.head

pub returns : goal.returns
unfolding contents
returns c =
    let e = ap width_of c.table.ensures in (
      refl,
      record {
        within = c.requires.0;
        long = c.requires.1;
        wide = c.is_long-long.ensures ∙ e;
        number = c.glyph_count-n.ensures ∙ ap₂ glyphs (c.is_long-long.ensures ∙ e) c.table-2.ensures;
      },
    )
