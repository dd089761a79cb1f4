-- Place by place.
use Rattle.plan.specs.Steps.{sized_by}
use Rattle.plan.proofs.sized_by.Goals as goal

pub returns : goal.returns
unfolding sized_by
returns c =
    rw (
      c.copied.ensures,
      c.copied-2.ensures,
      c.sized.ensures,
      c.sized-2.ensures,
      c.old_length.ensures,
      c.sized-3.ensures,
      c.old_length-2.ensures,
      c.sized-4.ensures,
      c.sized-5.ensures,
      c.sized-6.ensures,
      c.old_length-3.ensures,
      c.sized-7.ensures,
      ← c.is_some.ensures,
      c.sized-8.ensures,
      ← c.is_some-2.ensures,
      c.copied-3.ensures,
    )
