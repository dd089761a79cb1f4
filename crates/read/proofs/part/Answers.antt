-- `&b[at..end]` is the part.
use native.Mathlib.Nat.{add-sub_cancel_left}
use Rattle.read.proofs.part.Goals as goal

pub returns : goal.returns
returns c = rw (add-sub_cancel_left c.args.at c.args.size)
