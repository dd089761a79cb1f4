-- The invariant: the whole walk is what is left of it from p on.
use Prim.Native.Nat.{◌-◌}
use mathlib.Core.Path.{◌≡◌}
use Rattle.post.specs.Post.{walked}
use Rattle.post.proofs.names.walk.Given as goal

abbrev pub invariant-loop-step : goal.invariant-loop-step
invariant-loop-step l = walked l.post l.from l.steps ≡ walked l.post l.p (l.steps - l._step)
