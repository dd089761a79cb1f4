-- "the promise determines that answer and each lent slice afterwards, refusals too. Show that no two different answers can satisfy it"
use Rattle.std.specs.Prelude.{◌≡◌, List, ℕ}
use Rattle.model.specs.Bytes.{Bytes}
use Rattle.model.specs.Call.{Input, Answer, Promise, answer, out_after, scratch_after}

-- one answer, one output and one scratch meet the public call's promise, and no other
pub record OneAnswer : Type 0 where
  pub some : (x : Input) → Promise x (answer x) (out_after x) (scratch_after x)
  pub only : (x : Input) (r r' : Answer) (o o' : Bytes) (s s' : List ℕ) → Promise x r o s → Promise x r' o' s' → (r ≡ r') × (o ≡ o') × (s ≡ s')
