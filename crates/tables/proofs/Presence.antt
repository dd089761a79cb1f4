-- What is no place is not there.
use Rattle.std.proofs.Common.{◌≡◌, false, refl}
use Rattle.std.specs.Prelude.{Option, Some, None, is_some}
use Rattle.places.specs.declared.Place.{Place}

pub none_there : (o : Option Place) → ((p : Place) → o ≡ Some p → ⊥) → is_some o ≡ false
none_there None h = refl
none_there (Some p) h = absurd (h p refl)
