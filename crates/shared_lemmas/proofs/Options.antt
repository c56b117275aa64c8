-- Options that have no value.
use Rattle.std.proofs.Common.{◌≡◌, false, refl}
use Rattle.std.specs.Prelude.{Option, Some, None, is_some}

-- there is no value if the test says so
pub none_from_is_some : {A : Type 0} (value : Option A) → is_some value ≡ false → value ≡ None
none_from_is_some (Some item) none = absurd cc
none_from_is_some None none = refl
