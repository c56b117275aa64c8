-- Why pins aren't taken.
use Rattle.std.proofs.Common.{◌≡◌, false, refl}
use Rattle.std.specs.Prelude.{ℕ}
use Rattle.ice_image.specs.declared.any.AnyImage.{AnyImage}
use Rattle.ice_image.specs.Either.{configuration_of}
use Rattle.chipdb_reader.specs.Kept.{Kept, database_in}
use Rattle.fabric_model.specs.declared.pin.Pin.{Pin}
use Rattle.fabric_model.specs.Pins.{is_refused_with}
use Rattle.fabric_parts.specs.PinFaults.{is_refused_by_type}
use Rattle.fabric_parts.specs.PinRecords.{IsFoundPin}

-- what a pin says of its nets and its pad is what the database and the image do, if not pins of every kind are taken
pub refused-said : (db : Kept) (image : AnyImage) (pin : Pin) (pintype : ℕ) → IsFoundPin false db image pin
    → is_refused_by_type (database_in db) (configuration_of image) pin pintype ≡ is_refused_with (database_in db) (configuration_of image) pin.x pin.y pin.n pintype
unfolding is_refused_with
refused-said db image pin pintype found = rw (found.reads_0 refl, found.reads_1 refl, found.is_global refl) refl
