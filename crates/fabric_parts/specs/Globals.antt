-- A database and an image of one device, and nets of a global network.
use Rattle.std.specs.Prelude.{◌≡◌, ℕ}
use Rattle.ice_image.specs.declared.any.AnyImage.{AnyImage}
use Rattle.ice_image.specs.Either.{device_of}
use Rattle.chipdb_reader.specs.Fit.{IsFit}
use Rattle.chipdb_reader.specs.Kept.{Kept, database_in}
use Rattle.fabric_model.specs.declared.pin.GlobalNet.{GlobalNet}
use Rattle.fabric_model.specs.declared.pin.GlobalFrom.{GlobalFrom}

-- a database and an image of one device
pub record AreOneDevice (db : Kept) (image : AnyImage) : Type 0 where
  pub fit : IsFit (database_in db)
  pub device : db.chip.device ≡ device_of image

-- a net of a global network
abbrev pub global_net : ℕ → GlobalFrom → ℕ → GlobalNet
global_net g from net = record { g = g; net = net; from = from }
