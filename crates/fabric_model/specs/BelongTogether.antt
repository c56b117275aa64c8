-- Nets that are read, and a database, an image and links that belong together.
use Rattle.std.specs.Prelude.{◌≡◌, ℕ, Bool, false, Option, Some, None}
use Rattle.ice_image.specs.declared.any.AnyImage.{AnyImage}
use Rattle.ice_image.specs.Either.{configuration_of, device_of}
use Rattle.chipdb_reader.specs.Fit.{IsFit}
use Rattle.chipdb_reader.specs.Kept.{Kept, database_in}
use Rattle.fabric_model.specs.Links.{LinkSet, AreLinks, is_read_in}

-- whether a net is read; false if it is missing
abbrev pub is_some_read_in : LinkSet → Option ℕ → Bool
is_some_read_in links None = false
is_some_read_in links (Some net) = is_read_in links net

-- a database and an image of one device, and the links that the image sets
pub record BelongTogether (db : Kept) (image : AnyImage) (links : LinkSet) : Type 0 where
  pub fit : IsFit (database_in db)
  pub device : db.chip.device ≡ device_of image
  pub linked : AreLinks (database_in db) (configuration_of image) links
