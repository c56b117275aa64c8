-- What a boot file means.
use Rattle.std.specs.Prelude.{◌≡◌, ℕ, ◌<◌, ◌≤◌, Bool, IsTrue, List, length, map, Some, All}
use Rattle.std.specs.List.{range_with_len}
use Rattle.ice_image.specs.Configuration.{Configuration}
use Rattle.ice_image.specs.Either.{configuration_of}
use Rattle.layout_file.specs.Layouts.{standard_layouts}
use Rattle.bin_stream.specs.Spelling.{Spells}
use Rattle.boot_file.specs.declared.file.BootFile.{BootFile}
use Rattle.boot_file.specs.declared.file.BootImage.{BootImage}
use Rattle.boot_file.specs.Headers.{address_of, entry_address, is_cold, is_formed, is_within}
use Rattle.boot_file.specs.Parts.{image_addresses, image_index, part_of}

-- an image and its address
pub record PlacedImage : Type 0 where
  pub address : ℕ
  pub image : Configuration

-- a boot file as data: whether the pins choose the image at a cold boot, the indices of the images that are booted at power-on and by
-- the entries, and the images
pub record Boot : Type 0 where
  pub cold : Bool
  pub power : ℕ
  pub entries : List ℕ
  pub images : List PlacedImage

-- the images and boot files that the code has, as data
abbrev pub placed_of : BootImage → PlacedImage
placed_of placed = record { address = placed.address; image = configuration_of placed.image }

abbrev pub boot_of : BootFile → Boot
boot_of file = record { cold = file.cold; power = file.power; entries = file.entries; images = map placed_of file.images.items }

-- the four entries
abbrev pub entries_in : List ℕ
entries_in = range_with_len 0 4

-- Bytes mean a boot file: five headers of the right form, the entries' addresses after them and within the file, header 0 with the address
-- of an entry. The images are at the addresses that the entries name, and the part of each spells it under the standard layouts.
pub record Means (bytes : List ℕ) (boot : Boot) : Type 0 where
  pub headers : 160 ≤ length bytes
  pub formed : (offset : ℕ) → offset < 160 → IsTrue (is_formed bytes offset)
  pub within : (entry : ℕ) → entry < 4 → IsTrue (is_within bytes (entry_address bytes entry))
  pub cold_is : boot.cold ≡ is_cold bytes
  pub power_is : image_index bytes (address_of bytes 0) ≡ Some boot.power
  pub entries_are : map (λ entry. image_index bytes (entry_address bytes entry)) entries_in ≡ map Some boot.entries
  pub addresses_are : map (λ placed. placed.address) boot.images ≡ image_addresses bytes
  pub spelled : All (λ placed. Spells standard_layouts (part_of bytes placed.address) placed.image) boot.images
