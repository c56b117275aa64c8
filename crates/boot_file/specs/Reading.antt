-- The meaning of a boot file as one small program.
use Rattle.std.specs.Prelude.{◌≡◌, ℕ, List, map, filter_map, unwrap_or, Option, Some, None, option_map, Result, Ok, Err, ◌↔◌}
use Rattle.std.specs.Result.{result_ok}
use Rattle.layout_file.specs.Layouts.{standard_layouts}
use Rattle.bin_stream.specs.Spelling.{bin_read_of}
use Rattle.boot_file.specs.declared.split_fault.SplitFault.{SplitFault}
use Rattle.boot_file.specs.declared.split_fault.SplitFault.TheVariants.{Memory}
use Rattle.boot_file.specs.Headers.{address_of, entry_address, is_cold}
use Rattle.boot_file.specs.Parts.{image_addresses, image_index, part_of}
use Rattle.boot_file.specs.Meaning.{Boot, Means, PlacedImage, entries_in}
use Rattle.boot_file.specs.Faults.{split_fault}

-- the index of the image at an address, or 0 if there is none
abbrev pub index_at : List ℕ → ℕ → ℕ
index_at bytes address = unwrap_or (image_index bytes address) 0

-- the image that the part at an address spells, if it spells one
abbrev pub image_in : List ℕ → ℕ → Option PlacedImage
image_in bytes address =
    option_map (λ image. record { address = address; image = image }) (result_ok (bin_read_of standard_layouts (part_of bytes address)))

-- the boot file, if there is no fault
unfoldable pub boot_in : List ℕ → Boot
boot_in bytes = record {
  cold = is_cold bytes;
  power = index_at bytes (address_of bytes 0);
  entries = map (λ entry. index_at bytes (entry_address bytes entry)) entries_in;
  images = filter_map (image_in bytes) (image_addresses bytes);
}

abbrev pub read_where : Option SplitFault → Boot → Result Boot SplitFault
read_where None boot = Ok boot
read_where (Some fault) boot = Err fault

-- what bytes mean, or the first fault
unfoldable pub boot_read_of : List ℕ → Result Boot SplitFault
boot_read_of bytes = read_where (split_fault bytes) (boot_in bytes)

-- Bytes mean at most one boot file, and none exactly if they have a fault: the program gives the boot file, or the first fault.
pub record IsDecided (bytes : List ℕ) : Type 0 where
  pub means : (boot : Boot) → Means bytes boot ↔ (boot_read_of bytes ≡ Ok boot)
  pub refused : (fault : SplitFault) → (split_fault bytes ≡ Some fault) ↔ (boot_read_of bytes ≡ Err fault)

-- a refusal is the first fault, unless memory ran out
abbrev pub Tells : Option SplitFault → SplitFault → Type 0
Tells fault (Memory e) = Unit {0}
Tells fault told = fault ≡ Some told
