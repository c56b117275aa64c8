-- Why a boot file isn't split: the first cause that applies.
use Rattle.std.specs.Prelude.{ℕ, ◌+◌, ◌/◌, not, List, length, get_or, nat_lt, if◌then◌else◌, Option, Some, None, option_map, Result, Ok, Err}
use Rattle.index_search.specs.Places.{first_below, least_below, or_else}
use Rattle.ice_image.specs.Configuration.{Configuration}
use Rattle.layout_file.specs.Layouts.{standard_layouts}
use Rattle.bin_stream.specs.Refusals.{Fault}
use Rattle.bin_stream.specs.Spelling.{bin_read_of}
use Rattle.bin_stream.specs.declared.fault.BinFault.TheVariants.{At}
use Rattle.boot_file.specs.declared.split_fault.SplitFault.{SplitFault}
use Rattle.boot_file.specs.declared.split_fault.SplitFault.TheVariants.{Short, Header, Address, PowerOn, Image}
use Rattle.boot_file.specs.Headers.{address_of, entry_address, is_formed, is_within}
use Rattle.boot_file.specs.Parts.{image_addresses, is_named, part_of}

-- the file is shorter than the headers
abbrev pub short_fault : List ℕ → Option SplitFault
short_fault bytes = if nat_lt (length bytes) 160 then Some (Short (length bytes)) else None

-- the least offset whose byte isn't of the form
abbrev pub unformed_offset : List ℕ → Option ℕ
unformed_offset bytes = least_below 160 (λ offset. not (is_formed bytes offset))

abbrev pub header_fault : List ℕ → Option SplitFault
header_fault bytes = option_map (λ offset. Header (offset / 32) offset) (unformed_offset bytes)

-- the least entry whose address lies in the headers or after the end
abbrev pub outside_entry : List ℕ → Option ℕ
outside_entry bytes = least_below 4 (λ entry. not (is_within bytes (entry_address bytes entry)))

abbrev pub address_fault : List ℕ → Option SplitFault
address_fault bytes = option_map (λ entry. Address (entry + 1) (entry_address bytes entry)) (outside_entry bytes)

-- no entry names the address of header 0
abbrev pub power_fault : List ℕ → Option SplitFault
power_fault bytes = if is_named bytes (address_of bytes 0) then None else Some (PowerOn (address_of bytes 0))

-- what is wrong with the headers
unfoldable pub headers_fault : List ℕ → Option SplitFault
headers_fault bytes = or_else (short_fault bytes) (or_else (header_fault bytes) (or_else (address_fault bytes) (power_fault bytes)))

-- the fault of the bitstream at an address, with its offset in the whole file
abbrev pub bitstream_fault : ℕ → ℕ → Result Configuration Fault → Option SplitFault
bitstream_fault index address (Ok image) = None
bitstream_fault index address (Err fault) = Some (Image index (At (address + fault.offset) fault.cause))

-- what is wrong with the image at an address
abbrev pub image_fault : List ℕ → ℕ → ℕ → Option SplitFault
image_fault bytes index address = bitstream_fault index address (bin_read_of standard_layouts (part_of bytes address))

-- the first image whose part spells none
unfoldable pub images_fault : List ℕ → Option SplitFault
images_fault bytes = first_below (length (image_addresses bytes)) (λ index. image_fault bytes index (get_or (image_addresses bytes) index 0))

-- the first cause of all
abbrev pub split_fault : List ℕ → Option SplitFault
split_fault bytes = or_else (headers_fault bytes) (images_fault bytes)
