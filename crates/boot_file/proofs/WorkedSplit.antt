-- The definitions at the file of two images of 3 bytes and of 1 byte, which are no bitstreams, worked out by hand.
use Rattle.std.proofs.Common.{◌≡◌, ℕ, List, [], ◌∷◌, take, refl}
use Rattle.std.specs.Prelude.{false, Some, set}
use Rattle.index_search.specs.Places.{any_below, first_below, gathered_below, least_below}
use Rattle.boot_file.specs.declared.options.Options.{Options}
use Rattle.boot_file.specs.BootFile.{boot_byte, boot_file, place_of}
use Rattle.bin_stream.specs.Front.{preamble_offset}
use Rattle.bin_stream.specs.Spelling.{bin_read_of}
use Rattle.bin_stream.specs.declared.fault.BinCause.TheVariants.{NoPreamble}
use Rattle.bin_stream.specs.declared.fault.BinFault.TheVariants.{At}
use Rattle.boot_file.specs.declared.split_fault.SplitFault.TheVariants.{Short, Header, Address, PowerOn, Image}
use Rattle.boot_file.specs.Parts.{image_addresses, image_index, part_end}
use Rattle.boot_file.specs.Faults.{headers_fault, images_fault, split_fault}

-- the second image at power-on, and images at multiples of 256
abbrev options : Options
options = record { cold = false; power_on = 1; entries = 0 ∷ 1 ∷ 2 ∷ 3 ∷ []; align = Some 8; align_first = false }

abbrev file : List ℕ
file = boot_file ((1 ∷ 2 ∷ 3 ∷ []) ∷ (4 ∷ []) ∷ []) options

-- headers 3 and 4 name the first image once more
addresses : image_addresses file ≡ 160 ∷ 256 ∷ []
unfolding place_of boot_byte boot_file any_below gathered_below image_addresses
addresses = refl

-- header 0 boots the second
power : image_index file 256 ≡ Some 1
unfolding place_of boot_byte boot_file any_below gathered_below image_addresses
power = refl

-- the part of the first image goes up to the second
first_end : part_end file 160 ≡ 256
unfolding place_of boot_byte boot_file any_below least_below part_end
first_end = refl

-- and that of the second to the end
second_end : part_end file 256 ≡ 257
unfolding place_of boot_byte boot_file any_below least_below part_end
second_end = refl

-- the first image spells none, which is reported at the end of its part
no_image : split_fault file ≡ Some (Image 0 (At 256 NoPreamble))
unfolding place_of boot_byte boot_file any_below first_below least_below gathered_below preamble_offset bin_read_of image_addresses part_end headers_fault images_fault
no_image = refl

-- another byte than 00 and 10 in the mode of header 0
mode : headers_fault (set file 6 0x11) ≡ Some (Header 0 6)
unfolding place_of boot_byte boot_file any_below least_below headers_fault
mode = refl

-- the mode of cold boot in header 1
later_mode : headers_fault (set file 38 0x10) ≡ Some (Header 1 38)
unfolding place_of boot_byte boot_file any_below least_below headers_fault
later_mode = refl

-- an address in the headers goes before that of header 0, which no other header has
low : headers_fault (set (set file 107 159) 11 1) ≡ Some (Address 3 159)
unfolding place_of boot_byte boot_file any_below least_below headers_fault
low = refl

power_on : headers_fault (set file 11 1) ≡ Some (PowerOn 257)
unfolding place_of boot_byte boot_file any_below least_below headers_fault
power_on = refl

short : headers_fault (take 159 file) ≡ Some (Short 159)
unfolding place_of boot_byte boot_file any_below least_below headers_fault
short = refl
