-- The definitions at two images of 3 bytes and of 1 byte, worked out by hand.
use Rattle.std.proofs.Common.{◌≡◌, ◌+◌, ◌*◌, ◌++◌, [], ◌∷◌, ℕ, List, refl}
use Rattle.std.specs.Prelude.{true, false, Some, None, take, drop, map, replicate}
use Rattle.std.specs.List.{range_with_len}
use Rattle.boot_file.specs.declared.options.Options.{Options}
use Rattle.boot_file.specs.declared.multi_fault.MultiFault.TheVariants.{NoImage, TooMany, Align, PowerOn, Address}
use Rattle.boot_file.specs.BootFile.{place_of, boot_byte, boot_length, boot_file}
use Rattle.boot_file.specs.Refusals.{check_fault, join_fault}

-- the images
abbrev two : List (List ℕ)
two = (1 ∷ 2 ∷ 3 ∷ []) ∷ (4 ∷ []) ∷ []

-- a cold boot by the pins, the second image at power-on, a header for each image, and images at multiples of 256
abbrev options : Options
options = record { cold = true; power_on = 1; entries = 0 ∷ 1 ∷ 2 ∷ 3 ∷ []; align = Some 8; align_first = false }

-- ---- places

-- the first image is right after the headers
first : place_of two options 0 ≡ 160
unfolding place_of
first = refl

-- the second at the next multiple of 256
second : place_of two options 1 ≡ 256
unfolding place_of
second = refl

-- the first image is aligned too if that is asked for
first_aligned : place_of two (record options { align_first = true }) 0 ≡ 256
unfolding place_of
first_aligned = refl

second_aligned : place_of two (record options { align_first = true }) 1 ≡ 512
unfolding place_of
second_aligned = refl

-- without alignment each is right after the one before
second_unaligned : place_of two (record options { align = None }) 1 ≡ 163
unfolding place_of
second_unaligned = refl

-- the file ends with the last image
whole_length : boot_length two options ≡ 257
unfolding place_of
whole_length = refl

-- ---- bytes

-- the first header boots the second image, and alone has the mode of cold boot
header_0 : take 32 (boot_file two options) ≡
    0x7E ∷ 0xAA ∷ 0x99 ∷ 0x7E ∷ 0x92 ∷ 0x00 ∷ 0x10 ∷ 0x44 ∷ 0x03 ∷ 0x00 ∷ 0x01 ∷ 0x00 ∷ 0x82 ∷ 0x00 ∷ 0x00 ∷ 0x01 ∷ 0x08
    ∷ 0 ∷ 0 ∷ 0 ∷ 0 ∷ 0 ∷ 0 ∷ 0 ∷ 0 ∷ 0 ∷ 0 ∷ 0 ∷ 0 ∷ 0 ∷ 0 ∷ 0 ∷ []
unfolding place_of boot_byte boot_file
header_0 = refl

-- the modes of all headers
modes : map (λ index. boot_byte two options (32 * index + 6)) (range_with_len 0 5) ≡ 0x10 ∷ 0x00 ∷ 0x00 ∷ 0x00 ∷ 0x00 ∷ []
unfolding place_of boot_byte
modes = refl

-- the addresses: of the image at power-on, the first, the second, and the first twice as there is no third and no fourth
addresses_high : map (λ index. boot_byte two options (32 * index + 10)) (range_with_len 0 5) ≡ 1 ∷ 0 ∷ 1 ∷ 0 ∷ 0 ∷ []
unfolding place_of boot_byte
addresses_high = refl

addresses_low : map (λ index. boot_byte two options (32 * index + 11)) (range_with_len 0 5) ≡ 0 ∷ 160 ∷ 0 ∷ 160 ∷ 160 ∷ []
unfolding place_of boot_byte
addresses_low = refl

-- other entries: the first image, the second twice, and the first
entries_low : map (λ index. boot_byte two (record options { entries = 0 ∷ 1 ∷ 1 ∷ 0 ∷ [] }) (32 * index + 11)) (range_with_len 0 5) ≡ 0 ∷ 160 ∷ 0 ∷ 0 ∷ 160 ∷ []
unfolding place_of boot_byte
entries_low = refl

-- after the headers the first image, FF up to the second one, and the second
after_headers : drop 160 (boot_file two options) ≡ 1 ∷ 2 ∷ 3 ∷ replicate 93 0xFF ++ 4 ∷ []
unfolding place_of boot_byte boot_file
after_headers = refl

-- ---- refusals

no_image : join_fault [] options ≡ Some NoImage
unfolding check_fault
no_image = refl

five_images : check_fault 5 options ≡ Some (TooMany 5)
unfolding check_fault
five_images = refl

far_alignment : check_fault 2 (record options { align = Some 25 }) ≡ Some (Align 25)
unfolding check_fault
far_alignment = refl

-- at power-on the third of two images
not_there : check_fault 2 (record options { power_on = 2 }) ≡ Some (PowerOn 2)
unfolding check_fault
not_there = refl

-- the second image at 2 to the power of 24
far_address : join_fault two (record options { align = Some 24 }) ≡ Some (Address 1)
unfolding place_of check_fault
far_address = refl

accepted : join_fault two options ≡ None
unfolding place_of check_fault
accepted = refl
