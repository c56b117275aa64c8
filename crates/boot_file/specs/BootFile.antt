-- The boot file: five headers of 32 bytes, then the images. Each byte of it is a function of its offset. Images, headers
-- and offsets count from 0. The options are those of the usage text of Project IceStorm's `icemulti`; the headers consist of commands of
-- its 'Bitstream File Format Documentation'.
use Rattle.std.specs.Prelude.{◌≡◌, ℕ, ◌<◌, zero, suc, ◌+◌, ◌-◌, ◌/◌, ◌%◌, ◌^◌, Bool, ◌&&◌, List, [], ◌∷◌, length, get_or, map, find, nat_lt, nat_le, ◌==◌, if◌then◌else◌, Option, Some, None, Vec}
use Rattle.std.specs.Int.{next_multiple_of}
use Rattle.std.specs.List.{range_with_len}
use Rattle.std.specs.declared.alloc.Global.{Global}
use Rattle.boot_file.specs.declared.options.Options.{Options}

-- the bytes of each image
abbrev pub bytes_of : Vec (Vec ℕ Global) Global → List (List ℕ)
bytes_of images = map (λ image. image.items) images.items

-- ---- places

-- the least multiple of 2 ^ n that isn't below an offset, or that offset if no n is given
abbrev pub aligned : Option ℕ → ℕ → ℕ
aligned None offset = offset
aligned (Some n) offset = next_multiple_of offset (2 ^ n)

-- an image by its index, and no bytes after the last
abbrev pub image_at : List (List ℕ) → ℕ → List ℕ
image_at images index = get_or images index []

-- the first image is right after the headers, and aligned only if that is asked for
abbrev pub first_place : Options → ℕ
first_place options = if options.align_first then aligned options.align 160 else 160

-- the offset of an image: each but the first one begins at the aligned end of the one before
unfoldable pub place_of : List (List ℕ) → Options → ℕ → ℕ
place_of images options zero = first_place options
place_of images options (suc index) = aligned options.align (place_of images options index + length (image_at images index))

-- the offset at which an image ends
abbrev pub end_of : List (List ℕ) → Options → ℕ → ℕ
end_of images options index = place_of images options index + length (image_at images index)

-- ---- headers

-- a header: the mode, which is 16 if the pins choose the image at a cold boot, and the address of an image
abbrev pub header : Bool → ℕ → List ℕ
header cold address =
    0x7E ∷ 0xAA ∷ 0x99 ∷ 0x7E ∷ 0x92 ∷ 0x00 ∷ (if cold then 0x10 else 0x00)
    ∷ 0x44 ∷ 0x03 ∷ address / 65536 % 256 ∷ address / 256 % 256 ∷ address % 256
    ∷ 0x82 ∷ 0x00 ∷ 0x00 ∷ 0x01 ∷ 0x08
    ∷ 0 ∷ 0 ∷ 0 ∷ 0 ∷ 0 ∷ 0 ∷ 0 ∷ 0 ∷ 0 ∷ 0 ∷ 0 ∷ 0 ∷ 0 ∷ 0 ∷ 0 ∷ []

-- Of `count` images, the one that a header boots: the first header boots the image of power-on, and each further header the image that its
-- entry names. If there is no image of that index, it boots the first one, which is this project's choice.
abbrev pub image_booted : ℕ → Options → ℕ → ℕ
image_booted count options index =
    if index == 0 then options.power_on
    else if nat_lt (get_or options.entries (index - 1) 0) count then get_or options.entries (index - 1) 0
    else 0

-- a header by its index, from the offset of each image; only the first one may have the mode of cold boot
abbrev pub header_at : ℕ → (ℕ → ℕ) → Options → ℕ → List ℕ
header_at count place options index = header (options.cold && (index == 0)) (place (image_booted count options index))

-- a byte of the headers
abbrev pub header_byte : ℕ → (ℕ → ℕ) → Options → ℕ → ℕ
header_byte count place options offset = get_or (header_at count place options (offset / 32)) (offset % 32) 0

-- ---- bytes

-- whether an offset lies in an image
abbrev pub lies_in : List (List ℕ) → Options → ℕ → ℕ → Bool
lies_in images options offset index = nat_le (place_of images options index) offset && nat_lt offset (end_of images options index)

-- a byte of the image in which an offset lies, and FF outside of all
abbrev pub image_byte : List (List ℕ) → Options → ℕ → Option ℕ → ℕ
image_byte images options offset (Some index) = get_or (image_at images index) (offset - place_of images options index) 0
image_byte images options offset None = 0xFF

-- the byte at an offset
unfoldable pub boot_byte : List (List ℕ) → Options → ℕ → ℕ
boot_byte images options offset =
    if nat_lt offset 160 then header_byte (length images) (place_of images options) options offset
    else image_byte images options offset (find (lies_in images options offset) (range_with_len 0 (length images)))

-- the file ends with the last image
abbrev pub boot_length : List (List ℕ) → Options → ℕ
boot_length images options = end_of images options (length images - 1)

-- the whole file, if there is an image
unfoldable pub boot_file : List (List ℕ) → Options → List ℕ
boot_file images options = map (boot_byte images options) (range_with_len 0 (boot_length images options))

-- a file that has the bytes of a function below an offset, and ends there
pub record HasBytes (byte : ℕ → ℕ) (size : ℕ) (file : List ℕ) : Type 0 where
  pub size_is : length file ≡ size
  pub bytes_are : (offset : ℕ) → offset < size → get_or file offset 0 ≡ byte offset

-- the offset at which the image before one ends, or the headers before the first image
abbrev pub start_of : List (List ℕ) → Options → ℕ → ℕ
start_of images options zero = 160
start_of images options (suc index) = end_of images options index
