-- What a boot file means that was joined from images.
use Rattle.std.specs.Prelude.{◌≡◌, ℕ, ◌+◌, ◌==◌, Bool, List, [], ◌∷◌, length, map, if◌then◌else◌, None}
use Rattle.std.specs.List.{AllZip, enumerate_from, range_with_len}
use Rattle.index_search.specs.Places.{any_below, gathered_below}
use Rattle.ice_image.specs.Configuration.{Configuration}
use Rattle.layout_file.specs.Layouts.{standard_layouts}
use Rattle.boot_file.specs.declared.options.Options.{Options}
use Rattle.boot_file.specs.BootFile.{boot_file, image_booted, place_of}
use Rattle.boot_file.specs.Refusals.{join_fault}
use Rattle.bin_stream.specs.Spelling.{Spells}
use Rattle.boot_file.specs.Meaning.{Boot, Means, PlacedImage}

-- images in their order at their offsets
abbrev pub placed : List (List ℕ) → Options → List Configuration → List PlacedImage
placed images options spelled = map (λ one. record { address = place_of images options one.0; image = one.1 }) (enumerate_from 0 spelled)

-- the boot file that is made of images that spell these, by the options
abbrev pub joined_boot : List (List ℕ) → Options → List Configuration → Boot
joined_boot images options spelled = record {
  cold = options.cold;
  power = options.power_on;
  entries = map (image_booted (length images) options) (range_with_len 1 4);
  images = placed images options spelled;
}

-- ---- the order of images

-- the image that an entry's header boots, by its index
abbrev pub entry_booted : ℕ → Options → ℕ → ℕ
entry_booted count options entry = image_booted count options (entry + 1)

-- whether the header of an earlier entry boots it too
abbrev pub is_booted_before : ℕ → Options → ℕ → Bool
is_booted_before count options entry = any_below entry (λ earlier. entry_booted count options earlier == entry_booted count options entry)

-- the image of an entry that is the first to boot it
abbrev pub first_booted : ℕ → Options → ℕ → List ℕ
first_booted count options entry = if is_booted_before count options entry then [] else entry_booted count options entry ∷ []

-- the entries boot each of `count` images, and the order of the images is that of the first entries that boot them
abbrev pub AreInOrder : ℕ → Options → Type 0
AreInOrder count options = gathered_below 4 (first_booted count options) ≡ range_with_len 0 count

-- the entries if each image has its own header, in their order
abbrev pub own_entries : List ℕ
own_entries = range_with_len 0 4

-- ---- the law

-- If each of some bitstreams spells an image, they may be joined by the options, and their order is that of the entries, the file that joins
-- them means these images in their order at their offsets, with the flag of cold boot and the image of power-on of the options.
abbrev pub JoinedMeans : List (List ℕ) → Options → List Configuration → Type 0
JoinedMeans images options spelled =
    AllZip (Spells standard_layouts) images spelled → join_fault images options ≡ None → AreInOrder (length images) options
    → Means (boot_file images options) (joined_boot images options spelled)
