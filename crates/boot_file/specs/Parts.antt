-- The addresses of the images of a boot file, and which part of the file each image has.
use Rattle.std.specs.Prelude.{ℕ, Bool, ◌&&◌, List, [], ◌∷◌, length, position, slice_range, unwrap_or, nat_lt, ◌==◌, if◌then◌else◌, Option}
use Rattle.index_search.specs.Places.{any_below, gathered_below, least_below}
use Rattle.boot_file.specs.Headers.{entry_address}

-- whether an entry names an address
abbrev pub is_named : List ℕ → ℕ → Bool
is_named bytes address = any_below 4 (λ entry. entry_address bytes entry == address)

-- whether an earlier entry names the address that an entry names
abbrev pub is_named_before : List ℕ → ℕ → Bool
is_named_before bytes entry = any_below entry (λ earlier. entry_address bytes earlier == entry_address bytes entry)

-- the address of an entry that is the first to name it
abbrev pub first_named : List ℕ → ℕ → List ℕ
first_named bytes entry = if is_named_before bytes entry then [] else entry_address bytes entry ∷ []

-- the addresses of the images: each once, in the order of the least entry that names it
unfoldable pub image_addresses : List ℕ → List ℕ
image_addresses bytes = gathered_below 4 (first_named bytes)

-- the index of the image at an address
abbrev pub image_index : List ℕ → ℕ → Option ℕ
image_index bytes address = position (λ named. named == address) (image_addresses bytes)

-- the part of an image ends at the next greater address that an entry names, or else at the end of the file
unfoldable pub part_end : List ℕ → ℕ → ℕ
part_end bytes address = unwrap_or (least_below (length bytes) (λ offset. nat_lt address offset && is_named bytes offset)) (length bytes)

-- the part of the image at an address
abbrev pub part_of : List ℕ → ℕ → List ℕ
part_of bytes address = slice_range bytes address (part_end bytes address)
