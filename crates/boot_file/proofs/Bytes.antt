-- What the bytes of a boot file are, one image after the other.
use Rattle.std.proofs.Common.{◌≡◌, ℕ, zero, suc, ◌+◌, ◌-◌, ◌*◌, ◌/◌, ◌%◌, ◌==◌, ◌<◌, ◌≤◌, true, false, ◌&&◌, List, [], ◌++◌, length, get_or, take, replicate, refl, sym, ap, ◌∙◌, inl, inr, arith, length-append, add-one}
use Rattle.std.proofs.Math.Bool.{and-false}
use Rattle.std.specs.Prelude.{Some, None, Vec, find}
use Rattle.std.specs.declared.alloc.Global.{Global}
use Rattle.std.specs.List.{range_with_len}
use Rattle.std.proofs.lemmas.Bool.{cases_lt, lt-ltb, le-ltb, le-leb, lt-leb}
use Rattle.std.proofs.lemmas.List.{get_or_append_left, get_or-append_right, get_or-map, get_or-replicate, length-map, take_all, length-replicate}
use Rattle.std.proofs.lemmas.Bool.Decides.{nat_tests}
use Rattle.std.proofs.lemmas.List.FromFn.{fill_by_all}
use Rattle.boot_file.specs.declared.options.Options.{Options}
use Rattle.boot_file.specs.BootFile.{HasBytes, boot_byte, boot_file, image_at, lies_in, place_of, end_of, start_of, boot_length, bytes_of, header, header_at, header_byte, image_booted}
use Rattle.boot_file.proofs.Found.{find-none, find-first}
use Rattle.boot_file.proofs.Order.{place-start, place-later, place-rises, start-first}

-- ---- an offset and the images

lies_in-after : (images : List (List ℕ)) (options : Options) (offset index : ℕ) → end_of images options index ≤ offset → lies_in images options offset index ≡ false
lies_in-after images options offset index after = rw (le-ltb offset (end_of images options index) after) (and-false _)

lies_in-ahead : (images : List (List ℕ)) (options : Options) (offset index : ℕ) → offset < place_of images options index → lies_in images options offset index ≡ false
lies_in-ahead images options offset index ahead = rw (lt-leb (place_of images options index) offset ahead) refl

lies_in-within : (images : List (List ℕ)) (options : Options) (offset index : ℕ) → place_of images options index ≤ offset → offset < end_of images options index → lies_in images options offset index ≡ true
lies_in-within images options offset index from to =
    rw (le-leb (place_of images options index) offset from, lt-ltb offset (end_of images options index) to) refl

-- an offset before an image and after those before it lies in none
found-none : (images : List (List ℕ)) (options : Options) (offset index : ℕ) → start_of images options index ≤ offset → offset < place_of images options index
    → find (lies_in images options offset) (range_with_len 0 (length images)) ≡ None
found-none images options offset index from to = find-none (lies_in images options offset) 0 (length images) (λ k within. elim (cases_lt k index) [
  | inl less ↦ lies_in-after images options offset (0 + k) (omega (arith, place-later images options (0 + k) index (omega arith)))
  | inr more ↦ lies_in-ahead images options offset (0 + k) (omega (arith, place-rises images options index (0 + k) (omega arith)))
])

-- an offset in an image lies in no earlier one
found-first : (images : List (List ℕ)) (options : Options) (offset index : ℕ) → index < length images → place_of images options index ≤ offset → offset < end_of images options index
    → find (lies_in images options offset) (range_with_len 0 (length images)) ≡ Some index
found-first images options offset index within from to = find-first (lies_in images options offset) 0 (length images) index index within (omega arith)
    (lies_in-within images options offset index from to)
    (λ k below. lies_in-after images options offset (0 + k)
    (omega (arith, place-later images options (0 + k) index (omega arith), place-start images options index)))

-- ---- the byte of an offset

boot_byte-header : (images : List (List ℕ)) (options : Options) (offset : ℕ) → offset < 160
    → boot_byte images options offset ≡ header_byte (length images) (place_of images options) options offset
unfolding boot_byte
boot_byte-header images options offset below = rw (lt-ltb offset 160 below) refl

boot_byte-gap : (images : List (List ℕ)) (options : Options) (offset index : ℕ) → start_of images options index ≤ offset → offset < place_of images options index
    → boot_byte images options offset ≡ 255
unfolding boot_byte
boot_byte-gap images options offset index from to =
    rw (le-ltb offset 160 (omega (arith, start-first images options index)), found-none images options offset index from to) refl

boot_byte-image : (images : List (List ℕ)) (options : Options) (offset index : ℕ) → index < length images → place_of images options index ≤ offset → offset < end_of images options index
    → boot_byte images options offset ≡ get_or (image_at images index) (offset - place_of images options index) 0
unfolding boot_byte
boot_byte-image images options offset index within from to =
    rw (le-ltb offset 160 (omega (arith, start-first images options index, place-start images options index)), found-first images options offset index within from to) refl

-- ---- a file that grows

-- a file with more bytes after it
HasBytes-append : (byte : ℕ → ℕ) (size more_size : ℕ) (file more : List ℕ) → HasBytes byte size file → size + length more ≡ more_size
    → ((k : ℕ) → k < length more → get_or more k 0 ≡ byte (size + k)) → HasBytes byte more_size (file ++ more)
HasBytes-append byte size more_size file more has e follows = record {
  size_is = omega (arith, length-append file more, has.size_is);
  bytes_are = λ offset within. elim (cases_lt offset size) [
    | inl less ↦ get_or_append_left file more 0 offset (omega (arith, has.size_is)) ∙ has.bytes_are offset less
    | inr over ↦
        let here : size + (offset - size) ≡ offset = omega arith in
        get_or-append_right file more size offset 0 has.size_is over ∙ follows (offset - size) (omega (arith, e)) ∙ ap byte here
  ];
}

-- FF up to an image
pub HasBytes-gap : (images : List (List ℕ)) (options : Options) (index place size : ℕ) (file : List ℕ) → place ≡ place_of images options index → size ≡ length file
    → HasBytes (boot_byte images options) (start_of images options index) file
    → HasBytes (boot_byte images options) place (take place file ++ replicate (place - size) 255)
HasBytes-gap images options index place size file e same has =
    let above : start_of images options index ≤ place = omega (arith, place-start images options index) in
    let whole : take place file ≡ file = take_all place file (omega (arith, has.size_is)) in
    rw (whole, same) (HasBytes-append (boot_byte images options) (start_of images options index) place file (replicate (place - length file) 255) has
    (omega (arith, length-replicate {A = ℕ} (place - length file) 255, has.size_is))
    (λ k within.
    let few : k < place - length file = omega (arith, length-replicate {A = ℕ} (place - length file) 255) in
    get_or-replicate (place - length file) k 255 0 few
    ∙ sym (boot_byte-gap images options (start_of images options index + k) index (omega arith) (omega (arith, has.size_is)))))

-- and the image
pub HasBytes-image : (images : List (List ℕ)) (options : Options) (index place : ℕ) (file image : List ℕ) → place ≡ place_of images options index → index < length images
    → image_at images index ≡ image → HasBytes (boot_byte images options) place file
    → HasBytes (boot_byte images options) (end_of images options index) (file ++ image)
HasBytes-image images options index place file image at within e has =
    HasBytes-append (boot_byte images options) place (end_of images options index) file image has
    (omega (arith, ap length e))
    (λ k few.
    let here : place + k - place_of images options index ≡ k = omega arith in
    sym (boot_byte-image images options (place + k) index within (omega arith) (omega (arith, ap length e)) ∙ rw (here, e) refl))

-- a header boots an image that is there
pub image_booted-within : (count : ℕ) (options : Options) (index : ℕ) → options.power_on < count → image_booted count options index < count
image_booted-within count options index power_on = grind (arith, nat_tests)

-- the headers, from the places of the images
pub HasBytes-headers : (images : List (List ℕ)) (options : Options) (count : ℕ) (place : ℕ → ℕ) (file : List ℕ) → count ≡ length images
    → ((index : ℕ) → index < count → place index ≡ place_of images options index) → options.power_on < count
    → HasBytes (header_byte count place options) 160 file → HasBytes (boot_byte images options) 160 file
HasBytes-headers images options count place file e places power_on has = record {
  size_is = has.size_is;
  bytes_are = λ offset within.
      has.bytes_are offset within
      ∙ ap (λ at. get_or (header (options.cold && (offset / 32 == 0)) at) (offset % 32) 0)
      (places (image_booted count options (offset / 32)) (image_booted-within count options (offset / 32) power_on))
      ∙ ap (λ n. header_byte n (place_of images options) options offset) e
      ∙ sym (boot_byte-header images options offset within);
}

-- the whole file
pub boot_file-is : (images : List (List ℕ)) (options : Options) (file : List ℕ) → HasBytes (boot_byte images options) (boot_length images options) file
    → file ≡ boot_file images options
unfolding boot_file
boot_file-is images options file has = fill_by_all (boot_byte images options) file (boot_length images options) 0 has.size_is has.bytes_are

-- ---- the headers

-- no bytes
pub HasBytes-none : (byte : ℕ → ℕ) (file : List ℕ) → file ≡ [] → HasBytes byte 0 file
HasBytes-none byte file empty = record { size_is = ap length empty; bytes_are = λ offset within. absurd (omega arith) }

-- one header more
pub HasBytes-header : (count : ℕ) (place : ℕ → ℕ) (options : Options) (index : ℕ) (file more : List ℕ)
    → HasBytes (header_byte count place options) (32 * index) file → more ≡ header_at count place options index
    → HasBytes (header_byte count place options) (32 * (index + 1)) (file ++ more)
HasBytes-header count place options index file more has is =
    let size : length more ≡ 32 = ap length is in
    HasBytes-append (header_byte count place options) (32 * index) (32 * (index + 1)) file more has (omega arith)
    (λ k few.
    let row : (32 * index + k) / 32 ≡ index = omega arith in
    let column : (32 * index + k) % 32 ≡ k = omega arith in
    rw (row, column) (ap (λ bytes. get_or bytes k 0) is))

-- ---- the images

-- the bytes of an image that is given
pub image_at-is : (images : Vec (Vec ℕ Global) Global) (index : ℕ) (image : Vec ℕ Global) → index < length images.items → image ≡ get_or images.items index image
    → image_at (bytes_of images) index ≡ image.items
image_at-is images index image within is =
    get_or-map (λ (vec : Vec ℕ Global). vec.items) images.items index image [] within ∙ sym (ap (λ (vec : Vec ℕ Global). vec.items) is)

-- how many images there are
pub length-bytes_of : (images : Vec (Vec ℕ Global) Global) → length (bytes_of images) ≡ length images.items
length-bytes_of images = length-map images.items (λ (vec : Vec ℕ Global). vec.items)

-- at the end all images are in it
pub start-all : (images : List (List ℕ)) (options : Options) (count : ℕ) → count ≡ length images → 0 < count → start_of images options count ≡ boot_length images options
start-all images options zero e some = absurd (omega arith)
start-all images options (suc count) e some = let last : length images - 1 ≡ count = omega arith in rw last refl

-- where the next image may begin
pub start-more : (images : List (List ℕ)) (options : Options) (index : ℕ) → start_of images options (index + 1) ≡ end_of images options index
start-more images options index = rw add-one refl
