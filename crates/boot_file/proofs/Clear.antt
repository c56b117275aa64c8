-- What is answered if no fault is found.
use Rattle.std.proofs.Common.{◌≡◌, ℕ, ◌+◌, ◌<◌, ◌≤◌, Bool, true, false, List, [], ◌∷◌, ◌++◌, length, get_or, take, refl, sym, ap, ap₂, ◌∙◌, subst, inl, inr}
use Rattle.std.specs.Prelude.{nat_lt, nat_le, not, if◌then◌else◌, Option, Some, None, filter_map, map, option_map, Result, Ok, Err, All}
use Rattle.std.proofs.lemmas.Bool.{cases_lt, lt-ltb, le-ltb, ltb-true}
use Rattle.std.specs.List.{cons_option}
use Rattle.std.proofs.lemmas.List.{map-append, take_more}
use Rattle.std.proofs.lemmas.List.Elements.{filter_map-append}
use Rattle.std.proofs.lemmas.Grind.{get_or_default_zero}
use Rattle.index_search.specs.Places.{first_below}
use Rattle.index_search.proofs.Found.{first_below-clear, least_below-clear, or_else-first, or_else-other}
use Rattle.index_search.proofs.Places.{first_below-first, first_below-more, first_below-none, least_below-none}
use Rattle.shared_lemmas.proofs.Tests.{second_true}
use Rattle.ice_image.specs.Configuration.{Configuration}
use Rattle.layout_file.specs.Layouts.{standard_layouts}
use Rattle.bin_stream.specs.Refusals.{Fault}
use Rattle.bin_stream.specs.Spelling.{bin_read_of}
use Rattle.boot_file.specs.declared.split_fault.SplitFault.{SplitFault}
use Rattle.boot_file.specs.declared.split_fault.SplitFault.TheVariants.{Short, Header, Address, PowerOn, Image, Memory}
use Rattle.boot_file.specs.declared.file.BootImage.{BootImage}
use Rattle.boot_file.specs.Headers.{address_of, entry_address, is_formed, is_within}
use Rattle.boot_file.specs.Parts.{image_addresses, is_named, part_of}
use Rattle.boot_file.proofs.Named.{All-addresses}
use Rattle.boot_file.specs.Meaning.{PlacedImage, placed_of}
use Rattle.boot_file.specs.Reading.{Tells, image_in}
use Rattle.boot_file.specs.Faults.{address_fault, bitstream_fault, header_fault, headers_fault, image_fault, images_fault, outside_entry, power_fault, short_fault, split_fault, unformed_offset}

-- headers without a fault
pub record AreHeaders (bytes : List ℕ) : Type 0 where
  pub long : 160 ≤ length bytes
  pub formed : (offset : ℕ) → offset < 160 → is_formed bytes offset ≡ true
  pub within : (entry : ℕ) → entry < 4 → is_within bytes (entry_address bytes entry) ≡ true
  pub named : is_named bytes (address_of bytes 0) ≡ true

-- the part at an address spells an image
abbrev pub IsImage : List ℕ → ℕ → Type 0
IsImage bytes address = (image : Configuration) × (bin_read_of standard_layouts (part_of bytes address) ≡ Ok image)

-- ---- tests and options

none-mapped : {A : Type 0} (given : A → SplitFault) (value : Option A) → option_map given value ≡ None → value ≡ None
none-mapped given None none = refl
none-mapped given (Some value) none = absurd cc

passes : (test : Bool) → not test ≡ false → test ≡ true
passes true fails = refl
passes false fails = absurd cc

-- if a test fails nothing is reported
told-unless : (test : Bool) (fault : SplitFault) → (if test then None else Some fault) ≡ None → test ≡ true
told-unless true fault none = refl
told-unless false fault none = absurd cc

long-enough : (bytes : List ℕ) → short_fault bytes ≡ None → 160 ≤ length bytes
long-enough bytes none = elim (cases_lt (length bytes) 160) [
  | inl few ↦ let told : Some (Short (length bytes)) ≡ None = rw (lt-ltb (length bytes) 160 few) at none in absurd cc
  | inr enough ↦ enough
]

-- ---- headers

pub headers-clear : (bytes : List ℕ) → headers_fault bytes ≡ None → AreHeaders bytes
unfolding headers_fault
headers-clear bytes none =
    let after = or_else-other (short_fault bytes) _ none in
    let last = or_else-other (header_fault bytes) _ after in
    record {
      long = long-enough bytes (or_else-first (short_fault bytes) _ none);
      formed = λ offset below. passes (is_formed bytes offset)
          (least_below-clear 160 offset (λ offset. not (is_formed bytes offset)) (none-mapped _ (unformed_offset bytes) (or_else-first (header_fault bytes) _ after)) below);
      within = λ entry below. passes (is_within bytes (entry_address bytes entry))
          (least_below-clear 4 entry (λ entry. not (is_within bytes (entry_address bytes entry))) (none-mapped _ (outside_entry bytes) (or_else-first (address_fault bytes) (power_fault bytes) last)) below);
      named = told-unless (is_named bytes (address_of bytes 0)) (PowerOn (address_of bytes 0)) (or_else-other (address_fault bytes) (power_fault bytes) last);
    }

pub headers-none : (bytes : List ℕ) → AreHeaders bytes → headers_fault bytes ≡ None
unfolding headers_fault
headers-none bytes are =
    let formed : unformed_offset bytes ≡ None = least_below-none 160 (λ offset. not (is_formed bytes offset)) (λ offset below. ap not (are.formed offset below)) in
    let within : outside_entry bytes ≡ None = least_below-none 4 (λ entry. not (is_within bytes (entry_address bytes entry))) (λ entry below. ap not (are.within entry below)) in
    rw (le-ltb (length bytes) 160 are.long, formed, within, are.named) refl

-- ---- images

-- a bitstream without a fault is one of an image
spelled-clear : (index address : ℕ) (read : Result Configuration Fault) → bitstream_fault index address read ≡ None → (image : Configuration) × (read ≡ Ok image)
spelled-clear index address (Ok image) none = (image, refl)
spelled-clear index address (Err fault) none = absurd cc

pub images-clear : (bytes : List ℕ) → images_fault bytes ≡ None → All (IsImage bytes) (image_addresses bytes)
unfolding images_fault
images-clear bytes none k d below =
    let addresses = image_addresses bytes in
    let at = get_or addresses k 0 in
    let here = first_below-clear (length addresses) k (λ index. image_fault bytes index (get_or addresses index 0)) none below in
    subst (IsImage bytes) (sym (get_or_default_zero addresses k d below)) (spelled-clear k at (bin_read_of standard_layouts (part_of bytes at)) here)

pub images-none : (bytes : List ℕ) → All (IsImage bytes) (image_addresses bytes) → images_fault bytes ≡ None
unfolding images_fault
images-none bytes all =
    let addresses = image_addresses bytes in
    first_below-none (length addresses) (λ index. image_fault bytes index (get_or addresses index 0))
    (λ k below. ap (bitstream_fault k (get_or addresses k 0)) (all k 0 below).1)

-- ---- both

pub split-clear : (bytes : List ℕ) → split_fault bytes ≡ None → AreHeaders bytes × All (IsImage bytes) (image_addresses bytes)
split-clear bytes none =
    (headers-clear bytes (or_else-first (headers_fault bytes) (images_fault bytes) none), images-clear bytes (or_else-other (headers_fault bytes) (images_fault bytes) none))

pub split-none : (bytes : List ℕ) → AreHeaders bytes → All (IsImage bytes) (image_addresses bytes) → split_fault bytes ≡ None
split-none bytes are all = rw (headers-none bytes are) (images-none bytes all)

first-image : (bytes : List ℕ) (k : ℕ) → k < length (image_addresses bytes)
    → first_below k (λ index. image_fault bytes index (get_or (image_addresses bytes) index 0)) ≡ None
    → (fault : SplitFault) → image_fault bytes k (get_or (image_addresses bytes) k 0) ≡ Some fault → images_fault bytes ≡ Some fault
unfolding images_fault
first-image bytes k below none fault here =
    let given = λ (index : ℕ). image_fault bytes index (get_or (image_addresses bytes) index 0) in
    first_below-first (length (image_addresses bytes)) k given fault below (λ j less. first_below-clear k j given none less) here

told-too : (one other : Option SplitFault) (told : SplitFault) → ((fault : SplitFault) → one ≡ Some fault → other ≡ Some fault) → Tells one told → Tells other told
told-too one other (Short length) same tells = same (Short length) tells
told-too one other (Header index offset) same tells = same (Header index offset) tells
told-too one other (Address index address) same tells = same (Address index address) tells
told-too one other (PowerOn address) same tells = same (PowerOn address) tells
told-too one other (Image index fault) same tells = same (Image index fault) tells
told-too one other (Memory e) same tells = tt

-- the first image with a fault tells it
pub tells-image : (bytes : List ℕ) (k address : ℕ) (told : SplitFault) → k < length (image_addresses bytes) → address ≡ get_or (image_addresses bytes) k 0
    → first_below k (λ index. image_fault bytes index (get_or (image_addresses bytes) index 0)) ≡ None
    → Tells (image_fault bytes k address) told → Tells (images_fault bytes) told
tells-image bytes k address told below is none tells =
    told-too (image_fault bytes k address) (images_fault bytes) told
    (λ fault here. first-image bytes k below none fault (ap (image_fault bytes k) (sym is) ∙ here)) tells

-- images stand within the file
pub address-within : (bytes : List ℕ) (k : ℕ) → headers_fault bytes ≡ None → k < length (image_addresses bytes) → get_or (image_addresses bytes) k 0 < length bytes
address-within bytes k none below =
    let inside = λ (entry : ℕ) (few : entry < 4).
    ltb-true (entry_address bytes entry) (length bytes) (second_true (nat_le 160 (entry_address bytes entry)) (nat_lt (entry_address bytes entry) (length bytes)) ((headers-clear bytes none).within entry few)) in
    All-addresses bytes (λ address. address < length bytes) inside k 0 below

-- no image has a fault so far, and the next one has none
pub clear-more : (bytes : List ℕ) (k address : ℕ) → address ≡ get_or (image_addresses bytes) k 0 → image_fault bytes k address ≡ None
    → first_below k (λ index. image_fault bytes index (get_or (image_addresses bytes) index 0)) ≡ None
    → first_below (k + 1) (λ index. image_fault bytes index (get_or (image_addresses bytes) index 0)) ≡ None
clear-more bytes k address is here none =
    let given = λ (index : ℕ). image_fault bytes index (get_or (image_addresses bytes) index 0) in
    first_below-more k given ∙ rw none (ap (image_fault bytes k) (sym is) ∙ here)

-- and its image follows those before
pub images-more : (bytes addresses : List ℕ) (k address : ℕ) (old new : List BootImage) (placed : BootImage) → k < length addresses → address ≡ get_or addresses k 0
    → new ≡ old ++ placed ∷ [] → image_in bytes address ≡ Some (placed_of placed) → map placed_of old ≡ filter_map (image_in bytes) (take k addresses)
    → map placed_of new ≡ filter_map (image_in bytes) (take (k + 1) addresses)
images-more bytes addresses k address old new placed below is pushed found so_far =
    ap (map placed_of) pushed ∙ map-append placed_of old (placed ∷ [])
    ∙ ap₂ (λ (before : List PlacedImage) (one : Option PlacedImage). before ++ cons_option one []) so_far (sym found ∙ ap (image_in bytes) is)
    ∙ sym (filter_map-append (image_in bytes) (take k addresses) (get_or addresses k 0 ∷ []))
    ∙ ap (filter_map (image_in bytes)) (sym (take_more addresses k 0 below))
