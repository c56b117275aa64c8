-- Bytes mean one boot file, which the small program gives, or have a fault.
use Rattle.std.proofs.Common.{◌≡◌, ℕ, suc, ◌+◌, ◌<◌, Bool, true, ◌==◌, List, [], ◌∷◌, length, get_or, refl, sym, ap, ap₂, ◌∙◌, subst, inl, inr, arith}
use Rattle.std.specs.Prelude.{map, filter_map, position, unwrap_or, Option, Some, None, Ok, Err, All}
use Rattle.std.specs.List.{cons_option, list_any, position_or_len}
use Rattle.std.proofs.lemmas.Bool.{cases_Bool, eq-eqb, lt-ltb}
use Rattle.std.proofs.lemmas.Grind.{get_or_default_zero}
use Rattle.std.proofs.lemmas.List.Elements.{All-cons, All-nil}
use Rattle.std.proofs.lemmas.List.FromFn.{get_or-range_with_len}
use Rattle.std.proofs.lemmas.List.Folds.{list_any-from_Any}
use Rattle.std.proofs.lemmas.List.Quantifiers.{position-Some}
use Rattle.index_search.proofs.Places.{any_below-at}
use Rattle.ice_image.specs.Configuration.{Configuration}
use Rattle.layout_file.specs.Layouts.{standard_layouts}
use Rattle.layout_file.proofs.ByDevice.{standard-are}
use Rattle.bin_stream.specs.Spelling.{Spells, bin_read_of}
use Rattle.bin_stream.proofs.Decided.{decided as bin_decided}
use Rattle.boot_file.specs.declared.split_fault.SplitFault.{SplitFault}
use Rattle.boot_file.specs.Headers.{address_of, entry_address, is_cold}
use Rattle.boot_file.specs.Parts.{image_addresses, image_index, is_named, part_of}
use Rattle.boot_file.specs.Meaning.{Boot, Means, PlacedImage, entries_in}
use Rattle.boot_file.specs.Faults.{headers_fault, images_fault, split_fault}
use Rattle.boot_file.specs.Reading.{IsDecided, boot_in, boot_read_of, image_in, index_at, read_where}
use Rattle.boot_file.proofs.Named.{among}
use Rattle.boot_file.proofs.Clear.{IsImage, split-clear, split-none}

-- ---- bitstreams

read-from_spelled : (bytes : List ℕ) (image : Configuration) → Spells standard_layouts bytes image → bin_read_of standard_layouts bytes ≡ Ok image
read-from_spelled bytes image spells = ((bin_decided standard_layouts standard-are bytes).spelled image).0 spells

spelled-from_read : (bytes : List ℕ) (image : Configuration) → bin_read_of standard_layouts bytes ≡ Ok image → Spells standard_layouts bytes image
spelled-from_read bytes image read = ((bin_decided standard_layouts standard-are bytes).spelled image).1 read

-- ---- places in a list

found-within : (test : ℕ → Bool) (xs : List ℕ) → list_any test xs ≡ true → position_or_len test xs < length xs
found-within test [] some = absurd cc
found-within test (x ∷ xs) some = elim (cases_Bool (test x)) [
  | inl here ↦ rw here (omega arith)
  | inr away ↦ let later : list_any test xs ≡ true = rw away at some in rw away (omega (arith, found-within test xs later))
]

-- the first item that passes, if some item does
position-known : (test : ℕ → Bool) (xs : List ℕ) → list_any test xs ≡ true → position test xs ≡ Some (unwrap_or (position test xs) 0)
position-known test xs some = rw (lt-ltb (position_or_len test xs) (length xs) (found-within test xs some)) refl

-- an item that is found is there
any-from_position : (test : ℕ → Bool) (xs : List ℕ) (k : ℕ) → position test xs ≡ Some k → list_any test xs ≡ true
any-from_position test xs k is =
    let found = position-Some test xs k 0 is in
    list_any-from_Any test xs (k, get_or xs k 0, found.0, get_or_default_zero xs k (get_or xs k 0) found.0, found.1)

-- ---- entries

module _ (bytes : List ℕ) where
  index-known : (address : ℕ) → is_named bytes address ≡ true → image_index bytes address ≡ Some (index_at bytes address)
  index-known address named = position-known (λ named. named == address) (image_addresses bytes) (among bytes address ∙ named)

  entry-named : (entry : ℕ) → entry < 4 → is_named bytes (entry_address bytes entry) ≡ true
  entry-named entry below = any_below-at 4 entry (λ k. entry_address bytes k == entry_address bytes entry) below (eq-eqb (entry_address bytes entry) (entry_address bytes entry) refl)

  entry-known : (entry : ℕ) → entry < 4 → image_index bytes (entry_address bytes entry) ≡ Some (index_at bytes (entry_address bytes entry))
  entry-known entry below = index-known (entry_address bytes entry) (entry-named entry below)

map-known : (given : ℕ → Option ℕ) (xs : List ℕ) → All (λ x. given x ≡ Some (unwrap_or (given x) 0)) xs → map given xs ≡ map Some (map (λ x. unwrap_or (given x) 0) xs)
map-known given [] all = refl
map-known given (x ∷ xs) all = ap₂ (λ (y : Option ℕ) (ys : List (Option ℕ)). y ∷ ys) (all 0 x (omega arith)) (map-known given xs (λ k d below. all (suc k) d (omega arith)))

map-unwrapped : (xs : List ℕ) → map (λ value. unwrap_or value 0) (map Some xs) ≡ xs
map-unwrapped [] = refl
map-unwrapped (x ∷ xs) = ap (λ ys. x ∷ ys) (map-unwrapped xs)

all-entries : (P : ℕ → Type 0) → ((entry : ℕ) → entry < 4 → P entry) → All P entries_in
all-entries P each k d below = subst P (sym (get_or-range_with_len 0 4 k d below)) (each (0 + k) (omega arith))

-- ---- images

module _ (bytes : List ℕ) where
  image_in-is : (address : ℕ) (image : Configuration) → bin_read_of standard_layouts (part_of bytes address) ≡ Ok image
      → image_in bytes address ≡ Some (record { address = address; image = image })
  image_in-is address image read = rw read refl

  -- images that their parts spell are found there
  images-found : (images : List PlacedImage) → All (λ placed. Spells standard_layouts (part_of bytes placed.address) placed.image) images
      → filter_map (image_in bytes) (map (λ placed. placed.address) images) ≡ images
  images-found [] all = refl
  images-found (placed ∷ images) all =
      ap₂ cons_option (image_in-is placed.address placed.image (read-from_spelled (part_of bytes placed.address) placed.image (all 0 placed (omega arith))))
      (images-found images (λ k d below. all (suc k) d (omega arith)))

  -- and those that are found have these addresses
  found-addresses : (addresses : List ℕ) → All (IsImage bytes) addresses → map (λ placed. placed.address) (filter_map (image_in bytes) addresses) ≡ addresses
  found-addresses [] all = refl
  found-addresses (address ∷ addresses) all =
      let one = all 0 address (omega arith) in
      rw (image_in-is address one.0 one.1) (ap (λ more. address ∷ more) (found-addresses addresses (λ k d below. all (suc k) d (omega arith))))

  -- and are spelled there
  found-spelled : (addresses : List ℕ) → All (IsImage bytes) addresses
      → All (λ placed. Spells standard_layouts (part_of bytes placed.address) placed.image) (filter_map (image_in bytes) addresses)
  found-spelled [] all = All-nil (λ placed. Spells standard_layouts (part_of bytes placed.address) placed.image)
  found-spelled (address ∷ addresses) all =
      let one = all 0 address (omega arith) in
      rw (image_in-is address one.0 one.1)
      (All-cons (λ placed. Spells standard_layouts (part_of bytes placed.address) placed.image) (record { address = address; image = one.0 }) (filter_map (image_in bytes) addresses)
      (spelled-from_read (part_of bytes address) one.0 one.1) (found-spelled addresses (λ k d below. all (suc k) d (omega arith))))

  -- the addresses of images that are spelled spell images
  spelled-images : (images : List PlacedImage) → All (λ placed. Spells standard_layouts (part_of bytes placed.address) placed.image) images
      → All (IsImage bytes) (map (λ placed. placed.address) images)
  spelled-images [] all = All-nil (IsImage bytes)
  spelled-images (placed ∷ images) all =
      All-cons (IsImage bytes) placed.address (map (λ placed. placed.address) images)
      (placed.image, read-from_spelled (part_of bytes placed.address) placed.image (all 0 placed (omega arith)))
      (spelled-images images (λ k d below. all (suc k) d (omega arith)))

-- ---- a meaning, or a fault

boot-same : (c1 c2 : Bool) (p1 p2 : ℕ) (e1 e2 : List ℕ) (i1 i2 : List PlacedImage) → c1 ≡ c2 → p1 ≡ p2 → e1 ≡ e2 → i1 ≡ i2
    → (let one : Boot = record { cold = c1; power = p1; entries = e1; images = i1 } in one) ≡ (let other : Boot = record { cold = c2; power = p2; entries = e2; images = i2 } in other)
boot-same c1 c2 p1 p2 e1 e2 i1 i2 c p e i = λ at. record { cold = c at; power = p at; entries = e at; images = i at }

module _ (bytes : List ℕ) (boot : Boot) (means : Means bytes boot) where
  -- what means something has no fault
  means-none : split_fault bytes ≡ None
  means-none = split-none bytes
      (record {
        long = means.headers;
        formed = means.formed;
        within = means.within;
        named = sym (among bytes (address_of bytes 0)) ∙ any-from_position (λ named. named == address_of bytes 0) (image_addresses bytes) boot.power means.power_is;
      })
      (subst (All (IsImage bytes)) means.addresses_are (spelled-images bytes boot.images means.spelled))

  -- and means what the program gives
  means-read : boot_in bytes ≡ boot
  unfolding boot_in
  means-read =
      let power : index_at bytes (address_of bytes 0) ≡ boot.power = ap (λ (index : Option ℕ). unwrap_or index 0) means.power_is in
      let entries : map (λ entry. index_at bytes (entry_address bytes entry)) entries_in ≡ boot.entries = ap (map (λ value. unwrap_or value 0)) means.entries_are ∙ map-unwrapped boot.entries in
      let images : filter_map (image_in bytes) (image_addresses bytes) ≡ boot.images = ap (filter_map (image_in bytes)) (sym means.addresses_are) ∙ images-found bytes boot.images means.spelled in
      boot-same (is_cold bytes) boot.cold _ _ _ _ _ _ (sym means.cold_is) power entries images

-- without a fault there is a meaning
pub none-means : (bytes : List ℕ) → split_fault bytes ≡ None → Means bytes (boot_in bytes)
unfolding boot_in
none-means bytes none =
    let clear = split-clear bytes none in
    record {
      headers = clear.0.long;
      formed = clear.0.formed;
      within = clear.0.within;
      cold_is = refl;
      power_is = index-known bytes (address_of bytes 0) clear.0.named;
      entries_are = map-known (λ entry. image_index bytes (entry_address bytes entry)) entries_in (all-entries _ (entry-known bytes));
      addresses_are = found-addresses bytes (image_addresses bytes) clear.1;
      spelled = found-spelled bytes (image_addresses bytes) clear.1;
    }

-- what is read if there is a fault, or none
read-clear : (fault : Option SplitFault) (read boot : Boot) → read_where fault read ≡ Ok boot → (fault ≡ None) × (read ≡ boot)
read-clear None read boot is = (refl, cc)
read-clear (Some fault) read boot is = absurd cc

read-refused : (fault : Option SplitFault) (read : Boot) (told : SplitFault) → read_where fault read ≡ Err told → fault ≡ Some told
read-refused None read told is = absurd cc
read-refused (Some fault) read told is = let same : fault ≡ told = cc in ap Some same

pub decided : (bytes : List ℕ) → IsDecided bytes
unfolding boot_read_of
decided bytes = record {
  means = λ boot. (
    λ means. ap (λ fault. read_where fault (boot_in bytes)) (means-none bytes boot means) ∙ ap Ok (means-read bytes boot means),
    λ read. let clear = read-clear (split_fault bytes) (boot_in bytes) boot read in subst (Means bytes) clear.1 (none-means bytes clear.0),
  );
  refused = λ fault. (λ is. ap (λ found. read_where found (boot_in bytes)) is, read-refused (split_fault bytes) (boot_in bytes) fault);
}

-- what is read if no fault was found
pub read-is : (bytes : List ℕ) (boot : Boot) → headers_fault bytes ≡ None → images_fault bytes ≡ None
    → boot.cold ≡ is_cold bytes → boot.power ≡ index_at bytes (address_of bytes 0)
    → boot.entries ≡ map (λ entry. index_at bytes (entry_address bytes entry)) entries_in
    → boot.images ≡ filter_map (image_in bytes) (image_addresses bytes) → boot_read_of bytes ≡ Ok boot
unfolding boot_read_of boot_in
read-is bytes boot headers images cold power entries placed =
    let none : split_fault bytes ≡ None = rw headers images in
    let same : boot_in bytes ≡ boot = boot-same _ boot.cold _ boot.power _ boot.entries _ boot.images (sym cold) (sym power) (sym entries) (sym placed) in
    ap (λ fault. read_where fault (boot_in bytes)) none ∙ ap Ok same
