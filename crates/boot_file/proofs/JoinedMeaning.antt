-- A joined file means its images.
use Rattle.std.proofs.Common.{◌≡◌, ℕ, zero, suc, ◌+◌, ◌-◌, ◌<◌, ◌≤◌, Bool, true, false, ◌==◌, List, [], ◌∷◌, ◌++◌, length, get_or, take, drop, refl, sym, ap, ap₂, ◌∙◌, subst, inl, inr, arith, append_assoc, length-append}
use Rattle.std.specs.Prelude.{nat_lt, map, position, if◌then◌else◌, Some, All}
use Rattle.std.specs.List.{AllZip, enumerate_from, position_or_len, range_with_len}
use Rattle.std.proofs.Math.Seq.{take-append-add}
use Rattle.std.proofs.lemmas.Bool.{cases_lt, le-leb, lt-ltb, ne_eqb, eq-eqb}
use Rattle.std.proofs.lemmas.List.{get_or-map, length-map}
use Rattle.std.proofs.lemmas.List.FromFn.{get_or-enumerate_from, get_or-map-range_with_len, length-enumerate_from, length-map-range_with_len}
use Rattle.std.proofs.lemmas.List.Sums.{position_or_len_is}
use Rattle.std.proofs.lemmas.Slice.Zip.{AllZip-long}
use Rattle.index_search.specs.Places.{any_below, gathered_below}
use Rattle.index_search.proofs.Places.{any_below-same, gathered_below-same}
use Rattle.index_search.proofs.Gathered.{map-gathered_below}
use Rattle.ice_image.specs.Configuration.{Configuration}
use Rattle.layout_file.specs.declared.layouts.Layouts.{Layouts}
use Rattle.layout_file.specs.Layouts.{standard_layouts}
use Rattle.boot_file.specs.declared.options.Options.{Options}
use Rattle.boot_file.specs.BootFile.{boot_file, end_of, image_at, place_of}
use Rattle.boot_file.proofs.Bytes.{image_booted-within}
use Rattle.boot_file.proofs.Order.{place-later, place-start}
use Rattle.bin_stream.specs.Front.{preamble}
use Rattle.bin_stream.specs.Commands.{spelled as spelled_commands}
use Rattle.bin_stream.specs.Spelling.{Spells}
use Rattle.bin_stream.proofs.FrontGrown.{preamble_offset-grown}
use Rattle.boot_file.specs.Headers.{entry_address, is_within}
use Rattle.boot_file.specs.Parts.{first_named, image_addresses, image_index, is_named_before, part_end, part_of}
use Rattle.boot_file.specs.Meaning.{Means, PlacedImage}
use Rattle.boot_file.specs.Joined.{AreInOrder, JoinedMeans, entry_booted, first_booted, is_booted_before, joined_boot, own_entries, placed}
use Rattle.boot_file.proofs.Ends.{part_end-beyond}
use Rattle.boot_file.proofs.JoinedBytes.{MayJoin, may_join, end-within, file-address, file-cold, file-formed, file-long, image-drop, place-after}

-- ---- bitstreams

-- bytes that spell an image spell it with anything after them
spells-grown : (layouts : Layouts) (bytes more : List ℕ) (image : Configuration) → Spells layouts bytes image → Spells layouts (bytes ++ more) image
spells-grown layouts bytes more image spells = record {
  front = spells.front;
  commands = spells.commands;
  wake_up = spells.wake_up;
  tail = spells.tail ++ more;
  spelled_is = ap (λ b. b ++ more) spells.spelled_is ∙ append_assoc _ spells.tail more;
  front_is = preamble_offset-grown bytes more (length spells.front) spells.front_is;
  allowed = spells.allowed;
  before = spells.before;
  last = spells.last;
  device = spells.device;
  layout = spells.layout;
  means = spells.means;
}

-- and aren't empty
spells-some : (layouts : Layouts) (bytes : List ℕ) (image : Configuration) → Spells layouts bytes image → 0 < length bytes
spells-some layouts bytes image spells =
    let all = spells.commands ++ spells.wake_up ∷ [] in
    omega (
      arith,
      ap length spells.spelled_is,
      length-append (spells.front ++ preamble ++ spelled_commands all) spells.tail,
      length-append (spells.front ++ preamble) (spelled_commands all),
      length-append spells.front preamble,
    )

-- ---- lists

zipped-at : {A B : Type 0} (R : A → B → Type 0) (xs : List A) (ys : List B) (k : ℕ) (d : A) (e : B) → AllZip R xs ys → k < length xs → R (get_or xs k d) (get_or ys k e)
zipped-at R [] ys k d e all below = absurd (omega arith)
zipped-at R (x ∷ xs) [] k d e all below = absurd all
zipped-at R (x ∷ xs) (y ∷ ys) zero d e all below = all.0
zipped-at R (x ∷ xs) (y ∷ ys) (suc k) d e all below = zipped-at R xs ys k d e all.1 (omega arith)

-- the places of items that are counted
enumerated : {A : Type 0} (f : ℕ → ℕ) (from : ℕ) (xs : List A) → map (λ one. f one.0) (enumerate_from from xs) ≡ map f (range_with_len from (length xs))
enumerated f from [] = refl
enumerated f from (x ∷ xs) = ap (λ more. f from ∷ more) (enumerated f (from + 1) xs)

-- the place of a number among those that a function gives, if no earlier one is equal
position-given : (f : ℕ → ℕ) (n k : ℕ) → k < n → ((j : ℕ) → j < k → f j < f k) → position (λ y. y == f k) (map f (range_with_len 0 n)) ≡ Some k
position-given f n k below rises =
    let xs = map f (range_with_len 0 n) in
    let test = λ (y : ℕ). y == f k in
    let size : length xs ≡ n = length-map-range_with_len f 0 n in
    let at : position_or_len test xs ≡ k =
    position_or_len_is test xs k 0 (omega (arith, size))
    (λ j less. ap test (get_or-map-range_with_len f 0 n j j 0 (omega arith) (omega arith)) ∙ ne_eqb (f j) (f k) (λ same. absurd (omega (arith, same, rises j less))))
    (λ inside. ap test (get_or-map-range_with_len f 0 n k k 0 below (omega arith)) ∙ eq-eqb (f k) (f k) refl) in
    let inside : nat_lt k (length xs) ≡ true = lt-ltb k (length xs) (omega (arith, size)) in
    rw (at, inside) refl

-- ---- the images of a joined file

module _ (images : List (List ℕ)) (options : Options) (spelled : List Configuration)
    (each : AllZip (Spells standard_layouts) images spelled) (may : MayJoin images options) (in_order : AreInOrder (length images) options) where
  abbrev count : ℕ
  count = length images

  abbrev file : List ℕ
  file = boot_file images options

  abbrev place : ℕ → ℕ
  place = place_of images options

  same-count : length spelled ≡ count
  same-count = AllZip-long (Spells standard_layouts) images spelled each

  -- the image that an entry boots
  abbrev booted : ℕ → ℕ
  booted entry = entry_booted count options entry

  booted-within : (entry : ℕ) → booted entry < count
  booted-within entry = image_booted-within count options (entry + 1) may.boots

  entry-is : (entry : ℕ) → entry < 4 → entry_address file entry ≡ place (booted entry)
  entry-is entry below = file-address images options may (entry + 1) (omega arith) (booted-within entry)

  -- images aren't empty, so that their places rise
  image-some : (index : ℕ) → index < count → 0 < length (image_at images index)
  image-some index below = image-some-at spelled each index below
    where
      image-some-at : (configurations : List Configuration) → AllZip (Spells standard_layouts) images configurations → (index : ℕ) → index < count → 0 < length (image_at images index)
      image-some-at [] all index below = absurd (omega (arith, AllZip-long (Spells standard_layouts) images [] all))
      image-some-at (first ∷ more) all index below =
          spells-some standard_layouts (image_at images index) (get_or (first ∷ more) index first) (zipped-at (Spells standard_layouts) images (first ∷ more) index [] first all below)

  place-rises : (earlier later : ℕ) → earlier < later → later < count → end_of images options earlier ≤ place later
  place-rises earlier later less below = omega (arith, place-later images options earlier later less, place-start images options later)

  place-above : (earlier later : ℕ) → earlier < later → later < count → place earlier < place later
  place-above earlier later less below = omega (arith, place-rises earlier later less below, image-some earlier (omega arith))

  -- addresses are equal where images are
  same-image : (one other : ℕ) → one < count → other < count → (place one == place other) ≡ (one == other)
  same-image one other inside within = elim (cases_lt one other) [
    | inl less ↦
        rw (ne_eqb one other (λ same. absurd (omega (arith, same))))
        (ne_eqb (place one) (place other) (λ same. absurd (omega (arith, same, place-above one other less within))))
    | inr upto ↦ elim (cases_lt other one) [
      | inl less ↦
          rw (ne_eqb one other (λ same. absurd (omega (arith, same))))
          (ne_eqb (place one) (place other) (λ same. absurd (omega (arith, same, place-above other one less inside))))
      | inr more ↦
          let same : one ≡ other = omega arith in
          rw (eq-eqb one other same) (eq-eqb (place one) (place other) (ap place same))
    ]
  ]

  named-before : (entry : ℕ) → entry < 4 → is_named_before file entry ≡ is_booted_before count options entry
  named-before entry few =
      any_below-same entry (λ earlier. entry_address file earlier == entry_address file entry) (λ earlier. booted earlier == booted entry)
      (λ earlier less.
      ap₂ (λ (a : ℕ) (b : ℕ). a == b) (entry-is earlier (omega arith)) (entry-is entry few)
      ∙ same-image (booted earlier) (booted entry) (booted-within earlier) (booted-within entry))

  -- an entry is the first to name its address if it is the first to boot its image
  first-is : (entry : ℕ) → entry < 4 → first_named file entry ≡ map place (first_booted count options entry)
  first-is entry few =
      ap₂ (λ (before : Bool) (address : ℕ). if before then [] else address ∷ []) (named-before entry few) (entry-is entry few)
      ∙ mapped (is_booted_before count options entry) (booted entry)
    where
      mapped : (before : Bool) (image : ℕ) → (if before then [] else place image ∷ []) ≡ map place (if before then [] else image ∷ [])
      mapped true image = refl
      mapped false image = refl

  pub addresses-are : image_addresses file ≡ map place (range_with_len 0 count)
  unfolding image_addresses
  addresses-are =
      gathered_below-same 4 (first_named file) (λ entry. map place (first_booted count options entry)) first-is
      ∙ sym (map-gathered_below place 4 (first_booted count options))
      ∙ ap (map place) in_order

  index-is : (index : ℕ) → index < count → image_index file (place index) ≡ Some index
  index-is index below =
      ap (position (λ named. named == place index)) addresses-are ∙ position-given place count index below (λ earlier less. place-above earlier index less below)

  -- ---- parts

  part-is : (index : ℕ) → index < count → (more : List ℕ) × (part_of file (place index) ≡ image_at images index ++ more)
  part-is index below =
      let image = image_at images index in
      let size = length image in
      let end = part_end file (place index) in
      let beyond : end_of images options index ≤ end =
      part_end-beyond file (place index) (end_of images options index) (end-within images options may index below) (λ entry few above. entry-beyond entry few above) in
      let room : end - place index ≡ size + (end - place index - size) = omega (arith, beyond) in
      let rest = drop size (drop (place index) file) in (
        take (end - place index - size) rest,
        ap₂ (λ (n : ℕ) (bytes : List ℕ). take n bytes) room (image-drop images options may index below) ∙ take-append-add image rest (end - place index - size),
      )
    where
      entry-beyond : (entry : ℕ) → entry < 4 → place index < entry_address file entry → end_of images options index ≤ entry_address file entry
      entry-beyond entry few above = elim (cases_lt index (booted entry)) [
        | inl less ↦ omega (arith, entry-is entry few, place-rises index (booted entry) less (booted-within entry))
        | inr more ↦ absurd (omega (arith, above, entry-is entry few, not-above (booted entry) more))
      ]
        where
          not-above : (earlier : ℕ) → earlier ≤ index → place earlier ≤ place index
          not-above earlier upto = elim (cases_lt earlier index) [
            | inl less ↦ omega (arith, place-above earlier index less below)
            | inr more ↦ let same : earlier ≡ index = omega arith in omega (arith, ap place same)
          ]

  part-spells : (index : ℕ) (other : Configuration) → index < count → Spells standard_layouts (part_of file (place index)) (get_or spelled index other)
  part-spells index other below =
      let part = part-is index below in
      subst (λ bytes. Spells standard_layouts bytes (get_or spelled index other)) (sym part.1)
      (spells-grown standard_layouts (image_at images index) part.0 (get_or spelled index other) (zipped-at (Spells standard_layouts) images spelled index [] other each below))

  placed-at : (k : ℕ) (other : PlacedImage) → k < count → get_or (placed images options spelled) k other ≡ record { address = place k; image = get_or spelled k other.image }
  placed-at k other below =
      let inside : k < length (enumerate_from 0 spelled) = omega (arith, length-enumerate_from 0 spelled, same-count) in
      let first : 0 + k ≡ k = omega arith in
      get_or-map _ (enumerate_from 0 spelled) k (0, other.image) other inside
      ∙ ap (λ (one : ℕ × Configuration). let p : PlacedImage = record { address = place one.0; image = one.1 } in p) (get_or-enumerate_from 0 spelled k (0, other.image) (omega (arith, same-count)))
      ∙ ap (λ (j : ℕ). let p : PlacedImage = record { address = place j; image = get_or spelled k other.image } in p) first

  placed-spelled : All (λ one. Spells standard_layouts (part_of file one.address) one.image) (placed images options spelled)
  placed-spelled k other below =
      let inside : k < count = omega (arith, below, length-map (enumerate_from 0 spelled) (λ one. let p : PlacedImage = record { address = place one.0; image = one.1 } in p), length-enumerate_from 0 spelled, same-count) in
      subst (λ (one : PlacedImage). Spells standard_layouts (part_of file one.address) one.image) (sym (placed-at k other inside)) (part-spells k other.image inside)

  placed-addresses : map (λ one. one.address) (placed images options spelled) ≡ image_addresses file
  placed-addresses =
      addresses-of (enumerate_from 0 spelled) ∙ enumerated place 0 spelled ∙ ap (λ n. map place (range_with_len 0 n)) same-count ∙ sym addresses-are
    where
      addresses-of : (xs : List (ℕ × Configuration)) → map (λ one. one.address) (map (λ one. let p : PlacedImage = record { address = place one.0; image = one.1 } in p) xs) ≡ map (λ one. place one.0) xs
      addresses-of [] = refl
      addresses-of (x ∷ xs) = ap (λ more. place x.0 ∷ more) (addresses-of xs)

  entry-index : (entry : ℕ) → entry < 4 → image_index file (entry_address file entry) ≡ Some (booted entry)
  entry-index entry below = ap (image_index file) (entry-is entry below) ∙ index-is (booted entry) (booted-within entry)

  entry-within : (entry : ℕ) → entry < 4 → is_within file (entry_address file entry) ≡ true
  entry-within entry below =
      let index = booted entry in
      let inside = booted-within entry in
      ap (is_within file) (entry-is entry below)
      ∙ rw (
        le-leb 160 (place index) (place-after images options may index),
        lt-ltb (place index) (length file) (omega (arith, end-within images options may index inside, image-some index inside)),
      ) refl

  pub joined : Means file (joined_boot images options spelled)
  joined = record {
    headers = file-long images options may;
    formed = file-formed images options may;
    within = entry-within;
    cold_is = sym (file-cold images options may);
    power_is = ap (image_index file) (file-address images options may 0 (omega arith) may.boots) ∙ index-is options.power_on may.boots;
    entries_are = λ at. entry-index 0 (omega arith) at ∷ entry-index 1 (omega arith) at ∷ entry-index 2 (omega arith) at ∷ entry-index 3 (omega arith) at ∷ [];
    addresses_are = placed-addresses;
    spelled = placed-spelled;
  }

-- a joined file means its images
pub joined_means : (images : List (List ℕ)) (options : Options) (spelled : List Configuration) → JoinedMeans images options spelled
joined_means images options spelled each none in_order = joined images options spelled each (may_join images options none) in_order

-- images are in order if each has its own header, in their order
in_own_order : (count : ℕ) (options : Options) → 0 < count → count ≤ 4 → AreInOrder count (record options { entries = own_entries })
unfolding gathered_below any_below
in_own_order zero options some few = absurd (omega arith)
in_own_order (suc zero) options some few = refl
in_own_order (suc (suc zero)) options some few = refl
in_own_order (suc (suc (suc zero))) options some few = refl
in_own_order (suc (suc (suc (suc zero)))) options some few = refl
in_own_order (suc (suc (suc (suc (suc n))))) options some few = absurd (omega arith)

pub own_in_order : (count : ℕ) (options : Options) → 0 < count → count ≤ 4 → options.entries ≡ own_entries → AreInOrder count options
own_in_order count options some few own = subst (λ entries. AreInOrder count (record options { entries = entries })) (sym own) (in_own_order count options some few)
