-- What a joined file has at its headers and images.
use Rattle.std.proofs.Common.{◌≡◌, ℕ, zero, suc, ◌+◌, ◌-◌, ◌*◌, ◌/◌, ◌%◌, ◌^◌, ◌<◌, ◌≤◌, Bool, true, false, ◌&&◌, ◌||◌, ◌==◌, List, ◌++◌, length, get_or, take, drop, refl, sym, ap, ◌∙◌, subst, inl, inr, arith, length-drop, take-append-drop}
use Rattle.std.specs.Prelude.{nat_le, find, map, if◌then◌else◌, Option, Some, None, option_map}
use Rattle.std.specs.List.{list_all, range_with_len}
use Rattle.std.specs.Option.{option_or}
use Rattle.std.proofs.lemmas.Bool.{cases_lt, cases_Bool, lt-ltb, le-leb, ne_eqb}
use Rattle.std.proofs.lemmas.List.{get_or-take, get_or-drop, get_or-append_right, length-take-le}
use Rattle.std.proofs.lemmas.List.FromFn.{fill_by_all, get_or-map-range_with_len, length-map-range_with_len}
use Rattle.shared_lemmas.proofs.Tests.{first_true, second_true}
use Rattle.boot_file.specs.declared.options.Options.{Options}
use Rattle.boot_file.specs.declared.multi_fault.MultiFault.TheVariants.{Address, TooMany}
use Rattle.boot_file.specs.BootFile.{HasBytes, boot_byte, boot_file, boot_length, end_of, header, header_at, header_byte, image_at, image_booted, place_of}
use Rattle.boot_file.specs.Refusals.{address_fault, check_fault, join_fault}
use Rattle.boot_file.proofs.Bytes.{HasBytes-headers, HasBytes-image}
use Rattle.boot_file.proofs.Order.{place-later, place-start, start-first}
use Rattle.boot_file.proofs.Placing.{checked}
use Rattle.boot_file.specs.Headers.{address_of, byte_at, is_address_place, is_cold, is_cold_mode, is_formed, is_header_byte}

-- ---- what the options of a joined file leave

or-first : {A : Type 0} (one other : Option A) → option_or one other ≡ None → one ≡ None
or-first (Some value) other none = none
or-first None other none = refl

or-other : {A : Type 0} (one other : Option A) → option_or one other ≡ None → other ≡ None
or-other (Some value) other none = absurd cc
or-other None other none = none

none-mapped : (value : Option ℕ) → option_map Address value ≡ None → value ≡ None
none-mapped None none = refl
none-mapped (Some value) none = absurd cc

-- if no number is found none passes
none-found : (test : ℕ → Bool) (from count k : ℕ) → find test (range_with_len from count) ≡ None → k < count → test (from + k) ≡ false
none-found test from zero k none below = absurd (omega arith)
none-found test from (suc count) zero none below = elim (cases_Bool (test from)) [
  | inl here ↦ let wrong : Some from ≡ None = rw here at none in absurd cc
  | inr away ↦ let same : from + 0 ≡ from = omega arith in ap test same ∙ away
]
none-found test from (suc count) (suc k) none below = elim (cases_Bool (test from)) [
  | inl here ↦ let wrong : Some from ≡ None = rw here at none in absurd cc
  | inr away ↦
      let later : find test (range_with_len (from + 1) count) ≡ None = rw away at none in
      let same : from + suc k ≡ from + 1 + k = omega arith in
      ap test same ∙ none-found test (from + 1) count k later (omega arith)
]

few-images : (count : ℕ) (options : Options) → check_fault count options ≡ None → 0 < count → count < 5
unfolding check_fault
few-images count options none some = elim (cases_lt 4 count) [
  | inl many ↦
      let wrong : Some (TooMany count) ≡ None = rw (ne_eqb count 0 (λ zero. absurd (omega (arith, zero))), lt-ltb 4 count many) at none in
      absurd cc
  | inr few ↦ omega arith
]

-- images that may be joined
pub record MayJoin (images : List (List ℕ)) (options : Options) : Type 0 where
  pub some : 0 < length images
  pub few : length images < 5
  pub boots : options.power_on < length images
  pub reached : (index : ℕ) → index < length images → place_of images options index < 2 ^ 24

pub may_join : (images : List (List ℕ)) (options : Options) → join_fault images options ≡ None → MayJoin images options
may_join images options none =
    let count = length images in
    let numbers = or-first (check_fault count options) (address_fault images options) none in
    let checked = checked count options numbers in
    let far = λ (index : ℕ). nat_le (2 ^ 24) (place_of images options index) in
    record {
      some = checked.some;
      few = few-images count options numbers checked.some;
      boots = checked.boots;
      reached = λ index below. elim (cases_lt (place_of images options index) (2 ^ 24)) [
        | inl near ↦ near
        | inr over ↦
            let fails : nat_le (2 ^ 24) (place_of images options (0 + index)) ≡ false = none-found far 0 count index (none-mapped (find far (range_with_len 0 count)) (or-other (check_fault count options) (address_fault images options) none)) below in
            let same : 0 + index ≡ index = omega arith in
            absurd (leb-contradiction (2 ^ 24) (place_of images options index) over (ap (λ k. nat_le (2 ^ 24) (place_of images options k)) (sym same) ∙ fails))
      ];
    }
  where
    leb-contradiction : (a b : ℕ) → a ≤ b → nat_le a b ≡ false → ⊥
    leb-contradiction a b le fails = let holds : nat_le a b ≡ true = le-leb a b le in absurd cc

-- ---- headers of the form

-- each byte of header 0
first-formed : (cold : Bool) (address : ℕ) → list_all (λ place. is_header_byte place (get_or (header cold address) place 0)) (range_with_len 0 32) ≡ true
first-formed true address = refl
first-formed false address = refl

-- whether a byte is that of a header without the mode of cold boot
abbrev is_plain_byte : ℕ → ℕ → Bool
is_plain_byte place byte = is_address_place place || (byte == get_or (header false 0) place 0)

plain-formed : (address : ℕ) → list_all (λ place. is_plain_byte place (get_or (header false address) place 0)) (range_with_len 0 32) ≡ true
plain-formed address = refl

all-below : (test : ℕ → Bool) (from count k : ℕ) → list_all test (range_with_len from count) ≡ true → k < count → test (from + k) ≡ true
all-below test from zero k all below = absurd (omega arith)
all-below test from (suc count) zero all below =
    let same : from + 0 ≡ from = omega arith in ap test same ∙ first_true (test from) (list_all test (range_with_len (from + 1) count)) all
all-below test from (suc count) (suc k) all below =
    let same : from + suc k ≡ from + 1 + k = omega arith in
    ap test same ∙ all-below test (from + 1) count k (second_true (test from) (list_all test (range_with_len (from + 1) count)) all) (omega arith)

-- the same of the numbers from 0 on
all-first : (test : ℕ → Bool) (count k : ℕ) → list_all test (range_with_len 0 count) ≡ true → k < count → test k ≡ true
all-first test count k all below = let same : k ≡ 0 + k = omega arith in ap test same ∙ all-below test 0 count k all below

or-between : (one between other : Bool) → (one || other) ≡ true → (one || (between || other)) ≡ true
or-between true between other holds = refl
or-between false true other holds = refl
or-between false false other holds = holds

plain-at : (place address : ℕ) → place < 32 → is_plain_byte place (get_or (header false address) place 0) ≡ true
plain-at place address below = all-first (λ place. is_plain_byte place (get_or (header false address) place 0)) 32 place (plain-formed address) below

-- the byte at an offset of the headers, in a header with the mode of cold boot only if it is header 0
header-formed : (offset index address : ℕ) (cold : Bool) → offset / 32 ≡ index → is_header_byte offset (get_or (header (cold && (index == 0)) address) (offset % 32) 0) ≡ true
header-formed offset zero address true in_first =
    let whole : offset % 32 ≡ offset = omega (arith, in_first) in
    subst (λ place. is_header_byte offset (get_or (header true address) place 0) ≡ true) (sym whole)
    (all-first (λ place. is_header_byte place (get_or (header true address) place 0)) 32 offset (first-formed true address) (omega (arith, in_first)))
header-formed offset zero address false in_first = or-between (is_address_place (offset % 32)) (is_cold_mode offset _) _ (plain-at (offset % 32) address (omega arith))
header-formed offset (suc index) address true in_later =
    let other : (suc index == 0) ≡ false = ne_eqb (suc index) 0 (λ zero. absurd (omega (arith, zero))) in
    rw other (or-between (is_address_place (offset % 32)) (is_cold_mode offset (get_or (header false address) (offset % 32) 0)) _ (plain-at (offset % 32) address (omega arith)))
header-formed offset (suc index) address false in_later =
    or-between (is_address_place (offset % 32)) (is_cold_mode offset _) _ (plain-at (offset % 32) address (omega arith))

-- the three bytes of an address are that address
address-back : (address : ℕ) → address < 2 ^ 24 → 65536 * (address / 65536 % 256) + 256 * (address / 256 % 256) + address % 256 ≡ address
address-back address small = omega arith

cold-mode : (cold : Bool) → ((if (cold && true) then 0x10 else 0x00) == 0x10) ≡ cold
cold-mode true = refl
cold-mode false = refl

-- ---- the file

-- bytes that a function gives
given-bytes : (byte : ℕ → ℕ) (size : ℕ) → HasBytes byte size (map byte (range_with_len 0 size))
given-bytes byte size = record {
  size_is = length-map-range_with_len byte 0 size;
  bytes_are = λ offset within. get_or-map-range_with_len byte 0 size offset offset 0 within (omega arith);
}

module _ (images : List (List ℕ)) (options : Options) (may : MayJoin images options) where
  abbrev count : ℕ
  count = length images

  abbrev file : List ℕ
  file = boot_file images options

  abbrev place : ℕ → ℕ
  place = place_of images options

  pub file-length : length file ≡ boot_length images options
  unfolding boot_file
  file-length = length-map-range_with_len (boot_byte images options) 0 (boot_length images options)

  file-byte : (offset : ℕ) → offset < boot_length images options → byte_at file offset ≡ boot_byte images options offset
  unfolding boot_file
  file-byte offset within = get_or-map-range_with_len (boot_byte images options) 0 (boot_length images options) offset offset 0 within (omega arith)

  -- images end within the file
  pub end-within : (index : ℕ) → index < count → end_of images options index ≤ length file
  end-within index below = elim (cases_lt index (count - 1)) [
    | inl less ↦ omega (arith, file-length, place-later images options index (count - 1) less, place-start images options (count - 1))
    | inr more ↦
        let last : index ≡ count - 1 = omega arith in
        omega (arith, file-length, ap (end_of images options) last)
  ]

  pub place-after : (index : ℕ) → 160 ≤ place index
  place-after index = omega (arith, start-first images options index, place-start images options index)

  pub file-long : 160 ≤ length file
  file-long = omega (arith, end-within 0 may.some, place-after 0)

  file-header : (offset : ℕ) → offset < 160 → byte_at file offset ≡ header_byte count place options offset
  file-header offset below =
      let byte = header_byte count place options in
      let all = HasBytes-headers images options count place (map byte (range_with_len 0 160)) refl (λ index inside. refl) may.boots (given-bytes byte 160) in
      file-byte offset (omega (arith, file-long, file-length)) ∙ sym (all.bytes_are offset below) ∙ (given-bytes byte 160).bytes_are offset below

  -- all headers are of the form
  pub file-formed : (offset : ℕ) → offset < 160 → is_formed file offset ≡ true
  file-formed offset below =
      ap (is_header_byte offset) (file-header offset below)
      ∙ header-formed offset (offset / 32) (place (image_booted count options (offset / 32))) options.cold refl

  pub file-cold : is_cold file ≡ options.cold
  file-cold = ap (λ byte. byte == 0x10) (file-header 6 (omega arith)) ∙ cold-mode options.cold

  -- a byte of a header by its place
  file-header-at : (index at : ℕ) → index < 5 → at < 32 → byte_at file (32 * index + at) ≡ get_or (header_at count place options index) at 0
  file-header-at index at few below =
      let row : (32 * index + at) / 32 ≡ index = omega arith in
      let column : (32 * index + at) % 32 ≡ at = omega arith in
      file-header (32 * index + at) (omega arith) ∙ rw (row, column) refl

  -- a header has the address of the image that it boots
  pub file-address : (index : ℕ) → index < 5 → image_booted count options index < count → address_of file index ≡ place (image_booted count options index)
  file-address index few inside =
      rw (file-header-at index 9 few (omega arith), file-header-at index 10 few (omega arith), file-header-at index 11 few (omega arith))
      (address-back (place (image_booted count options index)) (may.reached (image_booted count options index) inside))

  image-byte : (index k : ℕ) → index < count → k < length (image_at images index) → boot_byte images options (place index + k) ≡ get_or (image_at images index) k 0
  image-byte index k below inside =
      let before = given-bytes (boot_byte images options) (place index) in
      let whole = HasBytes-image images options index (place index) _ (image_at images index) refl below refl before in
      let rest : place index + k - place index ≡ k = omega arith in
      sym (whole.bytes_are (place index + k) (omega arith))
      ∙ get_or-append_right _ (image_at images index) (place index) (place index + k) 0 before.size_is (omega arith)
      ∙ ap (λ j. get_or (image_at images index) j 0) rest

  -- an image stands at its place
  image-taken : (index : ℕ) → index < count → take (length (image_at images index)) (drop (place index) file) ≡ image_at images index
  image-taken index below =
      let image = image_at images index in
      let size = length image in
      let after = drop (place index) file in
      let room : size ≤ length after = omega (arith, length-drop (place index) file, end-within index below) in
      let byte = λ (k : ℕ). get_or image k 0 in
      fill_by_all byte (take size after) size 0 (length-take-le size after room)
      (λ k inside.
      get_or-take size after k 0 inside ∙ get_or-drop (place index) file k 0
      ∙ file-byte (place index + k) (omega (arith, file-length, end-within index below))
      ∙ image-byte index k below inside)
      ∙ sym (fill_by_all byte image size 0 refl (λ k inside. refl))

  pub image-drop : (index : ℕ) → index < count → drop (place index) file ≡ image_at images index ++ drop (length (image_at images index)) (drop (place index) file)
  image-drop index below =
      let size = length (image_at images index) in
      sym (take-append-drop size (drop (place index) file)) ∙ ap (λ first. first ++ drop size (drop (place index) file)) (image-taken index below)
