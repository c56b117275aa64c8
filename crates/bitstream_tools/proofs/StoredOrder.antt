-- The headers of `icemulti --as-stock` boot the stored images in their order.
use Rattle.std.proofs.Common.{◌≡◌, ℕ, zero, suc, ◌+◌, ◌-◌, ◌<◌, ◌≤◌, Bool, true, false, ◌||◌, ◌==◌, List, [], ◌∷◌, ◌++◌, length, length-append, append_assoc, refl, sym, ap, ap₂, ◌∙◌, inl, inr, arith}
use Rattle.std.specs.Prelude.{if◌then◌else◌, nat_lt, position, unwrap_or, Option, Some}
use Rattle.std.specs.List.{list_any, position_or_len, range_with_len}
use Rattle.std.specs.Str.{bytes_eq}
use Rattle.std.proofs.lemmas.Bool.{cases_Bool, cases_lt, eq-eqb, le-ltb, lt-ltb, ne_eqb}
use Rattle.std.proofs.lemmas.List.{append-nil}
use Rattle.std.proofs.lemmas.List.FromFn.{get_or-map-range_with_len}
use Rattle.std.proofs.lemmas.Slice.Eq.{bytes_eq-Decides}
use Rattle.clap.specs.Words.{Text}
use Rattle.index_search.specs.Places.{gathered_below}
use Rattle.index_search.proofs.Places.{any_below-at, any_below-place, any_below-same, gathered_below-more, gathered_below-none, gathered_below-same, gathered_below-sum}
use Rattle.boot_file.specs.declared.options.Options.{Options}
use Rattle.boot_file.specs.Joined.{AreInOrder, entry_booted, first_booted}
use Rattle.bitstream_tools.specs.Stored.{first_name, image_of, is_named_before, name_at, names_once, stock_options, word_booted}
use Rattle.bitstream_tools.proofs.StoredNames.{listed}

-- ---- lists

-- the first item that passes a test, after items that don't
place-after : {A : Type 0} (test : A → Bool) (before : List A) (item : A) (after : List A) → list_any test before ≡ false → test item ≡ true
    → position_or_len test (before ++ item ∷ after) ≡ length before
place-after test [] item after none here = rw here refl
place-after test (first ∷ before) item after none here =
    let parts = neither (test first) (list_any test before) none in
    rw parts.0 (let rest = place-after test before item after parts.1 here in omega (arith, rest))
  where
    neither : (one other : Bool) → (one || other) ≡ false → (one ≡ false) × (other ≡ false)
    neither false false none = (refl, refl)
    neither false true none = absurd cc
    neither true other none = absurd cc

position-after : {A : Type 0} (test : A → Bool) (before : List A) (item : A) (after : List A) → list_any test before ≡ false → test item ≡ true
    → position test (before ++ item ∷ after) ≡ Some (length before)
position-after test before item after none here =
    let at = place-after test before item after none here in
    let inside : nat_lt (length before) (length (before ++ item ∷ after)) ≡ true = lt-ltb (length before) (length (before ++ item ∷ after)) (omega (arith, length-append before (item ∷ after))) in
    rw (at, inside) refl

range-more : (from count : ℕ) → range_with_len from count ++ (from + count) ∷ [] ≡ range_with_len from (suc count)
range-more from zero = let same : from + 0 ≡ from = omega arith in ap (λ n. n ∷ []) same
range-more from (suc count) =
    let same : from + suc count ≡ from + 1 + count = omega arith in
    ap (λ n. from ∷ range_with_len (from + 1) count ++ n ∷ []) same ∙ ap (λ more. from ∷ more) (range-more (from + 1) count)

-- one image more, or none
count-more : (known : Bool) (seen : List Text) (image : ℕ) (name : Text) → (known ≡ false → image ≡ length seen)
    → range_with_len 0 (length seen) ++ (if known then [] else image ∷ []) ≡ range_with_len 0 (length (seen ++ (if known then [] else name ∷ [])))
count-more true seen image name at = append-nil (range_with_len 0 (length seen)) ∙ ap (λ (list : List Text). range_with_len 0 (length list)) (sym (append-nil seen))
count-more false seen image name at =
    let here : image ≡ 0 + length seen = omega (arith, at refl) in
    let size : suc (length seen) ≡ length (seen ++ name ∷ []) = omega (arith, length-append seen (name ∷ [])) in
    ap (λ n. range_with_len 0 (length seen) ++ n ∷ []) here ∙ range-more 0 (length seen) ∙ ap (range_with_len 0) size

-- ---- words

module _ (names : List Text) where
  abbrev count : ℕ
  count = length (names_once names)

  -- how many images the words before one have
  abbrev before : ℕ → ℕ
  before word = length (gathered_below word (first_name names))

  -- the stored names, up to a word and after it
  from-word : (word : ℕ) → word < length names → (after : List Text) × (names_once names ≡ gathered_below word (first_name names) ++ first_name names word ++ after)
  unfolding names_once
  from-word word below =
      let rest = length names - (word + 1) in
      let all : length names ≡ word + 1 + rest = omega (arith, below) in (
        gathered_below rest (λ k. first_name names (word + 1 + k)),
        ap (λ n. gathered_below n (first_name names)) all
            ∙ gathered_below-sum (word + 1) rest (first_name names)
            ∙ ap (λ more. more ++ gathered_below rest (λ k. first_name names (word + 1 + k))) (gathered_below-more word (first_name names)),
      )

  -- the image of a word that is the first to give its name stands after the images of the words before
  record NewImage (word : ℕ) : Type 0 where
    at : image_of names word ≡ before word
    inside : before word < count

  new-image : (word : ℕ) → word < length names → is_named_before names word ≡ false → NewImage word
  new-image word below new =
      let name = name_at names word in
      let parts = from-word word below in
      let one : first_name names word ≡ name ∷ [] = ap (λ (b : Bool). if b then [] else name ∷ []) new in
      let all : names_once names ≡ gathered_below word (first_name names) ++ name ∷ parts.0 =
      parts.1 ∙ ap (λ (last : List Text). gathered_below word (first_name names) ++ last ++ parts.0) one ∙ append_assoc (gathered_below word (first_name names)) (name ∷ []) parts.0 in
      record {
        at = ap (λ (found : Option ℕ). unwrap_or found 0)
            (ap (position (λ stored. bytes_eq stored name)) all
            ∙ position-after (λ stored. bytes_eq stored name) (gathered_below word (first_name names)) name parts.0 (listed names word name ∙ new) ((bytes_eq-Decides name name).1 refl));
        inside = omega (arith, ap length all, length-append (gathered_below word (first_name names)) (name ∷ parts.0));
      }

  -- the first word that gives the name of a word
  record First (word : ℕ) : Type 0 where
    first : ℕ
    upto : first ≤ word
    new : is_named_before names first ≡ false
    same : name_at names first ≡ name_at names word

  first-of : (bound word : ℕ) → word < bound → First word
  first-of zero word less = absurd (omega arith)
  first-of (suc bound) word less = elim (cases_Bool (is_named_before names word)) [
    | inl known ↦
        let earlier = any_below-place word (λ k. bytes_eq (name_at names k) (name_at names word)) known in
        let found = first-of bound earlier.0 (omega (arith, earlier.1)) in
        record {
          first = found.first;
          upto = omega (arith, found.upto, earlier.1);
          new = found.new;
          same = found.same ∙ (bytes_eq-Decides (name_at names earlier.0) (name_at names word)).0 earlier.2;
        }
    | inr new ↦ record { first = word; upto = omega arith; new = new; same = refl }
  ]

  -- words of one name have one image
  image-same : (one other : ℕ) → name_at names one ≡ name_at names other → image_of names one ≡ image_of names other
  image-same one other same = ap (λ (name : Text). unwrap_or (position (λ stored. bytes_eq stored name) (names_once names)) 0) same

  image-within : (word : ℕ) → word < length names → image_of names word < count
  image-within word below =
      let found = first-of (word + 1) word (omega arith) in
      let new = new-image found.first (omega (arith, found.upto)) found.new in
      omega (arith, new.at, new.inside, image-same found.first word found.same)

  -- images of later new words come later
  before-rises : (earlier later : ℕ) → earlier < later → is_named_before names earlier ≡ false → before earlier < before later
  before-rises earlier later less new =
      let rest = later - (earlier + 1) in
      let all : later ≡ earlier + 1 + rest = omega (arith, less) in
      let one = gathered_below-more earlier (first_name names) in
      let name : length (first_name names earlier) ≡ 1 = ap (λ (b : Bool). length (if b then [] else name_at names earlier ∷ [])) new in
      omega (
        arith,
        name,
        ap length one,
        length-append (gathered_below earlier (first_name names)) (first_name names earlier),
        ap length (ap (λ n. gathered_below n (first_name names)) all ∙ gathered_below-sum (earlier + 1) rest (first_name names)),
        length-append (gathered_below (earlier + 1) (first_name names)) (gathered_below rest (λ k. first_name names (earlier + 1 + k))),
      )

  image-apart : (one other : ℕ) → one < length names → other < length names → is_named_before names one ≡ false → is_named_before names other ≡ false → one < other
      → image_of names one < image_of names other
  image-apart one other below within new newer less =
      omega (arith, (new-image one below new).at, (new-image other within newer).at, before-rises one other less new)

  -- words have one image exactly if they give one name
  image-equal : (one other : ℕ) → one < length names → other < length names → (image_of names one == image_of names other) ≡ bytes_eq (name_at names one) (name_at names other)
  image-equal one other below within = elim (cases_Bool (bytes_eq (name_at names one) (name_at names other))) [
    | inl same ↦ rw same (eq-eqb (image_of names one) (image_of names other) (image-same one other ((bytes_eq-Decides (name_at names one) (name_at names other)).0 same)))
    | inr unlike ↦
        let a = first-of (one + 1) one (omega arith) in
        let b = first-of (other + 1) other (omega arith) in
        let ia = image-same a.first one a.same in
        let ib = image-same b.first other b.same in
        rw unlike (ne_eqb (image_of names one) (image_of names other) (λ equal. elim (cases_lt a.first b.first) [
          | inl less ↦ absurd (omega (arith, equal, ia, ib, image-apart a.first b.first (omega (arith, a.upto)) (omega (arith, b.upto)) a.new b.new less))
          | inr upto ↦ elim (cases_lt b.first a.first) [
            | inl less ↦ absurd (omega (arith, equal, ia, ib, image-apart b.first a.first (omega (arith, b.upto)) (omega (arith, a.upto)) b.new a.new less))
            | inr more ↦
                let one_word : a.first ≡ b.first = omega arith in
                let wrong : true ≡ false = sym ((bytes_eq-Decides (name_at names one) (name_at names other)).1 (sym a.same ∙ ap (name_at names) one_word ∙ b.same)) ∙ unlike in
                absurd cc
          ]
        ]))
  ]

  -- the images of the first words
  abbrev new_images : ℕ → List ℕ
  new_images word = if is_named_before names word then [] else image_of names word ∷ []

  counted : (n : ℕ) → n ≤ length names → gathered_below n new_images ≡ range_with_len 0 (before n)
  unfolding gathered_below
  counted zero upto = refl
  counted (suc n) upto =
      ap (λ list. list ++ new_images n) (counted n (omega arith))
      ∙ count-more (is_named_before names n) (gathered_below n (first_name names)) (image_of names n) (name_at names n) (λ new. (new-image n (omega arith) new).at)

-- ---- headers

module _ (names : List Text) (options : Options) (few : length names ≤ 4) (power : options.power_on < length names) where
  abbrev stock : Options
  stock = stock_options names options

  abbrev word : ℕ → ℕ
  word entry = word_booted names options.power_on entry

  word-own : (entry : ℕ) → entry < length names → word entry ≡ entry
  word-own entry below = rw (lt-ltb entry (length names) below) refl

  word-missing : (entry : ℕ) → length names ≤ entry → word entry ≡ options.power_on
  word-missing entry beyond = rw (le-ltb entry (length names) beyond) refl

  word-within : (entry : ℕ) → word entry < length names
  word-within entry = elim (cases_lt entry (length names)) [
    | inl below ↦ omega (arith, word-own entry below)
    | inr beyond ↦ omega (arith, word-missing entry beyond)
  ]

  abbrev booted : ℕ → ℕ
  booted entry = entry_booted (count names) stock entry

  booted-is : (entry : ℕ) → entry < 4 → booted entry ≡ image_of names (word entry)
  booted-is entry below =
      let some : ((entry + 1) == 0) ≡ false = ne_eqb (entry + 1) 0 (λ zero. absurd (omega (arith, zero))) in
      let same : entry + 1 - 1 ≡ entry = omega arith in
      let at = get_or-map-range_with_len (λ k. image_of names (word k)) 0 4 entry entry 0 below (omega arith) in
      rw (some, same, at, lt-ltb (image_of names (word entry)) (count names) (image-within names (word entry) (word-within entry))) refl

  booted-equal : (one other : ℕ) → one < 4 → other < 4 → (booted one == booted other) ≡ bytes_eq (name_at names (word one)) (name_at names (word other))
  booted-equal one other first second =
      ap₂ (λ (a : ℕ) (b : ℕ). a == b) (booted-is one first) (booted-is other second)
      ∙ image-equal names (word one) (word other) (word-within one) (word-within other)

  -- the header of a word is the first to boot its image if the word is the first to give its name
  own : (entry : ℕ) → entry < length names → first_booted (count names) stock entry ≡ new_images names entry
  own entry below =
      ap₂ (λ (known : Bool) (image : ℕ). if known then [] else image ∷ [])
      (any_below-same entry (λ k. booted k == booted entry) (λ k. bytes_eq (name_at names k) (name_at names entry))
      (λ k less.
      booted-equal k entry (omega arith) (omega arith)
      ∙ ap₂ (λ (a : ℕ) (b : ℕ). bytes_eq (name_at names a) (name_at names b)) (word-own k (omega arith)) (word-own entry below)))
      (booted-is entry (omega arith) ∙ ap (image_of names) (word-own entry below))

  -- a header without a word boots the image of power-on, as an earlier one does
  missing : (entry : ℕ) → length names ≤ entry → entry < 4 → first_booted (count names) stock entry ≡ []
  missing entry beyond below =
      let name = name_at names options.power_on in
      ap (λ (known : Bool). if known then [] else booted entry ∷ [])
      (any_below-at entry options.power_on (λ k. booted k == booted entry) (omega arith)
      (booted-equal options.power_on entry (omega arith) below
      ∙ ap₂ (λ (a : ℕ) (b : ℕ). bytes_eq (name_at names a) (name_at names b)) (word-own options.power_on power) (word-missing entry beyond)
      ∙ (bytes_eq-Decides name name).1 refl))

  stock_in_order : AreInOrder (count names) stock
  unfolding names_once
  stock_in_order =
      let n = length names in
      let all : 4 ≡ n + (4 - n) = omega (arith, few) in
      ap (λ m. gathered_below m (first_booted (count names) stock)) all
      ∙ gathered_below-sum n (4 - n) (first_booted (count names) stock)
      ∙ ap₂ (λ (one other : List ℕ). one ++ other)
      (gathered_below-same n (first_booted (count names) stock) (new_images names) own)
      (gathered_below-none (4 - n) (λ k. first_booted (count names) stock (n + k)) (λ k less. missing (n + k) (omega arith) (omega arith)))
      ∙ append-nil (gathered_below n (new_images names))
      ∙ counted names n (omega arith)

-- the stored images are in the order of their headers
pub stored_in_order : (names : List Text) (options : Options) → length names ≤ 4 → options.power_on < length names → AreInOrder (length (names_once names)) (stock_options names options)
stored_in_order names options few power = stock_in_order names options few power
