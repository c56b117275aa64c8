-- The names of the images that are stored, each once.
use Rattle.std.proofs.Common.{◌≡◌, ℕ, zero, suc, ◌+◌, ◌<◌, ◌≤◌, Bool, true, false, ◌||◌, List, [], ◌∷◌, ◌++◌, length, get_or, length-append, refl, sym, ap, ap₂, ◌∙◌, arith}
use Rattle.std.specs.Prelude.{if◌then◌else◌, map, nat_lt, not, position, unwrap_or, Option, Some, None}
use Rattle.std.specs.List.{list_any, position_or_len}
use Rattle.std.specs.Str.{bytes_eq}
use Rattle.std.proofs.Math.Bool.{or-false}
use Rattle.std.proofs.lemmas.List.{append-nil, get_or-map, length-map, map-append}
use Rattle.std.proofs.lemmas.List.Folds.{list_any-append}
use Rattle.std.proofs.lemmas.Slice.Eq.{bytes_eq-Decides}
use Rattle.clap.specs.Words.{Text}
use Rattle.index_search.specs.Places.{any_below, gathered_below}
use Rattle.index_search.proofs.Places.{gathered_below-more}
use Rattle.bitstream_tools.specs.Stored.{first_name, image_of, is_named_before, name_at, names_once}

module _ (names : List Text) where
  -- whether one of the first words gives a name
  abbrev gives : ℕ → Text → Bool
  gives n name = any_below n (λ word. bytes_eq (name_at names word) name)

  -- what a word adds, if an earlier one gives its name or none does, and it gives the name or not
  adds : (earlier before same : Bool) → (before ≡ true → same ≡ true → earlier ≡ true) → (earlier || (if before then false else same)) ≡ (earlier || same)
  adds true before same known = refl
  adds false false same known = refl
  adds false true false known = refl
  adds false true true known = known refl refl

  in_added : (before : Bool) (added name : Text) → list_any (λ one. bytes_eq one name) (if before then [] else added ∷ []) ≡ (if before then false else bytes_eq added name)
  in_added true added name = refl
  in_added false added name = or-false (bytes_eq added name)

  -- a name is among those that are stored if a word gives it
  pub listed : (n : ℕ) (name : Text) → list_any (λ one. bytes_eq one name) (gathered_below n (first_name names)) ≡ gives n name
  unfolding gathered_below any_below
  listed zero name = refl
  listed (suc n) name =
      list_any-append (λ one. bytes_eq one name) (gathered_below n (first_name names)) (first_name names n)
      ∙ ap₂ (λ earlier last. earlier || last) (listed n name) (in_added (is_named_before names n) (name_at names n) name)
      ∙ adds (gives n name) (is_named_before names n) (bytes_eq (name_at names n) name)
      (λ before here. ap (gives n) (sym ((bytes_eq-Decides (name_at names n) name).0 here)) ∙ before)

  -- one word more
  pub listed-more : (n : ℕ) (now later : List Text) (has : Bool) → now ≡ gathered_below n (first_name names)
      → has ≡ list_any (λ one. bytes_eq one (name_at names n)) now → later ≡ now ++ (if has then [] else name_at names n ∷ []) → later ≡ gathered_below (n + 1) (first_name names)
  listed-more n now later has so_far is later_is =
      let before : has ≡ is_named_before names n = is ∙ ap (list_any (λ one. bytes_eq one (name_at names n))) so_far ∙ listed n (name_at names n) in
      later_is
      ∙ ap (λ (b : Bool). now ++ (if b then [] else name_at names n ∷ [])) before
      ∙ ap (λ list. list ++ first_name names n) so_far
      ∙ sym (gathered_below-more n (first_name names))

-- a test of what items have
pub list_any-of : {A B : Type 0} (f : A → B) (test : B → Bool) (xs : List A) → list_any (λ x. test (f x)) xs ≡ list_any test (map f xs)
list_any-of f test [] = refl
list_any-of f test (x ∷ xs) = ap (λ more. test (f x) || more) (list_any-of f test xs)

-- the first item that passes it
place-of : {A B : Type 0} (f : A → B) (test : B → Bool) (xs : List A) → position_or_len (λ x. test (f x)) xs ≡ position_or_len test (map f xs)
place-of f test [] = refl
place-of f test (x ∷ xs) = ap (λ n. if not (test (f x)) then 1 + n else 0) (place-of f test xs)

pub position-of : {A B : Type 0} (f : A → B) (test : B → Bool) (xs : List A) → position (λ x. test (f x)) xs ≡ position test (map f xs)
position-of f test xs = ap₂ (λ (at size : ℕ). if nat_lt at size then Some at else None) (place-of f test xs) (sym (length-map xs f))

-- ---- names that the code has, as bytes

module _ {A : Type 0} (bytes : A → Text) (names : List A) where
  -- the index of a name
  pub image-is : (stored : List A) (word : ℕ) (other : A) → map bytes stored ≡ names_once (map bytes names) → word < length names
      → unwrap_or (position (λ one. bytes_eq (bytes one) (bytes (get_or names word other))) stored) 0 ≡ image_of (map bytes names) word
  image-is stored word other are below =
      ap (λ (found : Option ℕ). unwrap_or found 0)
      (position-of bytes (λ one. bytes_eq one (bytes (get_or names word other))) stored
      ∙ ap₂ (λ (name : Text) (list : List Text). position (λ one. bytes_eq one name) list) (sym (get_or-map bytes names word other [] below)) are)

  -- whether a name is among those that are stored
  pub has-is : (stored slice : List A) (word : ℕ) (other : A) → slice ≡ stored → word < length names
      → list_any (λ one. bytes_eq (bytes one) (bytes (get_or names word other))) slice ≡ list_any (λ one. bytes_eq one (name_at (map bytes names) word)) (map bytes stored)
  has-is stored slice word other same below =
      ap (list_any (λ one. bytes_eq (bytes one) (bytes (get_or names word other)))) same
      ∙ list_any-of bytes (λ one. bytes_eq one (bytes (get_or names word other))) stored
      ∙ ap (λ (name : Text). list_any (λ one. bytes_eq one name) (map bytes stored)) (sym (get_or-map bytes names word other [] below))

  -- the names after one word more, which is stored or not
  abbrev pub Follows : (has : Bool) (word : ℕ) (old new : List A) → Type 0
  Follows has word old new = (map bytes new ≡ map bytes old ++ (if has then [] else name_at (map bytes names) word ∷ [])) × (length new ≤ length old + 1)

  pub stored-more : (has : Bool) (word : ℕ) (other : A) (old new : List A) → word < length names → has ≡ false → new ≡ old ++ get_or names word other ∷ [] → Follows has word old new
  stored-more has word other old new below absent pushed = (
    ap (map bytes) pushed ∙ map-append bytes old (get_or names word other ∷ [])
        ∙ ap (λ (name : Text). map bytes old ++ name ∷ []) (sym (get_or-map bytes names word other [] below))
        ∙ ap (λ (b : Bool). map bytes old ++ (if b then [] else name_at (map bytes names) word ∷ [])) (sym absent),
    omega (arith, ap length pushed, length-append old (get_or names word other ∷ [])),
  )

  pub stored-same : (has : Bool) (word : ℕ) (old new : List A) → has ≡ true → new ≡ old → Follows has word old new
  stored-same has word old new there same = (
    ap (map bytes) same ∙ sym (append-nil (map bytes old)) ∙ ap (λ (b : Bool). map bytes old ++ (if b then [] else name_at (map bytes names) word ∷ [])) (sym there),
    omega (arith, ap length same),
  )
