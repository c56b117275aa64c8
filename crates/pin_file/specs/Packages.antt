-- The pins of a package, as a chip database lists them: on lines `PIN X Y PIO` below `.pins PACKAGE`, up to the next line that begins with
-- a dot. Source: Project IceStorm, 'icebox chip database'.
use Rattle.std.specs.Prelude.{ℕ, Bool, false, ◌&&◌, ◌||◌, List, [], ◌∷◌, length, get_or, codes, bytes_eq, ◌==◌, if◌then◌else◌, Option, Some, None}
use Rattle.text_lines.specs.Lines.{lines_of, line_at}
use Rattle.text_lines.specs.Words.{words_of, numbers_of}
use Rattle.text_lines.specs.declared.words.Separators.TheVariants.{SpacesAndTabs}
use Rattle.index_search.specs.Places.{any_below, last_below, first_below}
use Rattle.pin_file.specs.declared.place.PinPlace.{PinPlace}

-- what is known of a package: whether the database lists it, and where its pins are
pub record Package : Type 0 where
  pub known : Bool
  pub place_of : List ℕ → Option PinPlace

-- ---- lines

-- a line that begins with a dot
abbrev pub is_statement : List ℕ → Bool
is_statement line = get_or line 0 0 == 46

-- a line that begins with `#`
abbrev pub is_remark : List ℕ → Bool
is_remark line = get_or line 0 0 == 35

abbrev pub is_head : List ℕ → List (List ℕ) → Bool
is_head name (word ∷ other ∷ []) = bytes_eq word (codes ".pins") && bytes_eq other name
is_head name words = false

-- whether a line is `.pins PACKAGE`
unfoldable pub begins_package : List ℕ → List ℕ → Bool
begins_package name line = is_statement line && is_head name (words_of SpacesAndTabs line)

abbrev pub place_by : Option (List ℕ) → Option PinPlace
place_by (Some (x ∷ y ∷ pio ∷ [])) = Some (record { x = x; y = y; pio = pio })
place_by numbers = None

abbrev pub place_in_words : List ℕ → List (List ℕ) → Option PinPlace
place_in_words pin [] = None
place_in_words pin (word ∷ words) = if bytes_eq word pin then place_by (numbers_of words) else None

-- the place that a line `PIN X Y PIO` gives to a pin
unfoldable pub place_in_line : List ℕ → List ℕ → Option PinPlace
place_in_line pin line = if is_statement line || is_remark line then None else place_in_words pin (words_of SpacesAndTabs line)

-- ---- texts

-- whether there is a statement at that index, and it is `.pins PACKAGE`
abbrev pub is_of_package : List ℕ → List (List ℕ) → Option ℕ → Bool
is_of_package name lines None = false
is_of_package name lines (Some k) = begins_package name (line_at lines k)

-- whether the line at an index is below `.pins PACKAGE`, that is, whether the last statement before it is `.pins PACKAGE`
unfoldable pub stands_below : List ℕ → List (List ℕ) → ℕ → Bool
stands_below name lines n = is_of_package name lines (last_below n (λ k. is_statement (line_at lines k)))

-- the place that the line at an index gives to a pin of the package
abbrev pub place_given : List ℕ → List (List ℕ) → List ℕ → ℕ → Option PinPlace
place_given name lines pin n = if stands_below name lines n then place_in_line pin (line_at lines n) else None

-- the package as these lines list it; if two lines give a place to the same pin, the first one counts
abbrev pub package_in : List ℕ → List (List ℕ) → Package
package_in name lines = record {
  known = any_below (length lines) (λ k. begins_package name (line_at lines k));
  place_of = λ pin. first_below (length lines) (place_given name lines pin);
}

-- the package as the text of a database lists it
unfoldable pub package_of : List ℕ → List ℕ → Package
package_of name text = package_in name (lines_of text)
