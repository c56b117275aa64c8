-- What a reader has taken of a chip database that comes in pieces. A new reader stands for an empty text, `feed` adds a piece, and `finish`
-- gives the package of the text.
use Rattle.std.specs.Prelude.{◌≡◌, ℕ, ◌||◌, List, length, Option, None, if◌then◌else◌}
use Rattle.std.specs.Prelude.{bytes_eq}
use Rattle.std.specs.Map.{lookup}
use Rattle.std.specs.declared.alloc.AllocError.{AllocError}
use Rattle.text_lines.specs.Feeding.{StandsFor as FeedsTo, refusal_of}
use Rattle.index_search.specs.Places.{or_else}
use Rattle.pin_file.specs.declared.package_pins.PackagePins.{PackagePins}
use Rattle.pin_file.specs.declared.pin_lines.PinLines.{PinLines}
use Rattle.pin_file.specs.declared.pin_reader.PinReader.{PinReader}
use Rattle.pin_file.specs.declared.place.PinPlace.{PinPlace}
use Rattle.pin_file.specs.Packages.{Package, package_in, stands_below, begins_package, is_statement, place_in_line}

-- ---- what is kept

-- the place that is kept for a pin
abbrev pub place_kept : PackagePins → List ℕ → Option PinPlace
place_kept pins pin = lookup (λ key. bytes_eq pin key.items) pins.places.entries

-- the package that is kept
unfoldable pub kept_in : PackagePins → Package
kept_in pins = record { known = pins.known; place_of = place_kept pins }

-- ---- lines

-- these lines were taken, for the package with that name
pub record HasTaken (name : List ℕ) (lines : List (List ℕ)) (taker : PinLines) : Type 0 where
  pub name_is : taker.name.items ≡ name
  pub below_is : taker.below ≡ stands_below name lines (length lines)
  pub known_is : taker.pins.known ≡ (package_in name lines).known
  pub places_are : (pin : List ℕ) → place_kept taker.pins pin ≡ (package_in name lines).place_of pin

-- the lines that a taker has taken for a package
abbrev pub taken_by : List ℕ → PinLines → List (List ℕ) → Type 0
taken_by name taker lines = HasTaken name lines taker

-- the only refusal is out of memory, whatever the lines are
abbrev pub refused_with : List ℕ → List (List ℕ) → AllocError → Type 0
refused_with name lines lack = Unit {0}

-- one more line was taken
pub record TakesLine (old : PinLines) (line : List ℕ) (new : PinLines) : Type 0 where
  pub name_is : new.name.items ≡ old.name.items
  pub below_is : new.below ≡ (if is_statement line then begins_package old.name.items line else old.below)
  pub known_is : new.pins.known ≡ (old.pins.known || begins_package old.name.items line)
  pub places_are : (pin : List ℕ) → place_kept new.pins pin ≡ or_else (place_kept old.pins pin) (if old.below then place_in_line pin line else None)

-- ---- texts

-- a reader stands for a text and the package with a name if exactly that text was fed for it, or memory was out
unfoldable pub StandsFor : List ℕ → List ℕ → PinReader → Type 0
StandsFor name text reader = FeedsTo taken_by refused_with name text reader.lines

-- out of memory, if the reader ran into it
abbrev pub lack_of : PinReader → Option AllocError
lack_of reader = refusal_of reader.lines
