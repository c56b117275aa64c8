-- The names that a pin file gives to pins, as they stand in it. That the first line of a pin counts is this project's choice, as for the names of
-- ports.
use Rattle.std.specs.Prelude.{ℕ, List, length, if◌then◌else◌, Option, Some, None, option_map, Result, Ok, Err}
use Rattle.std.specs.Map.{lookup}
use Rattle.text_lines.specs.Lines.{lines_of, line_at}
use Rattle.index_search.specs.Places.{first_below}
use Rattle.pin_file.specs.declared.fault.PinFileCause.{PinFileCause}
use Rattle.pin_file.specs.declared.given.GivenNames.{GivenNames}
use Rattle.pin_file.specs.declared.place.PinPlace.{PinPlace}
use Rattle.pin_file.specs.Faults.{place_in}
use Rattle.pin_file.specs.Lines.{Line, Passed, Port, Unknown, line_of}
use Rattle.pin_file.specs.Packages.{Package}
use Rattle.pin_file.specs.PortNames.{is_place}

abbrev pub name_if_at : PinPlace → List ℕ → Result PinPlace PinFileCause → Option (List ℕ)
name_if_at place name (Ok other) = if is_place place other then Some name else None
name_if_at place name (Err cause) = None

-- the NAME that a line gives to the pin at a place
abbrev pub name_in_line : Package → PinPlace → Line → Option (List ℕ)
name_in_line chosen place (Port name pin) = name_if_at place name (place_in chosen pin)
name_in_line chosen place Passed = None
name_in_line chosen place Unknown = None

abbrev pub name_in : Package → List (List ℕ) → PinPlace → ℕ → Option (List ℕ)
name_in chosen lines place n = name_in_line chosen place (line_of (line_at lines n))

-- the NAME of the first line of a pin file that names the pin at a place
unfoldable pub name_given : Package → List ℕ → PinPlace → Option (List ℕ)
name_given chosen text place = let lines = lines_of text in first_below (length lines) (name_in chosen lines place)

-- the name that is kept for the pin at a place
unfoldable pub name_kept : GivenNames → PinPlace → Option (List ℕ)
name_kept names place = option_map (λ name. name.items) (lookup (is_place place) names.names.entries)
