-- Which names a pin file gives to which pins, and which of its lines are faulty.
use Rattle.std.specs.Prelude.{◌≡◌, ℕ, zero, suc, ◌+◌, Bool, List, [], ◌∷◌, ◌++◌, length, take, flat_map, if◌then◌else◌, Option, Some, None, Result, Ok, Err}
use Rattle.std.specs.List.{list_any}
use Rattle.text_lines.specs.Lines.{lines_of, line_at}
use Rattle.index_search.specs.Places.{first_below}
use Rattle.pin_file.specs.declared.place.PinPlace.{PinPlace}
use Rattle.pin_file.specs.declared.place.PortPin.{PortPin}
use Rattle.pin_file.specs.declared.pin_name.PinName.{PinName}
use Rattle.pin_file.specs.declared.fault.PinFileCause.{PinFileCause}
use Rattle.pin_file.specs.declared.fault.PinFileCause.TheVariants.{Statement, Package as PackageCause, Pin}
use Rattle.pin_file.specs.declared.fault.PinFileFault.{PinFileFault}
use Rattle.pin_file.specs.declared.fault.PinFileFault.TheVariants.{At, Memory}
use Rattle.pin_file.specs.Lines.{Line, Passed, Port, Unknown, line_of}
use Rattle.pin_file.specs.PortNames.{port_name, has_place, has_name, pin_at, names_with, all_names}
use Rattle.pin_file.specs.Packages.{Package}

-- ---- places

abbrev pub place_or_cause : Option PinPlace → Result PinPlace PinFileCause
place_or_cause (Some place) = Ok place
place_or_cause None = Err Pin

-- the place of a pin of the package, or why there is none
abbrev pub place_in : Package → List ℕ → Result PinPlace PinFileCause
place_in chosen pin = if chosen.known then place_or_cause (chosen.place_of pin) else Err PackageCause

abbrev pub place_or_none : Result PinPlace PinFileCause → List PinPlace
place_or_none (Ok place) = place ∷ []
place_or_none (Err cause) = []

-- the place of the pin that a line names, if the package has the pin
abbrev pub place_by : Package → Line → List PinPlace
place_by chosen (Port name pin) = place_or_none (place_in chosen pin)
place_by chosen line = []

-- the places of the pins that lines name, in their order
unfoldable pub places_in : Package → List (List ℕ) → List PinPlace
places_in chosen lines = flat_map (λ line. place_by chosen (line_of line)) lines

-- ---- names

-- whether one of the names of a pin's ports is given already
abbrev pub is_taken : List (List ℕ) → PortPin → List ℕ → Bool
is_taken given pin name = list_any (has_name given) (names_with name pin)

-- the name that a pin gets, if none of the names of its ports is given already
abbrev pub named_if_free : List (List ℕ) → PinPlace → List ℕ → Option PortPin → List PinName
named_if_free given place name None = []
named_if_free given place name (Some pin) = if is_taken given pin name then [] else record { place = place; name = name } ∷ []

-- The name that a line with that NAME gives to the pin at a place, after earlier lines: none if an earlier line names the same pin, if the
-- pin has no port, or if one of the names of its ports is given already.
abbrev pub name_at : List PortPin → List PinPlace → List PinName → List ℕ → PinPlace → List PinName
name_at pins earlier named name place =
    if has_place place earlier then [] else named_if_free (all_names pins named) place (port_name name) (pin_at pins place)

abbrev pub name_if : List PortPin → List PinPlace → List PinName → List ℕ → Result PinPlace PinFileCause → List PinName
name_if pins earlier named name (Ok place) = name_at pins earlier named name place
name_if pins earlier named name (Err cause) = []

-- the name that a line gives, after the lines that name the pins at these earlier places, and that gave these names
abbrev pub name_by : Package → List PortPin → List PinPlace → List PinName → Line → List PinName
name_by chosen pins earlier named (Port name pin) = name_if pins earlier named name (place_in chosen pin)
name_by chosen pins earlier named line = []

-- the names that the first lines of a pin file give, so many of them
unfoldable pub names_before : Package → List PortPin → List (List ℕ) → ℕ → List PinName
names_before chosen pins lines zero = []
names_before chosen pins lines (suc n) =
    let earlier = names_before chosen pins lines n in
    earlier ++ name_by chosen pins (places_in chosen (take n lines)) earlier (line_of (line_at lines n))

-- the names that a pin file gives to the ports of a design, in the order of its lines
unfoldable pub ports_of : Package → List PortPin → List ℕ → List PinName
ports_of chosen pins text = let lines = lines_of text in names_before chosen pins lines (length lines)

-- ---- the first fault

abbrev pub cause_in : Result PinPlace PinFileCause → Option PinFileCause
cause_in (Ok place) = None
cause_in (Err cause) = Some cause

-- why a line is faulty
abbrev pub cause_of : Package → Line → Option PinFileCause
cause_of chosen Passed = None
cause_of chosen Unknown = Some Statement
cause_of chosen (Port name pin) = cause_in (place_in chosen pin)

-- a line number with what is wrong with that line
abbrev pub fault_with : ℕ → Option PinFileCause → Option PinFileFault
fault_with line None = None
fault_with line (Some cause) = Some (At line cause)

-- what is wrong with the line at an index
abbrev pub fault_at : Package → List (List ℕ) → ℕ → Option PinFileFault
fault_at chosen lines n = fault_with (n + 1) (cause_of chosen (line_of (line_at lines n)))

-- the first faulty line of a pin file; lines are numbered from 1
unfoldable pub pin_fault_of : Package → List ℕ → Option PinFileFault
pin_fault_of chosen text = let lines = lines_of text in first_below (length lines) (fault_at chosen lines)

-- the reported fault is that one; out of memory may come in place of any answer
abbrev pub Tells : Option PinFileFault → PinFileFault → Type 0
Tells first (Memory e) = Unit {0}
Tells first fault = first ≡ Some fault
