-- How the code represents lines, and what it keeps of a pin file between them.
use Rattle.std.specs.Prelude.{◌≡◌, List, ◌++◌, ℕ, Option, Some}
use Rattle.std.specs.Map.{lookup}
use Rattle.pin_file.specs.declared.fault.PinFileCause.{PinFileCause}
use Rattle.pin_file.specs.declared.line.LineKind.{LineKind}
use Rattle.pin_file.specs.declared.line.LineKind.TheVariants as kind
use Rattle.pin_file.specs.declared.pin_name.PinName.{PinName}
use Rattle.pin_file.specs.declared.place.PinPlace.{PinPlace}
use Rattle.pin_file.specs.declared.place.PortPin.{PortPin}
use Rattle.pin_file.specs.declared.port_pins.PortPins.{PortPins}
use Rattle.pin_file.specs.declared.ports.Ports.{Ports}
use Rattle.pin_file.specs.declared.refusal.PinLineRefusal.{PinLineRefusal}
use Rattle.pin_file.specs.declared.refusal.PinLineRefusal.TheVariants.{Cause, Memory}
use Rattle.pin_file.specs.Lines.{Line, Passed, Port, Unknown}
use Rattle.pin_file.specs.PortNames.{all_names, has_name, has_place, is_place, pin_at}

-- what a line says, as the code represents it
abbrev pub said_by : LineKind → Line
said_by kind.Passed = Passed
said_by (kind.Port name pin) = Port name.now pin.now
said_by kind.Unknown = Unknown

-- a refusal is for that cause, or for out of memory
abbrev pub RefusesFor : Option PinFileCause → PinLineRefusal → Type 0
RefusesFor cause (Cause told) = cause ≡ Some told
RefusesFor cause (Memory e) = Unit {0}

-- the kept pin at a place
abbrev pub pin_kept : PortPins → PinPlace → Option PortPin
pin_kept kept place = lookup (is_place place) kept.pins.entries

-- What is kept after lines that name the pins at these places, and that gave these names: the names, the places, all names of ports, and the
-- pins that have a port.
pub record Holds (pins : List PortPin) (earlier : List PinPlace) (named : List PinName) (ports : Ports) : Type 0 where
  pub list : ports.list.items ≡ named
  pub places : (place : PinPlace) → has_place place ports.places ≡ has_place place earlier
  pub names : (name : List ℕ) → has_name ports.names name ≡ has_name (all_names pins named) name
  pub pins_are : (place : PinPlace) → pin_kept ports.pins place ≡ pin_at pins place

-- one more line that names the pin at this place, if any, and gives the name that it gives after earlier lines
abbrev pub Grows : Ports → Ports → List PinPlace → (List PortPin → List PinPlace → List PinName → List PinName) → Type 0
Grows old new places given =
    (pins : List PortPin) (earlier : List PinPlace) (named : List PinName) → Holds pins earlier named old → Holds pins (earlier ++ places) (named ++ given pins earlier named) new
