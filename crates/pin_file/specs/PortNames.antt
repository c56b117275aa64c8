-- The names that a pin file gives to ports.
use Rattle.std.specs.Prelude.{ℕ, ◌-◌, Bool, not, ◌&&◌, List, [], ◌∷◌, ◌++◌, length, take, get_or, map, flat_map, find, codes, bytes_eq, ◌==◌, if◌then◌else◌, ◌≡◌, false, All, IsTrue, Option, Some, None, is_some}
use Rattle.std.specs.List.{list_any, suffix_len, IsDistinct}
use Rattle.std.specs.Char.{is_ascii_digit}
use Rattle.vlog_module.specs.Names.{is_name_byte, is_name, IsName}
use Rattle.pin_file.specs.declared.place.PinPlace.{PinPlace}
use Rattle.pin_file.specs.declared.place.PortPin.{PortPin}
use Rattle.pin_file.specs.declared.pin_name.PinName.{PinName}

-- a letter, a digit and `_` stay; any other byte becomes `_`
abbrev pub name_byte : ℕ → ℕ
name_byte byte = if is_name_byte byte then byte else 95

abbrev pub is_underscore : ℕ → Bool
is_underscore byte = byte == 95

-- bytes without any `_` at their end
abbrev pub without_end : List ℕ → List ℕ
without_end bytes = take (length bytes - suffix_len is_underscore bytes) bytes

-- a NAME with a byte for each that a name may have, and without any `_` at its end: `led_3` for `led[3]`
unfoldable pub plain_name : List ℕ → List ℕ
plain_name name = without_end (map name_byte name)

-- the name of a pin's output enable, if the pin's port has a name of a pin file
abbrev pub enable_name : List ℕ → List ℕ
enable_name name = name ++ codes "_en"

-- the name of a pin's input from outside, if the pin's port has a name of a pin file
abbrev pub input_name : List ℕ → List ℕ
input_name name = name ++ codes "_in"

-- ---- names that a written module uses for what has no name in a pin file

-- how these names begin; a number follows
unfoldable pub own_beginnings : List (List ℕ)
own_beginnings =
    codes "n_" ∷ codes "ff_" ∷ codes "pi_" ∷ codes "po_" ∷ codes "rd_" ∷ codes "mem_" ∷ codes "io_"
    ∷ codes "pj_" ∷ codes "ci_" ∷ codes "pq_" ∷ codes "co_" ∷ codes "pe_" ∷ codes "pll_" ∷ []

-- whether a name begins so, with a digit after it
abbrev pub begins_numbered : List ℕ → List ℕ → Bool
begins_numbered name beginning =
    bytes_eq beginning (take (length beginning) name) && is_ascii_digit (get_or name (length beginning) 0)

-- whether a name has the form of a name that a module uses itself
unfoldable pub has_own_form : List ℕ → Bool
has_own_form name = list_any (begins_numbered name) own_beginnings

-- whether a port can have a name: it is a name of the Verilog subset, and hasn't the form of a name that a module uses itself
abbrev pub is_usable : List ℕ → Bool
is_usable name = is_name name && not (has_own_form name)

-- a name that a port can have as it is, and any other with `p_` before it
abbrev pub usable_name : List ℕ → List ℕ
usable_name name = if is_usable name then name else codes "p_" ++ name

-- the name that the port of a NAME gets: `led_3` for `led[3]`, `p_n_0` for `n[0]`, `p_1a` for `1a`, and `p_` for `[]`
unfoldable pub port_name : List ℕ → List ℕ
port_name name = usable_name (plain_name name)

-- ---- pins

abbrev pub is_place : PinPlace → PinPlace → Bool
is_place place other = (place.x == other.x) && ((place.y == other.y) && (place.pio == other.pio))

-- whether a place is in a list
abbrev pub has_place : PinPlace → List PinPlace → Bool
has_place place places = list_any (is_place place) places

-- the pin at a place, if it has a port
abbrev pub pin_at : List PortPin → PinPlace → Option PortPin
pin_at pins place = find (λ pin. is_place place pin.place) pins

-- ---- ports

-- the names of a pin's ports, if the first one has that name: the output enable and the input from outside are there if the pin has them
abbrev pub names_with : List ℕ → PortPin → List (List ℕ)
names_with name pin =
    name ∷ ((if pin.enable then enable_name name ∷ [] else []) ++ (if pin.outside then input_name name ∷ [] else []))

abbrev pub names_by : List ℕ → Option PortPin → List (List ℕ)
names_by name None = []
names_by name (Some pin) = names_with name pin

-- the names of all ports of the pins that have a name, in their order
unfoldable pub all_names : List PortPin → List PinName → List (List ℕ)
all_names pins named = flat_map (λ port. names_by port.name (pin_at pins port.place)) named

-- the places of ports, in their order
unfoldable pub places_of : List PinName → List PinPlace
places_of named = map (λ port. port.place) named

-- whether a name is in a list
abbrev pub has_name : List (List ℕ) → List ℕ → Bool
has_name names name = list_any (λ other. bytes_eq name other) names

-- Names that the ports of a module can have: each is a name of the Verilog subset, none has the form of a name that a module uses itself,
-- and no two are equal. Each belongs to a pin that has a port, and no two of the pins are at the same place.
pub record AreSafe (pins : List PortPin) (named : List PinName) : Type 0 where
  pub are_names : All IsName (all_names pins named)
  pub foreign : All (λ name. has_own_form name ≡ false) (all_names pins named)
  pub apart : IsDistinct bytes_eq (all_names pins named)
  pub are_ports : All (λ port. IsTrue (is_some (pin_at pins port.place))) named
  pub places_apart : IsDistinct is_place (places_of named)
