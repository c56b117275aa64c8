-- Why pins aren't taken.
use Rattle.std.specs.Prelude.{◌≡◌, ℕ, Bool, not, ◌&&◌, ◌||◌, codes, List, Option, Some, None, if◌then◌else◌}
use Rattle.plane_map.specs.declared.tile.TileKind.TheVariants.{Io}
use Rattle.ice_image.specs.Configuration.{Configuration}
use Rattle.chipdb_reader.specs.Database.{Database}
use Rattle.fabric_model.specs.Tiles.{item_if}
use Rattle.fabric_model.specs.declared.pin.Pin.{Pin}
use Rattle.fabric_model.specs.On.{is_function_on}
use Rattle.fabric_model.specs.PinTypes.{pintype_of}
use Rattle.fabric_model.specs.Pins.{has_no_output, has_plain_input, has_tri_state_output, is_plain_input, is_registered_input, is_output_pin, is_refused_with, is_refused_of_all}
use Rattle.fabric_model.specs.Faults.{Fault}
use Rattle.fabric_model.specs.Faults.Fault.{pin_mode}
use Rattle.fabric_parts.specs.declared.io.fault.PinFault.{PinFault}
use Rattle.fabric_parts.specs.declared.io.fault.PinFault.TheVariants.{PinMode, Memory}
use Rattle.fabric_parts.specs.declared.io.refused.TypedPin.{TypedPin}

-- a refusal tells the fault, or that memory ran out
abbrev pub IsCause : Option Fault → PinFault → Type 0
IsCause fault (PinMode x y pio pintype) = fault ≡ Some (pin_mode x y pio pintype)
IsCause fault (Memory cause) = Unit {0}

-- ---- one pin

-- whether a type is that of a port if not pins of every kind are taken: of an input pin or an output pin; `read` says whether its input is read
abbrev pub is_type_port : ℕ → Bool → Bool
is_type_port pintype read = is_plain_input pintype || ((is_registered_input pintype && read) || is_output_pin pintype)

-- whether a pin isn't taken if not pins of every kind are, by what it says
abbrev pub is_refused_by_type : Database → Configuration → Pin → ℕ → Bool
is_refused_by_type db image pin pintype =
    not (has_no_output pintype || is_output_pin pintype)
    || ((pin.reads_0 && not (has_plain_input pintype || is_registered_input pintype))
    || (pin.reads_1
    || ((pin.is_global && not (is_plain_input pintype))
    || ((is_type_port pintype pin.reads_0 && is_function_on db image Io pin.x pin.y (codes "IoCtrl.LVDS"))
    || (has_tri_state_output pintype && pin.reads_0)))))

-- whether a pin, which has that type, isn't taken
abbrev pub is_refused : Bool → Database → Configuration → Pin → ℕ → Bool
is_refused all db image pin pintype =
    if all then is_refused_of_all db image pin else is_refused_with db image pin.x pin.y pin.n pintype

-- the fault of a pin that isn't taken
abbrev pub fault_of : Bool → Database → Configuration → Pin → List Fault
fault_of all db image pin =
    let pintype = pintype_of db image pin.x pin.y pin.n in
    item_if (is_refused all db image pin pintype) (pin_mode pin.x pin.y pin.n pintype)

-- ---- what was found

abbrev pub pin_fault : Option TypedPin → Option Fault
pin_fault None = None
pin_fault (Some pin) = Some (pin_mode pin.x pin.y pin.n pin.pintype)
