-- The marks of a floor plan: one for each used logic cell, one for each tile of a used RAM, and one for each pin that is a port.
use Rattle.std.specs.Prelude.{◌+◌, Bool, true, false, ◌&&◌, ◌||◌, List, ◌++◌, map}
use Rattle.ice_image.specs.Configuration.{Configuration}
use Rattle.chipdb_reader.specs.Database.{Database}
use Rattle.fabric_model.specs.declared.cell.LogicCell.{LogicCell}
use Rattle.fabric_model.specs.declared.pin.PadData.{PadData}
use Rattle.fabric_model.specs.declared.pin.PadData.TheVariants as sends
use Rattle.fabric_model.specs.declared.pin.Pin.{Pin as PortPin}
use Rattle.fabric_model.specs.declared.ram.RamCell.{RamCell}
use Rattle.fabric_model.specs.Cells.{cells_of}
use Rattle.fabric_model.specs.Pins.{pins_of, drives, is_switched, has_input, has_outside}
use Rattle.fabric_model.specs.PinTypes.{has_register, is_double, is_by_register, takes_by_register}
use Rattle.fabric_model.specs.Rams.{rams_of}
use Rattle.plan_marks.specs.declared.plan.Mark.{Mark}
use Rattle.plan_marks.specs.declared.plan.Part.TheVariants.{Cell, Lower, Upper, Pin}
use Rattle.plan_marks.specs.declared.plan.PinPart.{PinPart}
use Rattle.plan_marks.specs.declared.plan.RamPart.{RamPart}

-- ---- cells

-- a used cell, without its nets
abbrev pub cell_mark : LogicCell → Mark
cell_mark lc = record {
  x = lc.x;
  y = lc.y;
  part = Cell (record { i = lc.i; lut = lc.lut; carry = lc.carry; flip = lc.flip; «set» = lc.«set»; is_async = lc.is_async; neg = lc.neg });
}

-- ---- RAMs

abbrev pub ram_part : RamCell → RamPart
ram_part ram = record { read = ram.read; write = ram.write }

-- the two tiles of a used RAM
abbrev pub lower_mark : RamCell → Mark
lower_mark ram = record { x = ram.x; y = ram.y; part = Lower (ram_part ram) }

abbrev pub upper_mark : RamCell → Mark
upper_mark ram = record { x = ram.x; y = ram.y + 1; part = Upper (ram_part ram) }

-- ---- pins

-- whether a pin drives its pad with the inverse of its register
abbrev pub sends_inverse : PadData → Bool
sends_inverse sends.Plain = false
sends_inverse sends.Registered = false
sends_inverse sends.Inverted = true
sends_inverse sends.Double = false

-- whether a pin has a register: of its first or its second input, of its output, or of its output enable
abbrev pub is_registered : PortPin → Bool
is_registered pin =
    (pin.reads_0 && takes_by_register pin.takes) || (pin.reads_1 || ((drives pin && has_register pin.sends) || is_by_register pin.drive))

-- a pin that is a port: what it does
abbrev pub pin_part : PortPin → PinPart
pin_part pin = record {
  n = pin.n;
  is_input = has_input pin || has_outside pin;
  is_output = drives pin;
  is_switched = is_switched pin;
  has_register = is_registered pin;
  is_double = (drives pin && is_double pin.sends) || pin.reads_1;
  is_inverted = drives pin && sends_inverse pin.sends;
  is_global = pin.is_global;
}

abbrev pub pin_mark : PortPin → Mark
pin_mark pin = record { x = pin.x; y = pin.y; part = Pin (pin_part pin) }

-- ---- the whole

-- all marks of a database and an image: cells, lower and upper tiles of RAMs, pins
unfoldable pub marks_of : Bool → Database → Configuration → List Mark
marks_of all db image =
    map cell_mark (cells_of db image) ++ map lower_mark (rams_of db image) ++ map upper_mark (rams_of db image) ++ map pin_mark (pins_of all db image)
