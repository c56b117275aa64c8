-- When a design is the design of a database and an image.
use Rattle.std.specs.Prelude.{◌≡◌, ℕ, ◌^◌, ◌≤◌, ◌==◌, List, find, slice_get, option_map, option_and_then, Option, Some, None}
use Rattle.ice_image.specs.Configuration.{Configuration}
use Rattle.chipdb_reader.specs.Database.{Database}
use Rattle.chipdb_reader.specs.Fit.{IsFit}
use Rattle.chipdb_reader.specs.declared.items.PinXy.{PinXy}
use Rattle.fabric_model.specs.declared.input_port.InputPort.{InputPort}
use Rattle.fabric_model.specs.declared.input_port.InputPort.TheVariants.{Pad, Outside, Pll}
use Rattle.fabric_model.specs.Fabric.{fabric_with}
use Rattle.fabric_model.specs.Clocks.{ClockEnd}
use Rattle.fabric_model.specs.Clocks.ClockEnd.{at_pin, at_register, still, logic}
use Rattle.fabric_model.specs.Faults.{design_fault}
use Rattle.fabric_wiring.specs.declared.parts.Buffer.{Buffer}
use Rattle.fabric.specs.declared.design_type.LinkEnds.{LinkEnds}
use Rattle.fabric.specs.Kept.{Kept, IsKeptOf}

-- A design is the design of a database and an image if these two have no fault, and it keeps what they configure, both with the options of
-- the design.
pub record IsDesignOf (db : Database) (image : Configuration) (design : Kept) : Type 0 where
  pub fit : IsFit db
  pub few : (fabric_with design.parts.options db image).nets ≤ 2 ^ 64
  pub taken : design_fault design.parts.options db image ≡ None
  pub kept : IsKeptOf (fabric_with design.parts.options db image) design

-- a design of some database and image
abbrev pub IsDesign : Kept → Type 0
IsDesign design = (db : Database) × (image : Configuration) × IsDesignOf db image design

-- the pin of an input port, if it is that of a pin
abbrev pub pin_of : InputPort → Option PinXy
pin_of (Pad x y n) = Some (record { x = x; y = y; n = n })
pin_of (Outside x y n) = Some (record { x = x; y = y; n = n })
pin_of (Pll x y output) = None

-- the input port at which a clock chain ends, if it ends at one
abbrev pub end_input : ClockEnd → Option ℕ
end_input (at_pin place turned) = Some place
end_input (at_register class place turned) = None
end_input (still bit) = None
end_input logic = None

-- the pin at whose input port a clock chain ends, if it ends at one
abbrev pub end_pin : List InputPort → ClockEnd → Option PinXy
end_pin inputs (at_pin place turned) = option_and_then pin_of (slice_get inputs place)
end_pin inputs (at_register class place turned) = None
end_pin inputs (still bit) = None
end_pin inputs logic = None

-- the two nets of a buffer
abbrev pub ends_of : Buffer → LinkEnds
ends_of buffer = record { src = buffer.src; dst = buffer.dst }

-- the two nets of the buffer of a line, if the buffer is on
abbrev pub link_in : Kept → ℕ → Option LinkEnds
link_in design line = option_map ends_of (find (λ buffer. buffer.line == line) design.parts.buffers.items)
