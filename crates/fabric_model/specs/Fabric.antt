-- A configured fabric: its parts, from a database and an image.
use Rattle.std.specs.Prelude.{ℕ, Bool, false, List, [], ◌∷◌, ◌++◌, map, filter}
use Rattle.ice_image.specs.Configuration.{Configuration}
use Rattle.chipdb_reader.specs.Database.{Database, Link}
use Rattle.fabric_model.specs.declared.cell.LogicCell.{LogicCell}
use Rattle.fabric_model.specs.declared.cell.CarrySet.{CarrySet}
use Rattle.fabric_model.specs.declared.lut_inputs.LutInputs.{LutInputs}
use Rattle.fabric_model.specs.declared.options.FabricOptions.{FabricOptions}
use Rattle.fabric_model.specs.declared.input_port.InputPort.{InputPort}
use Rattle.fabric_model.specs.declared.lut_inputs.LutInputs.TheVariants as read
use Rattle.fabric_model.specs.declared.register.Register.{Register}
use Rattle.fabric_model.specs.declared.ram.RamCell.{RamCell}
use Rattle.fabric_model.specs.declared.pin.Pin.{Pin}
use Rattle.fabric_model.specs.declared.pin.GlobalNet.{GlobalNet}
use Rattle.fabric_model.specs.declared.pll.PllSource.{PllSource}
unfoldable pub use Rattle.fabric_model.specs.Numbered.{numbered_from, numbered}
use Rattle.fabric_model.specs.On.{is_link_on}
use Rattle.fabric_model.specs.Cells.{cells_of, sets_of}
use Rattle.fabric_model.specs.Rams.{rams_of, over_rams, start_words}
use Rattle.fabric_model.specs.Pins.{pins_of, net_count, globals_of}
use Rattle.fabric_model.specs.PllPorts.{pll_ports}
use Rattle.fabric_model.specs.InputPorts.{inputs_with}
use Rattle.fabric_model.specs.Registers.{flips_among, registers_of, pin_registers_of}

-- a buffer that is on, by its index among the database's buffers, and its two nets
pub record Buffer : Type 0 where
  pub line : ℕ
  pub src : ℕ
  pub dst : ℕ

-- The nets are the numbers below `nets`. Each list is in the order of tiles, but joins and buffers are in the order of the database, and global
-- nets by their networks. The registers are the flip-flops of the cells, then the registers of pins. `plls` are the outputs of PLLs that
-- are input ports. `lut_inputs` says which inputs the LUTs of the cells read, and `register_clocks` whether registers may be clocks.
pub record Fabric : Type 0 where
  pub nets : ℕ
  pub joins : List (ℕ × ℕ)
  pub buffers : List Buffer
  pub pins : List Pin
  pub plls : List PllSource
  pub globals : List GlobalNet
  pub lut_inputs : LutInputs
  pub register_clocks : Bool
  pub lcs : List LogicCell
  pub registers : List Register
  pub sets : List CarrySet
  pub rams : List RamCell
  pub start : List (List (List Bool))

-- ---- links that are on

-- the two nets of each routing that is on
unfoldable pub joins_of : Database → Configuration → List (ℕ × ℕ)
joins_of db image = map (λ link. (link.src, link.dst)) (filter (is_link_on image) db.routings)

abbrev pub buffer_of : ℕ × Link → Buffer
buffer_of place = record { line = place.0; src = place.1.src; dst = place.1.dst }

-- the buffers that are on
unfoldable pub buffers_of : Database → Configuration → List Buffer
buffers_of db image = map buffer_of (filter (λ place. is_link_on image place.1) (numbered db.buffers))

-- ---- the whole

-- what a database and an image configure, with these options
unfoldable pub fabric_with : FabricOptions → Database → Configuration → Fabric
fabric_with options db image = record {
  nets = net_count options.all_pins db image;
  joins = joins_of db image;
  buffers = buffers_of db image;
  pins = pins_of options.all_pins db image;
  plls = pll_ports options.all_pins db image;
  globals = globals_of options.all_pins db image;
  lut_inputs = options.lut_inputs;
  register_clocks = options.register_clocks;
  lcs = cells_of db image;
  registers = registers_of options.lut_inputs (cells_of db image)
      ++ pin_registers_of (flips_among (cells_of db image)) (pins_of options.all_pins db image);
  sets = sets_of db image;
  rams = rams_of db image;
  start = over_rams db image (λ x y. start_words image x y ∷ []);
}

-- the same options, but the LUTs read all of their inputs
abbrev pub reading_all : FabricOptions → FabricOptions
reading_all options = record { lut_inputs = read.All; all_pins = options.all_pins; register_clocks = options.register_clocks }

-- no options: the LUTs read all of their inputs, not pins of every kind are taken, and no register is a clock
abbrev pub no_options : FabricOptions
no_options = record { lut_inputs = read.All; all_pins = false; register_clocks = false }

-- what a database and an image configure, without options
abbrev pub fabric_of : Database → Configuration → Fabric
fabric_of db image = fabric_with no_options db image

-- ---- parts of the parts

-- the number of flip-flops, which come before the registers of pins
abbrev pub flip_count : Fabric → ℕ
flip_count fabric = flips_among fabric.lcs

-- the input ports, whose values events give
abbrev pub inputs_of : Fabric → List InputPort
inputs_of fabric = inputs_with fabric.pins fabric.plls
