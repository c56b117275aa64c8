-- When the parts that are kept are the parts of a fabric.
use Rattle.std.specs.Prelude.{◌≡◌, ℕ, length, map}
use Rattle.fabric_model.specs.Joins.{class_of}
use Rattle.fabric_model.specs.Fabric.{Fabric, Buffer}
use Rattle.fabric_model.specs.Within.{IsClosed}
use Rattle.fabric_model.specs.Links.{class_in}
use Rattle.fabric_wiring.specs.declared.parts.Buffer.{Buffer as KeptBuffer}
use Rattle.fabric_wiring.specs.declared.parts.Parts.{Parts}

-- what a kept buffer says
abbrev pub buffer_of : KeptBuffer → Buffer
buffer_of buffer = record { line = buffer.line; src = buffer.src; dst = buffer.dst }

-- Parts are the parts of a fabric if each list is that of the fabric, the LUTs read the same inputs, registers may be clocks in both or in
-- neither, and each net has the class of joined nets that the routings of the fabric give it. All nets that such a fabric names are below the
-- number of its nets.
pub record ArePartsOf (fabric : Fabric) (parts : Parts) : Type 0 where
  pub within : IsClosed fabric
  pub nets : length parts.links.classes ≡ fabric.nets
  pub classes : (net : ℕ) → class_in parts.links net ≡ class_of fabric.joins net
  pub buffers : map buffer_of parts.buffers.items ≡ fabric.buffers
  pub pins : parts.pins.items ≡ fabric.pins
  pub plls : parts.plls.items ≡ fabric.plls
  pub globals : parts.globals.items ≡ fabric.globals
  pub lut_inputs : parts.options.lut_inputs ≡ fabric.lut_inputs
  pub register_clocks : parts.options.register_clocks ≡ fabric.register_clocks
  pub lcs : parts.lcs.items ≡ fabric.lcs
  pub registers : parts.registers.items ≡ fabric.registers
  pub sets : parts.sets.items ≡ fabric.sets
  pub rams : parts.rams.items ≡ fabric.rams
