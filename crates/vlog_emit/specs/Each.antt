-- What is known of the fabrics whose design is kept.
use Rattle.std.specs.Prelude.{ℕ, ◌<◌, All, length}
use Rattle.fabric_model.specs.declared.signal.Signal.{Signal}
use Rattle.fabric_model.specs.declared.signal.Signal.TheVariants as signal
use Rattle.fabric_model.specs.declared.register.LutTable.{LutTable}
use Rattle.fabric_model.specs.declared.register.Register.{Register}
use Rattle.fabric_model.specs.declared.pll.PllSource.{PllSource}
use Rattle.fabric_model.specs.InputPorts.{pll_input}
use Rattle.fabric_model.specs.Fabric.{Fabric}
use Rattle.fabric_model.specs.Within.{IsNetIn}
use Rattle.fabric_wiring.specs.declared.drive.Rule.{Rule}
use Rattle.fabric_wiring.specs.declared.drive.Rule.TheVariants.{PinBit, Constant, Input, TableEntry, MajorityOf, RegisterBit, ReadBit, Copied}
use Rattle.fabric.specs.Kept.{Kept, IsKeptOf}
use Rattle.vlog_module.specs.declared.modules.Port.{Port}
use Rattle.fabric_module.specs.Written.{input_port}

-- something holds of each fabric whose design is kept
abbrev pub EachFabric : Kept → (Fabric → Type 0) → Type 0
EachFabric design Holds = (fabric : Fabric) → IsKeptOf fabric design → Holds fabric

-- the number of nets
abbrev pub nets_in : Kept → ℕ
nets_in design = length design.drivers.places

-- the net, the input port or the register that an input reads exists
abbrev pub IsSignalIn : Kept → Signal → Type 0
IsSignalIn design (signal.Net net otherwise) = IsNetIn (nets_in design) net
IsSignalIn design (signal.Input place) = place < length design.inputs
IsSignalIn design (signal.Register place) = place < length design.parts.registers.items

-- what the inputs of a LUT read exists
abbrev pub IsTableIn : Kept → LutTable → Type 0
IsTableIn design table = All (IsSignalIn design) table.ins

-- what a register reads exists
pub record IsRegisterIn (design : Kept) (register : Register) : Type 0 where
  pub clk : IsNetIn (nets_in design) register.clk
  pub enable : IsSignalIn design register.enable
  pub sr : IsNetIn (nets_in design) register.sr
  pub table : IsTableIn design register.table

-- the input ports, registers, RAMs and nets of a rule exist
abbrev pub IsRuleIn : Kept → Rule → Type 0
IsRuleIn design (PinBit place) = place < length design.inputs
IsRuleIn design (Constant bit) = Unit {0}
IsRuleIn design (Input source) = IsSignalIn design source
IsRuleIn design (TableEntry table) = IsTableIn design table
IsRuleIn design (MajorityOf a b c) = IsNetIn (nets_in design) a × IsNetIn (nets_in design) b × IsNetIn (nets_in design) c
IsRuleIn design (RegisterBit place register) = IsRegisterIn design register
IsRuleIn design (ReadBit ram bit) = ram < length design.parts.rams.items
IsRuleIn design (Copied net) = net < nets_in design

-- the port of an output of a PLL
abbrev pub pll_port : PllSource → Port
pll_port source = input_port (pll_input source)
