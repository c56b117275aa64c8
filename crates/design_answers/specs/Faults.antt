-- The messages for a database and an image whose design isn't taken.
use Rattle.std.specs.Prelude.{◌≡◌, ℕ, List, ◌++◌, codes, decimal, Option, Some, None}
use Rattle.fabric_model.specs.declared.driver.ClockUser.{ClockUser}
use Rattle.fabric_model.specs.declared.driver.ClockUser.TheVariants as user
use Rattle.fabric_model.specs.Faults.{Fault}
use Rattle.fabric.specs.declared.fault.FabricFault.{FabricFault}
use Rattle.fabric.specs.declared.fault.FabricFault.TheVariants.{Device, Pll, PinMode, Cascade, TwoDrivers, Loop, Clock, Memory as OutOfMemory}
use Rattle.tool_run.specs.Lines.{refusal_text, six_digits}
use Rattle.tool_run.specs.declared.tool.Stop.{Stop}
use Rattle.tool_run.specs.declared.tool.Stop.TheVariants.{Refused, Memory}

abbrev pub tile_text : ℕ → ℕ → List ℕ
tile_text x y = codes "tile " ++ decimal x ++ codes " " ++ decimal y

abbrev pub net_text : ℕ → List ℕ
net_text net = codes "net " ++ decimal net

-- the six bits of a pin's type (`PIN_TYPE` of `SB_IO` in Lattice's iCE technology library)
abbrev pub pintype_text : ℕ → List ℕ
pintype_text pintype = codes ": PinMode " ++ six_digits pintype

-- a pin and a cell of a tile
abbrev pub pin_text : ℕ → List ℕ
pin_text n = codes " pin " ++ decimal n

abbrev pub cell_text : ℕ → List ℕ
cell_text i = codes " cell " ++ decimal i

-- the net of a clock
abbrev pub clock_text : ℕ → List ℕ
clock_text net = codes ": Clock net " ++ decimal net

-- what a clock drives: the flip-flop of a cell, the register of an input or output pin, or the read or write port of a RAM
abbrev pub user_text : ClockUser → List ℕ
user_text (user.Cell i) = cell_text i
user_text (user.Input n) = codes " input " ++ decimal n
user_text (user.Output n) = codes " output " ++ decimal n
user_text user.Read = codes " read"
user_text user.Write = codes " write"

-- the place of the fault, and the cause
abbrev pub design_fault_text : Fault → List ℕ
design_fault_text Fault.other_device = codes "Device"
design_fault_text (Fault.pll x y) = tile_text x y ++ codes ": Pll"
design_fault_text (Fault.pin_mode x y n pintype) = tile_text x y ++ pin_text n ++ pintype_text pintype
design_fault_text (Fault.cascade x y) = tile_text x y ++ codes ": Cascade"
design_fault_text (Fault.two_drivers net first second) = net_text net ++ codes ": TwoDrivers"
design_fault_text (Fault.loop net) = net_text net ++ codes ": Loop"
design_fault_text (Fault.clock x y user net) = tile_text x y ++ user_text user ++ clock_text net

-- the fault that is told, and none if memory was out
abbrev pub told_fault : FabricFault → Option Fault
told_fault Device = Some Fault.other_device
told_fault (Pll x y) = Some (Fault.pll x y)
told_fault (PinMode x y pio pintype) = Some (Fault.pin_mode x y pio pintype)
told_fault (Cascade x y) = Some (Fault.cascade x y)
told_fault (TwoDrivers net first second) = Some (Fault.two_drivers net first second)
told_fault (Loop net cycle) = Some (Fault.loop net)
told_fault (Clock x y user net) = Some (Fault.clock x y user net)
told_fault (OutOfMemory failed) = None

-- a tool stops with a refusal that tells the fault; if there is none, it stops out of memory
abbrev pub StopsFor : Option Fault → Stop → Type 0
StopsFor (Some fault) (Refused refusal) = design_fault_text fault ≡ refusal_text refusal
StopsFor None Memory = Unit {0}
StopsFor fault stop = ⊥
