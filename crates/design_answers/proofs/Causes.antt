-- The cause of a refusal.
use Rattle.std.proofs.Common.{◌≡◌, ◌∙◌}
use Rattle.std.specs.Prelude.{Option, Some}
use Rattle.plane_map.specs.declared.device.DeviceName.{DeviceName}
use Rattle.fabric_model.specs.Fabric.{Fabric}
use Rattle.fabric_model.specs.Faults.{Fault}
use Rattle.fabric.specs.declared.fault.FabricFault.{FabricFault}
use Rattle.fabric.specs.declared.fault.FabricFault.TheVariants.{Device, Pll, PinMode, Cascade, TwoDrivers, Loop, Clock, Memory as OutOfMemory}
use Rattle.fabric.specs.Faults.{IsCause}
use Rattle.design_answers.specs.Faults.{told_fault}

-- the cause of a refusal is the fault that it tells
pub cause-told : (device : DeviceName) (fabric : Fabric) (cause : Option Fault) (fault : FabricFault) (one : Fault) → IsCause device fabric cause fault → told_fault fault ≡ Some one → cause ≡ Some one
cause-told device fabric cause Device one is told = is ∙ told
cause-told device fabric cause (Pll x y) one is told = is ∙ told
cause-told device fabric cause (PinMode x y pio pintype) one is told = is ∙ told
cause-told device fabric cause (Cascade x y) one is told = is ∙ told
cause-told device fabric cause (TwoDrivers net first second) one is told = is.0 ∙ told
cause-told device fabric cause (Loop net cycle) one is told = is.0 ∙ told
cause-told device fabric cause (Clock x y user net) one is told = is.0 ∙ told
cause-told device fabric cause (OutOfMemory failed) one is told = cc
