-- The messages for faults of explaining, of comparing and of counting.
use Rattle.std.specs.Prelude.{ℕ, List, ◌++◌, codes, decimal}
use Rattle.fabric.specs.declared.fault.FabricFault.{FabricFault}
use Rattle.fabric.specs.declared.fault.FabricFault.TheVariants.{Device as DesignDevice, Memory as DesignMemory}
use Rattle.fabric.specs.Causes.{of_plls, of_pins, of_rams}
use Rattle.image_stat.specs.declared.fault.StatFault.{StatFault}
use Rattle.image_stat.specs.declared.fault.StatFault.TheVariants.{Device as CountsDevice, Plls, Pins, Rams, Memory as CountsMemory}
use Rattle.image_diff.specs.declared.fault.DiffFault.{DiffFault}
use Rattle.image_diff.specs.declared.fault.DiffFault.TheVariants.{Database, Images, Memory as DiffMemory}
use Rattle.image_explain.specs.declared.fault.ExplainFault.{ExplainFault}
use Rattle.image_explain.specs.declared.fault.ExplainFault.TheVariants.{Device as OtherDevice, NoTile, Memory}

-- the message if nothing is explained
abbrev pub explain_fault_text : ExplainFault → List ℕ
explain_fault_text OtherDevice = codes "Device"
explain_fault_text (NoTile x y) = codes "tile " ++ decimal x ++ codes " " ++ decimal y ++ codes ": NoTile"
explain_fault_text (Memory e) = codes "out of memory"

-- the message if two images aren't compared
abbrev pub diff_fault_text : DiffFault → List ℕ
diff_fault_text Database = codes "Device"
diff_fault_text Images = codes "Images"
diff_fault_text (DiffMemory e) = codes "out of memory"

-- a fault of counting as the same fault of a design, whose message is told
abbrev pub of_counts : StatFault → FabricFault
of_counts CountsDevice = DesignDevice
of_counts (Plls fault) = of_plls fault
of_counts (Pins fault) = of_pins fault
of_counts (Rams fault) = of_rams fault
of_counts (CountsMemory failed) = DesignMemory failed
