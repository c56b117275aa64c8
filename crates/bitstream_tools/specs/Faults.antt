-- The messages for faults of joining, of files of words and of replacing.
use Rattle.std.specs.Prelude.{ℕ, List, ◌++◌, codes, decimal}
use Rattle.asc_text.specs.declared.fault.AscFault.TheVariants.{At as TextAt, Memory as TextMemory}
use Rattle.bram_replace.specs.declared.fault.HexFault.{HexFault}
use Rattle.bram_replace.specs.declared.fault.HexFault.TheVariants.{Digit, Width, Depth, Memory as HexMemory}
use Rattle.bram_replace.specs.declared.fault.BramFault.{BramFault}
use Rattle.bram_replace.specs.declared.fault.BramFault.TheVariants.{Shape, SameColumns, Asc, Memory as BramMemory}
use Rattle.boot_file.specs.declared.multi_fault.MultiFault.{MultiFault}
use Rattle.boot_file.specs.declared.multi_fault.MultiFault.TheVariants.{NoImage, TooMany, Align, PowerOn, Address, Memory as OutOfMemory}
use Rattle.tool_inputs.specs.Faults.{asc_fault_text}

-- ---- a fault of images that are joined

abbrev pub multi_fault_text : MultiFault → List ℕ
multi_fault_text NoImage = codes "NoImage"
multi_fault_text (TooMany n) = codes "TooMany " ++ decimal n
multi_fault_text (Align n) = codes "Align " ++ decimal n
multi_fault_text (PowerOn index) = codes "PowerOn " ++ decimal index
multi_fault_text (Address index) = codes "Address " ++ decimal index
multi_fault_text (OutOfMemory e) = codes "out of memory"

-- ---- a fault of files of words, and of replacing

-- a fault of a file of words; the name says which file
abbrev pub hex_fault_text : List ℕ → HexFault → List ℕ
hex_fault_text name (Digit line) = name ++ codes " line " ++ decimal line ++ codes ": Digit"
hex_fault_text name (Width line) = name ++ codes " line " ++ decimal line ++ codes ": Width"
hex_fault_text name Depth = name ++ codes ": Depth"
hex_fault_text name (HexMemory e) = name ++ codes ": out of memory"

-- why the contents of RAMs aren't replaced
abbrev pub bram_fault_text : BramFault → List ℕ
bram_fault_text Shape = codes "Shape"
bram_fault_text (SameColumns first second) = codes "SameColumns " ++ decimal first ++ codes " " ++ decimal second
bram_fault_text (Asc (TextAt line tile cause)) = asc_fault_text line tile cause
bram_fault_text (Asc (TextMemory e)) = codes "out of memory"
bram_fault_text (BramMemory e) = codes "out of memory"
