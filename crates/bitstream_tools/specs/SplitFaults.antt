-- The messages for faults of a boot file.
use Rattle.std.specs.Prelude.{◌≡◌, ℕ, List, ◌++◌, codes, decimal, Option, Some}
use Rattle.bin_stream.specs.declared.fault.BinFault.TheVariants.{At, Memory as StreamMemory}
use Rattle.boot_file.specs.declared.split_fault.SplitFault.{SplitFault}
use Rattle.boot_file.specs.declared.split_fault.SplitFault.TheVariants.{Short, Header, Address, PowerOn, Image, Memory}
use Rattle.tool_run.specs.Lines.{refusal_text}
use Rattle.tool_run.specs.declared.tool.Stop.{Stop}
use Rattle.tool_run.specs.declared.tool.Stop.TheVariants.{Refused, Quiet, UsageError, Memory as StopsMemory}
use Rattle.tool_inputs.specs.Faults.{bin_fault_text}

abbrev pub split_fault_text : SplitFault → List ℕ
split_fault_text (Short length) = codes "Short " ++ decimal length
split_fault_text (Header index offset) = codes "header " ++ decimal index ++ codes ": offset " ++ decimal offset
split_fault_text (Address index address) = codes "Address " ++ decimal index
split_fault_text (PowerOn address) = codes "PowerOn"
split_fault_text (Image index (At offset cause)) = codes "image " ++ decimal index ++ codes ": " ++ bin_fault_text offset cause
split_fault_text (Image index (StreamMemory e)) = codes "out of memory"
split_fault_text (Memory e) = codes "out of memory"

-- a stop tells the fault that was found, or that memory is out
abbrev pub StopsSplit : Option SplitFault → Stop → Type 0
StopsSplit found (Refused refusal) = (fault : SplitFault) × (found ≡ Some fault) × (refusal_text refusal ≡ split_fault_text fault)
StopsSplit found Quiet = ⊥
StopsSplit found (UsageError refusal) = ⊥
StopsSplit found StopsMemory = Unit {0}
