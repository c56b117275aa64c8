-- A stop that tells the fault of a boot file.
use Rattle.std.proofs.Common.{ℕ, List, sym, ap, ◌∙◌}
use Rattle.std.specs.Prelude.{Option}
use Rattle.boot_file.specs.Faults.{split_fault}
use Rattle.boot_file.specs.Reading.{IsDecided, boot_read_of}
use Rattle.tool_run.specs.Stops.{StopsWith}
use Rattle.tool_run.specs.Tasks.{Refused as Refuses}
use Rattle.tool_run.specs.declared.tool.Stop.{Stop}
use Rattle.tool_run.specs.declared.tool.Stop.TheVariants.{Refused, Quiet, UsageError, Memory}
use Rattle.bitstream_tools.specs.Split.{split_answer}
use Rattle.bitstream_tools.specs.SplitFaults.{StopsSplit}

-- the tool stops with it, whatever is wanted
pub stops-told : (bytes : List ℕ) (wanted : Option ℕ) (stop : Stop) → IsDecided bytes → StopsSplit (split_fault bytes) stop → StopsWith (split_answer wanted (boot_read_of bytes)) stop
stops-told bytes wanted (Refused refusal) decided told = ap (split_answer wanted) ((decided.refused told.0).0 told.1) ∙ ap Refuses (sym told.2)
stops-told bytes wanted Quiet decided told = absurd told
stops-told bytes wanted (UsageError refusal) decided told = absurd told
stops-told bytes wanted Memory decided told = tt
