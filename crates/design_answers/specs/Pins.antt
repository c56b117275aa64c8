-- The pin file of a tool, and the message for its fault.
use Rattle.std.specs.Prelude.{◌≡◌, ℕ, List, [], ◌++◌, codes, decimal, drop, get_or, Option, Some, None}
use Rattle.pin_file.specs.declared.fault.PinFileCause.{PinFileCause}
use Rattle.pin_file.specs.declared.fault.PinFileCause.TheVariants.{Statement, Package, Pin}
use Rattle.pin_file.specs.declared.fault.PinFileFault.{PinFileFault}
use Rattle.pin_file.specs.declared.fault.PinFileFault.TheVariants.{At, Memory}
use Rattle.pin_file.specs.declared.pin_reader.PinReader.{PinReader}
use Rattle.pin_file.specs.Feeding.{StandsFor}
use Rattle.tool_run.specs.Stops.{StopsWith}
use Rattle.tool_run.specs.Tasks.{Refused}
use Rattle.tool_run.specs.declared.tool.Stop.{Stop}
use Rattle.tool_run.specs.declared.tool.Stop.TheVariants.{Memory as OutOfMemory}
use Rattle.tool_inputs.specs.declared.design_input.DesignInput.{DesignInput}
use Rattle.tool_inputs.specs.DesignInput.{fed_input}
use Rattle.design_answers.specs.declared.named_intake.NextText.{NextText}
use Rattle.design_answers.specs.declared.named_intake.NextText.TheVariants as next

-- ---- the fault

abbrev pub pin_cause_text : PinFileCause → List ℕ
pin_cause_text Statement = codes ": Statement"
pin_cause_text Package = codes ": Package"
pin_cause_text Pin = codes ": Pin"

-- the faulty line, and the cause
abbrev pub pin_fault_text : PinFileFault → List ℕ
pin_fault_text (At line cause) = codes "pin file line " ++ decimal line ++ pin_cause_text cause
pin_fault_text (Memory e) = codes "out of memory"

-- a tool stops with the message for the fault of a pin file, or out of memory
abbrev pub StopsForPins : PinFileFault → Stop → Type 0
StopsForPins (At line cause) stop = StopsWith (Refused (pin_fault_text (At line cause))) stop
StopsForPins (Memory e) stop = stop ≡ OutOfMemory

-- ---- the texts: the pin file, the database and the image

-- the pin file among the texts
abbrev pub pin_text : List (List ℕ) → List ℕ
pin_text texts = get_or texts 0 []

-- the database among them
abbrev pub database_text : List (List ℕ) → List ℕ
database_text texts = get_or texts 1 []

-- the texts without the pin file
abbrev pub texts_without_pins : List (List ℕ) → List (List ℕ)
texts_without_pins texts = drop 1 texts

-- ---- what was taken

-- the reader has read the text of a database, for the package of this name; there is no reader if memory was out
abbrev pub HasPins : List ℕ → List ℕ → Option PinReader → Type 0
HasPins package_name text (Some pins) = StandsFor package_name text pins
HasPins package_name text None = Unit {0}

-- while the pin file is taken, no byte of the next text counts towards its limit
abbrev pub IsIdle : NextText → DesignInput → Type 0
IsIdle at input = at ≡ next.PinFile → fed_input input ≡ 0
