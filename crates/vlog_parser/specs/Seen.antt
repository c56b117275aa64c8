-- Uses, readings and faults as the definitions have them, made from those of the code.
use Rattle.std.specs.Prelude.{List, [], ◌∷◌, Option, Some, None}
use Rattle.vlog_module.specs.Uses.{Use}
use Rattle.vlog_module.specs.Uses.Use.{Declares, Reads, ReadsBit, Clocks, Takes, Assigns, Chooses, AssignsAsync, Starts}
use Rattle.vlog_module.specs.WellFormed.{Reading}
use Rattle.vlog_module.specs.WellFormed.Reading.{plainly, unless}
use Rattle.vlog_forms.specs.Outcome.{Fault}
use Rattle.vlog_parser.specs.declared.uses.Use as kept_use
use Rattle.vlog_parser.specs.declared.uses.Use.TheVariants as used
use Rattle.vlog_parser.specs.declared.readings.Reading as kept_reading
use Rattle.vlog_parser.specs.declared.readings.Reading.TheVariants as read
use Rattle.vlog_parser.specs.declared.name_faults.Fault as kept_fault

-- the use for which a use of the code stands
abbrev pub seen_use : kept_use.Use → Use
seen_use (used.Declares sort name) = Declares sort name.now
seen_use (used.Reads name) = Reads name.now
seen_use (used.ReadsBit name k) = ReadsBit name.now k
seen_use (used.Clocks name) = Clocks name.now
seen_use (used.Takes sort name) = Takes sort name.now
seen_use (used.Assigns sort name) = Assigns sort name.now
seen_use (used.Chooses reset name) = Chooses reset.wire.now reset.set name.now
seen_use (used.AssignsAsync reset name) = AssignsAsync reset.wire.now reset.set name.now
seen_use (used.Starts name k) = Starts name.now k

-- the uses of a value: one or none
abbrev pub seen_uses : Option kept_use.Use → List Use
seen_uses (Some one) = seen_use one ∷ []
seen_uses None = []

-- how a name is read; if it is read in several ways, it counts as read as it is
abbrev pub seen_reading : kept_reading.Reading → Reading
seen_reading read.Plainly = plainly
seen_reading (read.Unless reset) = unless reset.wire.now reset.set

-- the fault for which a fault of the code stands
abbrev pub seen_fault : kept_fault.Fault → Fault
seen_fault one = record { offset = one.offset; cause = one.cause }
