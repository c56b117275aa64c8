-- The messages for faults of a module's text, of lists of events and of lists of names.
use Rattle.std.specs.Prelude.{ℕ, List, ◌++◌, codes, decimal}
use Rattle.vlog_forms.specs.declared.fault.VlogCause.{VlogCause}
use Rattle.vlog_forms.specs.declared.fault.VlogCause.TheVariants.{Syntax, Order, Undeclared, AssignedTwice}
use Rattle.vlog_forms.specs.Outcome.{Fault}
use Rattle.vlog_run.specs.declared.event.EventFault.{EventFault}
use Rattle.vlog_run.specs.declared.event.EventFault.TheVariants.{Form, Pin, Memory}
use Rattle.long_events.specs.declared.fault.LongFault.{LongFault}
use Rattle.long_events.specs.declared.fault.LongFault.TheVariants as fault
use Rattle.wire_names.specs.declared.fault.WireNamesCause.{WireNamesCause}
use Rattle.wire_names.specs.declared.fault.WireNamesCause.TheVariants as cause
use Rattle.wire_names.specs.declared.fault.WireNamesFault.{WireNamesFault}
use Rattle.wire_names.specs.declared.fault.WireNamesFault.TheVariants.{At, Memory as OutOfMemory}

abbrev pub vlog_cause_text : VlogCause → List ℕ
vlog_cause_text Syntax = codes "Syntax"
vlog_cause_text Order = codes "Order"
vlog_cause_text Undeclared = codes "Undeclared"
vlog_cause_text AssignedTwice = codes "AssignedTwice"

-- the offset of the token at fault, and the cause
abbrev pub vlog_fault_text : Fault → List ℕ
vlog_fault_text fault = codes "offset " ++ decimal fault.offset ++ codes ": " ++ vlog_cause_text fault.cause

-- the faulty line, and the cause
abbrev pub event_fault_text : EventFault → List ℕ
event_fault_text (Form line) = codes "line " ++ decimal line ++ codes ": Form"
event_fault_text (Pin line) = codes "line " ++ decimal line ++ codes ": Pin"
event_fault_text (Memory e) = codes "out of memory"

-- the message for a list of either form
abbrev pub list_fault_text : LongFault → List ℕ
list_fault_text (fault.Event told) = event_fault_text told
list_fault_text (fault.Repeat line) = codes "line " ++ decimal line ++ codes ": Repeat"
list_fault_text fault.Long = codes "Long"

-- the message with the name of the file before it, for a tool that takes several lists
abbrev pub file_fault_text : List ℕ → LongFault → List ℕ
file_fault_text name told = name ++ codes " " ++ list_fault_text told

abbrev pub names_cause_text : WireNamesCause → List ℕ
names_cause_text cause.Form = codes ": Form"
names_cause_text cause.Wire = codes ": Wire"
names_cause_text cause.WireTwice = codes ": WireTwice"
names_cause_text cause.NameTwice = codes ": NameTwice"

-- the faulty line of a list of names, and the cause
abbrev pub names_fault_text : WireNamesFault → List ℕ
names_fault_text (At line cause) = codes "names line " ++ decimal line ++ names_cause_text cause
names_fault_text (OutOfMemory e) = codes "out of memory"
