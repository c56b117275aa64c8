-- What the code answers, by the outcome of a text.
use Rattle.std.specs.Prelude.{◌≡◌, Option, Some, Result, Ok, Err}
use Rattle.vlog_module.specs.Parts.{Parts}
use Rattle.vlog_forms.specs.declared.fault.VlogCause.TheVariants.{Syntax}
use Rattle.vlog_forms.specs.Outcome.{Fault, fault}
use Rattle.vlog_form_parser.specs.declared.stop.ReadStop.{ReadStop}
use Rattle.vlog_form_parser.specs.declared.stop.ReadStop.TheVariants as stop
use Rattle.vlog_parser.specs.Seen.{seen_fault}
use Rattle.vlog_parser.specs.declared.fault.ParseRefusal.{ParseRefusal}
use Rattle.vlog_parser.specs.declared.fault.ParseRefusal.TheVariants as refusal
use Rattle.vlog_parser.specs.declared.fault.VlogFault.{VlogFault}
use Rattle.vlog_parser.specs.declared.fault.VlogFault.TheVariants as answer

-- the answer to a text that spells a module: that module, or out of memory
abbrev pub Takes : Parts → Result Parts VlogFault → Type 0
Takes m (Ok taken) = taken ≡ m
Takes m (Err (answer.At offset cause)) = ⊥
Takes m (Err (answer.Memory refused)) = Unit {0}

-- the fault that is answered is the first fault of the text; out of memory says nothing of the text
abbrev pub Tells : Option Fault → VlogFault → Type 0
Tells found (answer.At offset cause) = found ≡ Some (fault offset cause)
Tells found (answer.Memory refused) = Unit {0}

-- a refusal is the fault of an outcome, or out of memory
abbrev pub RefusesAt : {A : Type 0} → Result A Fault → ParseRefusal → Type 0
RefusesAt outcome (refusal.Fault one) = outcome ≡ Err (seen_fault one)
RefusesAt outcome (refusal.Memory refused) = Unit {0}

-- a token that doesn't fit is a syntax fault
abbrev pub refusal_of : ReadStop → ParseRefusal
refusal_of (stop.Stuck at) = refusal.Fault (record { offset = at; cause = Syntax })
refusal_of (stop.Memory refused) = refusal.Memory refused
