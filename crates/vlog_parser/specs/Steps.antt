-- What a step of the code says of an outcome, whatever follows in the text.
use Rattle.std.specs.Prelude.{◌≡◌, ℕ, suc, ◌<◌, ◌≤◌, List, length, Option, Some, None, Result, Ok, Err}
use Rattle.vlog_tokens.specs.Tokens.{Spot, spots_at}
use Rattle.vlog_module.specs.declared.modules.Port.{Port}
use Rattle.vlog_module.specs.Parts.{Parts}
use Rattle.vlog_forms.specs.Outcome.{Fault, items_outcome}
use Rattle.vlog_parser.specs.Seen.{seen_fault}
use Rattle.vlog_parser.specs.declared.fault.ParseRefusal.{ParseRefusal}
use Rattle.vlog_parser.specs.declared.fault.ParseRefusal.TheVariants as refusal
use Rattle.vlog_parser.specs.declared.items.Step.{Step}
use Rattle.vlog_parser.specs.declared.items.Step.TheVariants as step
use Rattle.vlog_parser.specs.Answers.{RefusesAt}

-- an outcome, by what comes of the text after the next item
abbrev pub Outcome : Type 0
Outcome = (Parts → List Spot → Result Parts Fault) → Result Parts Fault

-- one more item ends at an offset, or the module is finished
abbrev pub StepsTo : Outcome → List ℕ → Parts → Step → Type 0
StepsTo outcome bytes m (step.Next end) = (more : Parts → List Spot → Result Parts Fault) → outcome more ≡ more m (spots_at bytes end)
StepsTo outcome bytes m step.Done = (more : Parts → List Spot → Result Parts Fault) → outcome more ≡ Ok m

abbrev pub Steps : Outcome → List ℕ → Parts → Result Step ParseRefusal → Type 0
Steps outcome bytes m (Ok step) = StepsTo outcome bytes m step
Steps outcome bytes m (Err refusal) = (more : Parts → List Spot → Result Parts Fault) → RefusesAt (outcome more) refusal

-- the step ends at this offset, if the module isn't finished
abbrev pub IsAt : ℕ → Step → Type 0
IsAt end (step.Next following) = following ≡ end
IsAt end step.Done = Unit {0}

-- the step ends at an offset after which fewer tokens are left
abbrev pub IsAfter : List ℕ → ℕ → Step → Type 0
IsAfter bytes from (step.Next end) = (end ≤ length bytes) × (length (spots_at bytes end) < length (spots_at bytes from))
IsAfter bytes from step.Done = Unit {0}

-- an item has no fault and is added, or it has this fault
abbrev pub Adds : Option Fault → Parts → Parts → Result (Unit {0}) ParseRefusal → Type 0
Adds found before after (Ok done) = (found ≡ None) × (after ≡ before)
Adds found before after (Err (refusal.Fault one)) = found ≡ Some (seen_fault one)
Adds found before after (Err (refusal.Memory refused)) = Unit {0}

-- what comes of the items from an offset on, after a module as far as it is read
abbrev pub items_from : List ℕ → Parts → ℕ → Result Parts Fault
items_from bytes m from = items_outcome (suc (length (spots_at bytes from))) (length bytes) m (spots_at bytes from)

-- an outcome is this module, or the fault of a refusal
abbrev pub Ends : Result Parts Fault → Parts → Result (Unit {0}) ParseRefusal → Type 0
Ends outcome m (Ok done) = outcome ≡ Ok m
Ends outcome m (Err refusal) = RefusesAt outcome refusal

-- an outcome, by what comes of the text after the declarations of ports
abbrev pub Declarations : Type 0
Declarations = (List Port → List Spot → Result Parts Fault) → Result Parts Fault

-- all ports are declared, and the declarations end at an offset
abbrev pub Declares : Declarations → List ℕ → List Port → Result ℕ ParseRefusal → Type 0
Declares outcome bytes ports (Ok end) = (next : List Port → List Spot → Result Parts Fault) → outcome next ≡ next ports (spots_at bytes end)
Declares outcome bytes ports (Err refusal) = (next : List Port → List Spot → Result Parts Fault) → RefusesAt (outcome next) refusal

-- one more port is declared, and its declaration ends at an offset; `following` is what comes of the others
abbrev pub DeclaresOne : Declarations → (List Port → List Spot → Declarations) → List ℕ → List Port → Result ℕ ParseRefusal → Type 0
DeclaresOne outcome following bytes ports (Ok end) = (next : List Port → List Spot → Result Parts Fault) → outcome next ≡ following ports (spots_at bytes end) next
DeclaresOne outcome following bytes ports (Err refusal) = (next : List Port → List Spot → Result Parts Fault) → RefusesAt (outcome next) refusal
