use Rattle.std.proofs.Common.{List, ap, ap₂, sym, ℕ}
use Rattle.std.specs.Prelude.{Option}
use Rattle.std.specs.Borrow.{Bor}
use Rattle.tool_run.specs.Needs.{text_of}
use Rattle.tool_run.proofs.Same.{Does-same}
use Rattle.module_tools.specs.Vlogrun.{task_for}
use Rattle.module_tools.specs.declared.told.Told.{Told}
use Rattle.module_tools.proofs.running.run_files.Goals as goal

pub returns-in-Some : goal.returns-in-Some
returns-in-Some g c =
    Does-same _ _ _ _ _ _
    (ap₂ (λ (told : Told) (names : Option (Bor (List ℕ))). task_for told c.args.request.form (text_of names) c.args.request.«module».now (text_of c.args.request.events))
    (sym c.in-Waves.is) (sym c.in-Some.is))
    c.trace_named.ensures

pub returns-in-None : goal.returns-in-None
returns-in-None g c =
    Does-same _ _ _ _ _ _
    (ap₂ (λ (told : Told) (names : Option (Bor (List ℕ))). task_for told c.args.request.form (text_of names) c.args.request.«module».now (text_of c.args.request.events))
    (sym c.in-Waves.is) (sym c.in-None.is))
    c.run_plain.ensures

pub returns-in-Lines : goal.returns-in-Lines
returns-in-Lines g c =
    Does-same _ _ _ _ _ _
    (ap (λ (told : Told). task_for told c.args.request.form (text_of c.args.request.names) c.args.request.«module».now (text_of c.args.request.events)) (sym c.in-Lines.is))
    c.run_plain-in-Lines.ensures
