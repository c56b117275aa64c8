use Rattle.std.proofs.Common.{ap, sym}
use Rattle.tool_run.specs.Needs.{text_of}
use Rattle.tool_run.proofs.Same.{Does-same}
use Rattle.module_tools.specs.Vlogrun.{run_task}
use Rattle.module_tools.specs.declared.told.Told.{Told}
use Rattle.module_tools.proofs.running.run_plain.Goals as goal

pub returns-in-Lines : goal.returns-in-Lines
returns-in-Lines g c = Does-same _ _ _ _ _ _ (ap (λ (told : Told). run_task told c.args.form c.args.«module».now (text_of c.args.events)) (sym c.in-Lines.is)) c.perform.ensures

pub returns-in-Waves : goal.returns-in-Waves
returns-in-Waves g c = Does-same _ _ _ _ _ _ (ap (λ (told : Told). run_task told c.args.form c.args.«module».now (text_of c.args.events)) (sym c.in-Waves.is)) c.perform-in-Waves.ensures
