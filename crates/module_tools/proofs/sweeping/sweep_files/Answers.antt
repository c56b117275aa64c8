use Rattle.std.proofs.Common.{ap, map, refl, ◌∙◌}
use Rattle.std.specs.Prelude.{Some}
use Rattle.tool_run.specs.Needs.{need_of}
use Rattle.tool_run.proofs.Same.{Does-same}
use Rattle.module_tools.specs.Vlogsweep.{names_of, sweep_needs, task_over, vlogsweep_task_for}
use Rattle.module_tools.proofs.sweeping.sweep_files.Goals as goal

pub returns-in-Ok : goal.returns-in-Ok
returns-in-Ok g c =
    let names = ap (λ names. sweep_needs c.args.request.«module».now (names_of names)) c.deref.ensures.value in
    let needs = ap (map need_of) c.deref-in-Ok.ensures.value ∙ c.in-Ok.ensures.needs ∙ names in
    Does-same _ _ _ _ _ _ (ap (λ needs. task_over needs c.args.request.form (names_of c.args.request.names.items)) needs) c.sweep_loads.ensures

pub returns-in-Err : goal.returns-in-Err
returns-in-Err g c = c.give_up.ensures (vlogsweep_task_for (Some c.args.request)) refl
