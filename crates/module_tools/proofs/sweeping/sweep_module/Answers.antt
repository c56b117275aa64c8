use Rattle.std.proofs.Common.{map, subst, sym}
use Rattle.std.specs.Prelude.{IfErr, Ok, vec_items}
use Rattle.tool_run.specs.Stops.{StopsWith}
use Rattle.module_tools.specs.declared.told.EventsForm.{EventsForm}
use Rattle.module_tools.specs.Vlogsweep.{files_of, names_of, sweep_of}
use Rattle.module_tools.proofs.sweeping.sweep_module.Goals as goal

pub returns-in-Plain-clause-stops : goal.returns-in-Plain-clause-stops
returns-in-Plain-clause-stops c =
    subst
    (λ (events : EventsForm). IfErr c.sweep_plain_lists.result (StopsWith (sweep_of (record { events = events; shown = c.args.form.shown }) (Ok c.args.«module».now) (files_of (names_of c.args.names.now) (map vec_items c.args.texts.now)))))
    (sym c.in-Plain.is) c.sweep_plain_lists.ensures.stops
