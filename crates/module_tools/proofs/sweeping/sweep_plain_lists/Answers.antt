use Rattle.std.proofs.Common.{map, subst, sym}
use Rattle.std.specs.Prelude.{IfErr, Ok, vec_items}
use Rattle.long_runs.specs.declared.form.Shown.{Shown}
use Rattle.tool_run.specs.Stops.{StopsWith}
use Rattle.module_tools.specs.declared.told.EventsForm.TheVariants.{Plain}
use Rattle.module_tools.specs.Vlogsweep.{files_of, names_of, sweep_of}
use Rattle.module_tools.proofs.sweeping.sweep_plain_lists.Goals as goal

pub returns-in-All-clause-stops : goal.returns-in-All-clause-stops
returns-in-All-clause-stops c =
    subst
    (λ (shown : Shown). IfErr c.sweep_plain.result (StopsWith (sweep_of (record { events = Plain; shown = shown }) (Ok c.args.«module».now) (files_of (names_of c.args.names.now) (map vec_items c.args.texts.now)))))
    (sym c.in-All.is) c.sweep_plain.ensures.stops

pub returns-in-Last-clause-stops : goal.returns-in-Last-clause-stops
returns-in-Last-clause-stops c =
    subst
    (λ (shown : Shown). IfErr c.sweep_plain_last.result (StopsWith (sweep_of (record { events = Plain; shown = shown }) (Ok c.args.«module».now) (files_of (names_of c.args.names.now) (map vec_items c.args.texts.now)))))
    (sym c.in-Last.is) c.sweep_plain_last.ensures.stops

pub returns-in-Changes-clause-stops : goal.returns-in-Changes-clause-stops
returns-in-Changes-clause-stops c =
    subst
    (λ (shown : Shown). IfErr c.show_lists.result (StopsWith (sweep_of (record { events = Plain; shown = shown }) (Ok c.args.«module».now) (files_of (names_of c.args.names.now) (map vec_items c.args.texts.now)))))
    (sym c.in-Changes.is) c.show_lists.ensures.stops
