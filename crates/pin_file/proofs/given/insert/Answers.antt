use Rattle.std.proofs.Common.{◌∙◌}
use Rattle.indexmap.proofs.CallerLemmas.{insert_entry-new}
use Rattle.pin_file.specs.PortNames.{is_place}
use Rattle.pin_file.proofs.given.insert.Goals as goal

pub returns-in-Ok : goal.returns-in-Ok
returns-in-Ok c = c.in-Ok.ensures.entries ∙ insert_entry-new is_place c.args.names.now c.args.place c.args.name c.requires
