use Rattle.std.proofs.Common.{◌∙◌}
use Rattle.indexmap.proofs.CallerLemmas.{insert_entry-new}
use Rattle.pin_file.specs.PortNames.{is_place}
use Rattle.pin_file.proofs.port_pins.insert.Goals as goal

pub returns-in-Ok : goal.returns-in-Ok
returns-in-Ok c = c.in-Ok.ensures.entries ∙ insert_entry-new is_place c.args.pins.now c.args.pin.place c.args.pin c.requires
