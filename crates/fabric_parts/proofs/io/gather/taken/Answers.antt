use Rattle.std.proofs.Common.{ap, ◌∙◌}
use Rattle.ice_image.specs.Either.{configuration_of}
use Rattle.chipdb_reader.specs.Kept.{database_in}
use Rattle.fabric_model.specs.Tiles.{first_of}
use Rattle.fabric_model.proofs.Firsts.{first_of-none}
use Rattle.fabric_parts.proofs.PinRecords.{refused_listed}
use Rattle.fabric_parts.proofs.io.gather.taken.Goals as goal

pub returns-in-Some-clause-refused : goal.returns-in-Some-clause-refused
returns-in-Some-clause-refused c =
    ap first_of (refused_listed c.args.all_pins (database_in c.args.db.now) (configuration_of c.args.image.now) c.args.pins.now c.requires.pins) ∙ c.in-Some.ensures

pub returns-in-None-clause-taken : goal.returns-in-None-clause-taken
returns-in-None-clause-taken c =
    refused_listed c.args.all_pins (database_in c.args.db.now) (configuration_of c.args.image.now) c.args.pins.now c.requires.pins ∙ first_of-none _ c.in-None.ensures
