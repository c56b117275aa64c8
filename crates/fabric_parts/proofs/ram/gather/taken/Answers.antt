use Rattle.std.specs.Prelude.{None, Some}
use Rattle.ice_image.specs.Either.{configuration_of}
use Rattle.chipdb_reader.specs.Kept.{database_in}
use Rattle.fabric_model.specs.Faults.Fault.{cascade}
use Rattle.fabric_parts.proofs.RamsListed.{fault_listed}
use Rattle.fabric_parts.proofs.ram.gather.taken.Goals as goal

pub returns-in-Some-clause-refused : goal.returns-in-Some-clause-refused
returns-in-Some-clause-refused c =
    fault_listed (database_in c.args.db.now) (configuration_of c.args.image.now) c.args.used.now (Some (cascade c.in-Some.tile.x c.in-Some.tile.y)) c.requires.all c.in-Some.ensures

pub returns-in-None-clause-taken : goal.returns-in-None-clause-taken
returns-in-None-clause-taken c =
    fault_listed (database_in c.args.db.now) (configuration_of c.args.image.now) c.args.used.now None c.requires.all c.in-None.ensures
