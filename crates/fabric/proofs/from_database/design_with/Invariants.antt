use Rattle.ice_image.specs.Either.{configuration_of}
use Rattle.chipdb_reader.specs.Kept.{database_in}
use Rattle.fabric_model.specs.Fabric.{fabric_with}
use Rattle.fabric.proofs.from_database.design_with.Given as goal

abbrev pub ghost-wire : goal.ghost-wire
ghost-wire a = fabric_with a.parts.now.options (database_in a.db.now) (configuration_of a.image.now)
