-- The module that is written for a database and an image is their fabric.
use Rattle.ice_image.specs.Configuration.{Configuration}
use Rattle.chipdb_reader.specs.Database.{Database}
use Rattle.fabric_model.specs.declared.options.FabricOptions.{FabricOptions}
use Rattle.fabric_model.proofs.Alike.{design-run}
use Rattle.fabric_model.proofs.Uncut.{design-uncut}
use Rattle.fabric_module.specs.Law.{ModuleIsFabric}
use Rattle.fabric_module.proofs.Design.{design-is-module, design-well_formed}

pub module-is-fabric : (options : FabricOptions) (db : Database) (image : Configuration) → ModuleIsFabric options db image
module-is-fabric options db image fit few none order name ordered is_name = (
  design-well_formed options db image fit few none order ordered name is_name,
  record {
    one_run = λ events. design-run options db image fit none events;
    uncut = design-uncut options db image fit none;
    alike = λ events entries run. design-is-module options db image fit few none order ordered name events entries run;
  },
)
