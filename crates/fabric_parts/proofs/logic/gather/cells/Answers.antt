use Rattle.std.proofs.Common.{◌∙◌}
use Rattle.ice_image.specs.Either.{configuration_of}
use Rattle.chipdb_reader.specs.Kept.{database_in}
use Rattle.fabric_parts.proofs.CellsListed.{cells_listed, sets_listed}
use Rattle.fabric_parts.proofs.logic.gather.cells.Goals as goal

pub returns-clause-cells : goal.returns-clause-cells
returns-clause-cells c =
    c.in_ok-lcs.ensures ∙ cells_listed (database_in c.args.db.now) (configuration_of c.args.image.now) c.deref.result.now (c.deref.ensures.value ∙ c.in_ok-tiles.ensures.all)

pub returns-clause-sets : goal.returns-clause-sets
returns-clause-sets c =
    c.in_ok-sets.ensures ∙ sets_listed (database_in c.args.db.now) (configuration_of c.args.image.now) c.deref-2.result.now (c.deref-2.ensures.value ∙ c.in_ok-tiles.ensures.all)
