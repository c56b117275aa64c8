use Rattle.std.proofs.Common.{◌∙◌}
use Rattle.ice_image.specs.Either.{configuration_of}
use Rattle.chipdb_reader.specs.Kept.{database_in}
use Rattle.fabric_parts.proofs.RamsListed.{rams_listed}
use Rattle.fabric_parts.proofs.ram.gather.rams_at.Goals as goal

pub returns-clause-rams : goal.returns-clause-rams
returns-clause-rams c =
    c.in_ok-cells.ensures ∙ rams_listed (database_in c.args.db.now) (configuration_of c.args.image.now) c.args.used.now c.requires.all
