use Rattle.std.proofs.Common.{sym, subst}
use Rattle.ice_image.specs.Either.{configuration_of}
use Rattle.chipdb_reader.specs.Kept.{database_in}
use Rattle.fabric_model.specs.Fabric.{joins_of}
use Rattle.fabric_model.specs.Joins.{IsClassOf}
use Rattle.fabric_model.proofs.Joins.{class_of-is}
use Rattle.fabric_model.proofs.found_links.links.Goals as goal

pub returns-in_ok-found-clause-classes : goal.returns-in_ok-found-clause-classes
returns-in_ok-found-clause-classes c = λ net.
    let joins = joins_of (database_in c.args.db.now) (configuration_of c.args.image.now) in
    subst (IsClassOf joins net) (sym (c.in_ok-found.ensures.links.classes net)) (class_of-is joins net)
