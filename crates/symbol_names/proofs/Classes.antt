-- The classes of nets of a design.
use Rattle.std.proofs.Common.{◌≡◌, ◌∙◌, ℕ, ◌≤◌, ap, arith, length, sym}
use Rattle.std.proofs.lemmas.List.{get_or_past}
use Rattle.ice_image.specs.Configuration.{Configuration}
use Rattle.chipdb_reader.specs.Database.{Database}
use Rattle.fabric_model.specs.Fabric.{fabric_with}
use Rattle.fabric_model.specs.Joins.{class_of}
use Rattle.fabric_model.specs.Links.{class_in}
use Rattle.fabric.specs.Design.{IsDesign, IsDesignOf}
use Rattle.fabric.specs.Kept.{Kept}

-- a number past all nets is a class of its own
pub class-past : (design : Kept) (net : ℕ) → IsDesign design → length design.drivers.places ≤ net → net ≡ class_in design.parts.links net
class-past design net is past =
    let kept = (is.2).kept in
    sym (get_or_past design.parts.links.classes net net (omega (arith, kept.parts.nets, kept.drivers.classes)))

-- the classes are those of the fabric
pub class-is : (db : Database) (image : Configuration) (design : Kept) (net : ℕ) → IsDesignOf db image design
    → class_in design.parts.links net ≡ class_of (fabric_with design.parts.options db image).joins net
class-is db image design net is = is.kept.parts.classes net
