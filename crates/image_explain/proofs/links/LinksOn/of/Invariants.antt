use Rattle.ice_image.specs.Either.{configuration_of}
use Rattle.chipdb_reader.specs.Kept.{link_lines}
use Rattle.image_explain.specs.Inside.{AreLists, lists_of}
use Rattle.image_explain.proofs.links.LinksOn.of.Given as goal

abbrev pub invariant-loop-index : goal.invariant-loop-index
invariant-loop-index l = AreLists (configuration_of l.image) (link_lines l.db.bits l.links) l.index (lists_of l.lists.items)
