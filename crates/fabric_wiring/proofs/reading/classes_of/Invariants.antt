use Rattle.std.proofs.Common.{◌≡◌, map, take}
use Rattle.std.specs.Prelude.{flat_map, option_to_list}
use Rattle.fabric_model.specs.Links.{class_in}
use Rattle.fabric_wiring.proofs.reading.classes_of.Given as goal

abbrev pub invariant-loop-net : goal.invariant-loop-net
invariant-loop-net l = l.row.items ≡ map (class_in l.links) (flat_map option_to_list (take l.net-index l.nets))
