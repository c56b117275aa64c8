use Rattle.std.proofs.Common.{◌≡◌, ◌++◌, drop, map, take}
use Rattle.port_names.specs.Listed.{given_by}
use Rattle.port_names.specs.Renamed.{renamed_item}
use Rattle.port_names.proofs.renamed.rename_items.Given as goal

abbrev pub invariant-loop-item : goal.invariant-loop-item
invariant-loop-item l = l.items ≡ map (renamed_item (given_by l.renaming)) (take l.item-index l.initial.items) ++ drop l.item-index l.initial.items
