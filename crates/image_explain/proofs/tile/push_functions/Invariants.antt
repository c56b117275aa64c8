use Rattle.std.proofs.Common.{◌≡◌, ◌++◌, map, take}
use Rattle.image_explain.specs.declared.item.Active.TheVariants.{Function}
use Rattle.image_explain.proofs.tile.push_functions.Given as goal

abbrev pub invariant-loop-index : goal.invariant-loop-index
invariant-loop-index l = l.items.items ≡ l.initial.items.items ++ map Function (take l.index-index l.places)
