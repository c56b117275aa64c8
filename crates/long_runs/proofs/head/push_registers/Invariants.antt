use Rattle.std.proofs.Common.{◌≡◌, ◌++◌, flat_map, take}
use Rattle.long_runs.specs.inside.Names.{register_name, spaced}
use Rattle.long_runs.proofs.head.push_registers.Given as goal

abbrev pub invariant-loop-item : goal.invariant-loop-item
invariant-loop-item l = l.text.items ≡ l.initial.text.items ++ spaced (flat_map (register_name l.words) (take l.item-index l.items))
