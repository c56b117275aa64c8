use Rattle.std.proofs.Common.{◌≡◌, map, take}
use Rattle.std.specs.Prelude.{flat_map}
use Rattle.fabric_model.specs.Signals.{signal_nets}
use Rattle.fabric_model.specs.Links.{class_in}
use Rattle.fabric_wiring.proofs.reading.classes_of_signals.Given as goal

abbrev pub invariant-loop-source : goal.invariant-loop-source
invariant-loop-source l = l.row.items ≡ map (class_in l.links) (flat_map signal_nets (take l.source-index l.ins))
