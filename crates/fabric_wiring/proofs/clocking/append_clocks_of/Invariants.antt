use Rattle.std.proofs.Common.{◌≡◌, ◌++◌, take}
use Rattle.std.specs.Prelude.{flat_map}
use Rattle.fabric_model.specs.Wiring.{signal_clocks}
use Rattle.fabric_wiring.specs.Clocking.{clock_classes}
use Rattle.fabric_wiring.proofs.clocking.append_clocks_of.Given as goal

abbrev pub ghost-signal_clock : goal.ghost-signal_clock
ghost-signal_clock g a = g.fabric

abbrev pub ghost-append_clock : goal.ghost-append_clock
ghost-append_clock g a = g.fabric

abbrev pub invariant-loop-source : goal.invariant-loop-source
invariant-loop-source g l = l.row.items ≡ l.initial.row.items ++ clock_classes g.fabric (flat_map (signal_clocks g.fabric) (take l.source-index l.ins))
