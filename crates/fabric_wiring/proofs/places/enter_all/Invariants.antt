use Rattle.std.proofs.Common.{◌≡◌, length, take}
use Rattle.fabric_wiring.specs.Passed.{ArePassed, drivers_in}
use Rattle.fabric_wiring.proofs.places.enter_all.Given as goal

abbrev pub invariant-loop-i : goal.invariant-loop-i
invariant-loop-i l = record {
  length : length l.places ≡ length l.links.classes;
  passed : ArePassed l.drives (drivers_in l.links (take l.i l.drives)) l.places l.twice;
}
