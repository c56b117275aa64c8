use Rattle.std.proofs.Common.{◌≡◌, ◌++◌, map, take}
use Rattle.floor_plan.specs.Marks.{pin_mark}
use Rattle.floor_plan.proofs.marks.push_pins.Given as goal

abbrev pub invariant-loop-pin : goal.invariant-loop-pin
invariant-loop-pin l =
    l.marks.items ≡ l.initial.marks.items ++ map pin_mark (take l.pin-index l.pins)
