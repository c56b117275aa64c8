use Rattle.std.proofs.Common.{[], List, arith, ap, sym}
use Rattle.ice_image.specs.Either.{configuration_of}
use Rattle.chipdb_reader.specs.Kept.{database_in}
use Rattle.fabric_model.specs.declared.pin.Pin.{Pin}
use Rattle.fabric_model.specs.Faults.{Fault}
use Rattle.fabric_model.specs.Faults.Fault.{pin_mode}
use Rattle.fabric_model.specs.Tiles.{first_of}
use Rattle.fabric_model.proofs.Firsts.{first_of-none}
use Rattle.fabric_model.proofs.InOrder.{none_listed-more, first_of-flat_map, gathered-all}
use Rattle.fabric_parts.specs.PinFaults.{fault_of}
use Rattle.fabric_parts.proofs.io.refused.first_refused.Goals as goal

pub loop-pin-preserved : goal.loop-pin-preserved
loop-pin-preserved c =
    let given : Pin → List Fault = fault_of c.args.all_pins (database_in c.args.db.now) (configuration_of c.args.image.now) in
    none_listed-more given c.args.pins.now c.loop-pin.pin-index _ (omega arith) c.loop-pin.invariant (first_of-none _ c.in_default.ensures)

pub returns-in-Some : goal.returns-in-Some
returns-in-Some c =
    let given : Pin → List Fault = fault_of c.args.all_pins (database_in c.args.db.now) (configuration_of c.args.image.now) in
    let refused = c.in-Some.refused in
    first_of-flat_map given c.args.pins.now c.loop-pin.pin-index _ (pin_mode refused.x refused.y refused.n refused.pintype) (omega arith) c.loop-pin.invariant c.in-Some.ensures

pub returns : goal.returns
returns c =
    let given : Pin → List Fault = fault_of c.args.all_pins (database_in c.args.db.now) (configuration_of c.args.image.now) in
    ap first_of (sym (gathered-all given c.args.pins.now c.loop-pin.pin-index [] (omega arith) (sym c.loop-pin.invariant)))
