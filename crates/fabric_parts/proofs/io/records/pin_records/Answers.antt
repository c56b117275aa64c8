use Rattle.std.proofs.Common.{◌≡◌, ℕ, [], List, take_all, arith, ap, ◌∙◌}
use Rattle.std.specs.List.{flat_map}
use Rattle.ice_image.specs.Either.{configuration_of}
use Rattle.chipdb_reader.specs.Kept.{database_in}
use Rattle.chipdb_reader.specs.declared.items.TileXy8.{TileXy8}
use Rattle.fabric_model.specs.declared.pin.Pin.{Pin}
use Rattle.fabric_model.specs.Numbered.{numbered_from, numbered}
use Rattle.fabric_model.proofs.Numbered.{numbered-more}
use Rattle.fabric_parts.specs.PinRecords.{tile_pins}
use Rattle.fabric_parts.proofs.PinRecords.{records_listed, found_listed}
use Rattle.fabric_parts.proofs.io.records.pin_records.Goals as goal

pub loop-i-init : goal.loop-i-init
unfolding numbered_from
loop-i-init c = c.new-pins.ensures.items

pub loop-i-preserved : goal.loop-i-preserved
loop-i-preserved c =
    let given : ℕ × TileXy8 → List Pin = tile_pins c.args.all_pins (database_in c.args.db.now) (configuration_of c.args.image.now) in
    numbered-more given c.args.tiles.now c.loop-i.i _ [] c.loop-i.pins.items _ c.loop-i-test.true c.loop-i.invariant c.in_ok-append_pins.ensures

-- all tiles
all_listed : (c : goal.After-loop-i) → c.loop-i.pins.items ≡ flat_map (tile_pins c.args.all_pins (database_in c.args.db.now) (configuration_of c.args.image.now)) (numbered c.args.tiles.now)
all_listed c =
    let given : ℕ × TileXy8 → List Pin = tile_pins c.args.all_pins (database_in c.args.db.now) (configuration_of c.args.image.now) in
    c.loop-i.invariant ∙ ap (λ (tiles : List TileXy8). flat_map given (numbered tiles)) (take_all c.loop-i.i c.args.tiles.now (omega arith))

pub returns-clause-pins : goal.returns-clause-pins
returns-clause-pins c =
    all_listed c ∙ records_listed c.args.all_pins (database_in c.args.db.now) (configuration_of c.args.image.now) c.args.tiles.now c.requires.all

pub returns-clause-found : goal.returns-clause-found
returns-clause-found c =
    found_listed c.args.all_pins c.args.db.now c.args.image.now c.args.tiles.now c.loop-i.pins.items c.requires.each (all_listed c)
