use Rattle.std.proofs.Common.{ℕ, ◌<◌, ◌≤◌, List, length, ap, sym, subst, ◌∙◌, arith}
use Rattle.std.specs.Prelude.{All, Option, Some, None, IfSome, filter}
use Rattle.std.proofs.lemmas.List.Elements.{All-weaker}
use Rattle.plane_map.specs.declared.tile.TileKind.TheVariants.{Io}
use Rattle.ice_image.specs.Either.{configuration_of}
use Rattle.chipdb_reader.specs.Kept.{database_in}
use Rattle.fabric_model.specs.declared.pin.Pin.{Pin}
use Rattle.index_search.specs.Places.{gathered_below}
use Rattle.fabric_model.specs.declared.pll.PllSource.{PllSource}
use Rattle.fabric_model.specs.PllPorts.{is_source_read, pll_ports}
use Rattle.fabric_model.specs.Pins.{is_port, global_source, globals_of, nets_from}
use Rattle.fabric_model.specs.Plls.{pll_sources}
use Rattle.fabric_model.specs.TilesOfKind.{HasTile}
use Rattle.fabric_model.specs.Within.{IsNetIn}
use Rattle.fabric_model.proofs.Within.{all_sources-in}
use Rattle.fabric_parts.proofs.PinRecords.{ports_listed, ports_placed}
use Rattle.fabric_parts.proofs.io.gather.pins_in.Goals as goal

pub returns-clause-pins : goal.returns-clause-pins
returns-clause-pins c =
    c.in_ok-ports.ensures ∙ ap (filter is_port) c.deref-2.ensures.value
    ∙ ports_listed c.args.all_pins (database_in c.args.db.now) (configuration_of c.args.image.now) _ c.in_ok-pins.ensures.pins

pub returns-clause-placed : goal.returns-clause-placed
returns-clause-placed c =
    let Placed : List Pin → Type 0 = λ pins. All (λ (pin : Pin). HasTile c.args.image.now Io pin.x pin.y) pins in
    subst Placed (sym (c.in_ok-ports.ensures ∙ ap (filter is_port) c.deref-2.ensures.value))
    (ports_placed c.args.all_pins c.args.db.now c.args.image.now _ c.in_ok-pins.ensures.found)

pub returns-clause-plls : goal.returns-clause-plls
unfolding pll_ports
returns-clause-plls c =
    let db = database_in c.args.db.now in
    let image = configuration_of c.args.image.now in
    c.in_ok-pll_ports.ensures ∙ ap (filter (is_source_read db image)) c.requires.sources

pub returns-clause-globals : goal.returns-clause-globals
unfolding globals_of
returns-clause-globals c =
    let db = database_in c.args.db.now in
    let image = configuration_of c.args.image.now in
    c.in_ok-globals.ensures ∙ ap (λ (sources : List PllSource). gathered_below 8 (λ g. nets_from db g (global_source sources db image g))) c.requires.sources

-- the net of an output is kept
net-kept : (nets kept : ℕ) (net : Option ℕ) → nets ≤ kept → IsNetIn nets net → IfSome net (λ n. n < kept)
net-kept nets kept None few in' = tt
net-kept nets kept (Some net) few in' = omega (arith, few, in')

pub pll_ports-requires-clause-nets : goal.pll_ports-requires-clause-nets
pll_ports-requires-clause-nets c =
    let db = database_in c.args.db.now in
    let image = configuration_of c.args.image.now in
    let nets = db.chip.nets in
    let kept = length c.args.links.now.classes in
    let Kept : PllSource → Type 0 = λ source. IfSome source.net (λ n. n < kept) in
    subst (All Kept) (sym c.requires.sources)
    (All-weaker (λ (source : PllSource). IsNetIn nets source.net) Kept (λ source in'. net-kept nets kept source.net c.requires.together.linked.nets in') (pll_sources c.args.all_pins db image)
    (all_sources-in db image c.requires.together.fit nets (omega arith) c.args.all_pins))
