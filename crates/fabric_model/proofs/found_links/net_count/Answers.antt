use Rattle.std.proofs.Common.{◌≡◌, ◌+◌, ◌*◌, ◌∙◌, ap, refl, length, subst, arith}
use Rattle.std.specs.Prelude.{IfOk}
use Rattle.ice_image.specs.Either.{configuration_of}
use Rattle.chipdb_reader.specs.Kept.{database_in}
use Rattle.fabric_model.specs.Pins.{pin_places, net_count}
use Rattle.fabric_model.proofs.InOrder.{pin_places-count}
use Rattle.fabric_model.proofs.found_links.net_count.Goals as goal

pub returns-in_ok-tiles : goal.returns-in_ok-tiles
returns-in_ok-tiles c =
    let db = database_in c.args.db.now in
    let image = configuration_of c.args.image.now in
    let device = image.layout.device in
    let tiles : length c.deref.result.now ≡ _ = ap length (c.deref.ensures.value ∙ c.in_ok-tiles.ensures.all) in
    let pins = pin_places-count device in
    let nets : c.net_count.result ≡ db.chip.nets = c.net_count.ensures in
    let counted : c.net_count.result + 4 * length c.deref.result.now ≡ db.chip.nets + 2 * length (pin_places device) = omega (arith, tiles, pins, nets) in
    let all : db.chip.nets + 2 * length (pin_places device) ≡ net_count c.args.all_pins db image = rw c.if-all_pins.true refl in
    subst (λ n. IfOk c.with_inner_nets.result (λ count. count ≡ n)) (counted ∙ all) c.with_inner_nets.ensures
