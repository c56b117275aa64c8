use Rattle.std.proofs.Common.{◌≡◌, ℕ, Bool, ap, ◌∙◌, ◌&&◌}
use Rattle.std.specs.Prelude.{Option, List, not, codes, if◌then◌else◌}
use Rattle.ice_image.specs.Either.{configuration_of}
use Rattle.chipdb_reader.specs.Kept.{database_in}
use Rattle.fabric_model.specs.declared.pin.PadInput.TheVariants.{Nothing}
use Rattle.fabric_model.specs.declared.pll.PllSource.{PllSource}
use Rattle.fabric_model.specs.Nets.{io_net}
use Rattle.fabric_model.specs.PinTypes.{takes_of}
use Rattle.fabric_model.specs.Plls.{is_pll_place, pll_sources}
use Rattle.fabric_model.proofs.Nets.{is_some_read-same}
use Rattle.fabric_parts.proofs.PinRecords.{pin-is}
use Rattle.fabric_parts.proofs.io.pin.pin.Goals as goal

pub returns : goal.returns
returns c =
    let db = database_in c.args.db.now in
    let image = configuration_of c.args.image.now in
    let place = c.args.place in
    let read = λ (net : Option ℕ). is_some_read-same c.args.db.now c.args.image.now c.args.links.now net c.requires.together in
    let is_place : List PllSource → Bool = λ sources. is_pll_place sources place.x place.y place.n in
    let here : is_place c.args.sources.now ≡ is_place (pll_sources c.args.all_pins db image) = ap is_place c.requires.sources in
    let of_place : Bool = is_place (pll_sources c.args.all_pins db image) in
    let kept = λ (b : Bool). ap (λ (p : Bool). not p && b) here in
    pin-is c.args.all_pins db image place.number place.x place.y place.n c.pintype-pintype.result _ _ _ _ _ _ _ _ _ _ _ _ _ _ _ _ _
    c.pintype-pintype.ensures c.drive_of.ensures c.sends_of.ensures
    (c.input_side-input.ensures.takes ∙ ap (λ (p : Bool). if p then Nothing else takes_of c.pintype-pintype.result) here)
    (c.input_side-input.ensures.reads_0 ∙ kept _ ∙ ap (λ (b : Bool). not of_place && b) (read (io_net db place.x place.y place.n (codes "/D_IN_0"))))
    (c.input_side-input.ensures.reads_1 ∙ kept _ ∙ ap (λ (b : Bool). not of_place && b) (read (io_net db place.x place.y place.n (codes "/D_IN_1"))))
    (c.input_side-input.ensures.is_global ∙ kept _)
    c.is_on.ensures c.io_shared_net.ensures c.io_shared_net-2.ensures c.io_shared_net-3.ensures
    c.io_net.ensures c.io_net-2.ensures c.io_net-3.ensures c.io_net-4.ensures c.io_net-5.ensures c.in_ok-inner.ensures.data c.in_ok-inner.ensures.pad
