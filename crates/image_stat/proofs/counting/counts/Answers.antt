use Rattle.std.proofs.Common.{◌≡◌, length, ap, ◌∙◌, arith, count_by}
use Rattle.ice_image.specs.Either.{configuration_of}
use Rattle.chipdb_reader.specs.Kept.{database_in}
use Rattle.fabric_model.specs.declared.cell.LogicCell.{LogicCell}
use Rattle.image_stat.specs.Counts.{globals_among}
use Rattle.image_stat.proofs.Counted.{counts-are}
use Rattle.image_stat.proofs.Links.{length-places_on}
use Rattle.image_stat.proofs.counting.counts.Goals as goal

pub returns-clause-counts : goal.returns-clause-counts
returns-clause-counts c =
    let db = database_in c.args.db.now in
    let image = configuration_of c.args.image.now in
    let parts = c.in_ok-parts.ensures in
    let luts : c.len.result ≡ length c.in_ok-parts.parts.cells.lcs.items = omega (arith, c.len.ensures, c.in_ok-parts.parts.cells.lcs.ok.0) in
    let rams : c.len-2.result ≡ length c.in_ok-parts.parts.rams.items = omega (arith, c.len-2.ensures, c.in_ok-parts.parts.rams.ok.0) in
    let pins : c.len-3.result ≡ length c.in_ok-parts.parts.pins.pins.items = omega (arith, c.len-3.ensures, c.in_ok-parts.parts.pins.pins.ok.0) in
    let extra : c.len-4.result ≡ length c.in_ok-extras.extras.items = omega (arith, c.len-4.ensures, c.in_ok-extras.extras.ok.0) in
    counts-are c.args.all_pins db image _ _ _ _ _ _ _ _ _ _
    (luts ∙ ap length parts.cells)
    (c.flops.ensures ∙ ap (count_by (λ (cell : LogicCell). cell.flip)) (c.deref.ensures.value ∙ parts.cells))
    (c.carries.ensures ∙ ap (count_by (λ (cell : LogicCell). cell.carry)) (c.deref-2.ensures.value ∙ parts.cells))
    (rams ∙ ap length parts.rams)
    (pins ∙ ap length parts.pins)
    (c.globals.ensures ∙ ap (λ nets. length (globals_among nets)) (c.deref-3.ensures.value ∙ parts.globals))
    (ap length (c.buffers.ensures ∙ parts.links.buffers) ∙ length-places_on image db.buffers)
    (ap length (c.routings.ensures ∙ parts.links.routings) ∙ length-places_on image db.routings)
    c.in_ok-set_bits.ensures
    (extra ∙ ap length c.in_ok-extras.ensures.bits)
