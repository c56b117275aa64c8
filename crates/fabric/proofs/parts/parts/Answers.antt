use Rattle.std.proofs.Common.{◌++◌, refl, ap, ◌∙◌}
use Rattle.ice_image.specs.Either.{configuration_of}
use Rattle.chipdb_reader.specs.Kept.{database_in}
use Rattle.fabric_model.proofs.PinsFault.{pins-taken}
use Rattle.fabric_model.specs.Registers.{registers_of, flips_among, pin_registers_of}
use Rattle.fabric.specs.Buffers.{buffers_at}
use Rattle.fabric.proofs.Buffers.{buffers-on}
use Rattle.fabric.proofs.Refused.{links-cause, plls-cause, pins-cause, rams-cause, told}
use Rattle.fabric.proofs.Composed.{parts-of}
use Rattle.fabric.proofs.parts.parts.Goals as goal

pub returns-in_err-links-clause-refused : goal.returns-in_err-links-clause-refused
returns-in_err-links-clause-refused c =
    let cause = links-cause c.args.options (database_in c.args.db.now) (configuration_of c.args.image.now) c.in_err-links.field-0.0 c.in_err-links.ensures.refused in
    told c.from_residual.result _ _ c.from_residual.ensures.1 cause

pub returns-in_err-sources-clause-refused : goal.returns-in_err-sources-clause-refused
returns-in_err-sources-clause-refused c =
    let cause = plls-cause c.args.options (database_in c.args.db.now) (configuration_of c.args.image.now) c.in_ok-links.ensures.taken c.in_err-sources.field-0.0 c.in_err-sources.ensures.refused in
    told c.from_residual-in_err-sources.result _ _ c.from_residual-in_err-sources.ensures.1 cause

pub returns-in_err-pins-clause-refused : goal.returns-in_err-pins-clause-refused
returns-in_err-pins-clause-refused c =
    let cause = pins-cause c.args.options (database_in c.args.db.now) (configuration_of c.args.image.now) c.in_ok-links.ensures.taken c.in_ok-sources.ensures.taken c.in_err-pins.field-0.0 c.in_err-pins.ensures.refused in
    told c.from_residual-in_err-pins.result _ _ c.from_residual-in_err-pins.ensures.1 cause

pub returns-in_err-rams-clause-refused : goal.returns-in_err-rams-clause-refused
returns-in_err-rams-clause-refused c =
    let cause = rams-cause c.args.options (database_in c.args.db.now) (configuration_of c.args.image.now) c.in_ok-links.ensures.taken
    (pins-taken c.args.options.all_pins (database_in c.args.db.now) (configuration_of c.args.image.now) c.in_ok-sources.ensures.taken c.in_ok-pins.ensures.taken)
    c.in_err-rams.field-0.0 c.in_err-rams.ensures.refused in
    told c.from_residual-in_err-rams.result _ _ c.from_residual-in_err-rams.ensures.1 cause

pub returns-clause-parts : goal.returns-clause-parts
returns-clause-parts c =
    let db = database_in c.args.db.now in
    let image = configuration_of c.args.image.now in
    parts-of c.args.options db image c.in_ok-buffers.ensures.fit _ c.in_ok-links.ensures.nets c.in_ok-links.ensures.links
    (c.in_ok-buffers.ensures.buffers ∙ (ap (buffers_at c.args.db.now.buffers) (c.buffers.ensures ∙ c.in_ok-links.ensures.links.buffers) ∙ buffers-on c.args.db.now (configuration_of c.args.image.now)))
    c.in_ok-pins.ensures.pins c.in_ok-pins.ensures.plls c.in_ok-pins.ensures.globals refl c.in_ok-cells.ensures.cells
    (c.in_ok-registers.ensures
    ∙ (ap (λ cells. registers_of c.args.options.lut_inputs cells ++ pin_registers_of (flips_among cells) c.deref-3.result.now) c.deref-2.ensures.value
    ∙ ap (λ ports. registers_of c.args.options.lut_inputs c.in_ok-cells.cells.lcs.items ++ pin_registers_of (flips_among c.in_ok-cells.cells.lcs.items) ports) c.deref-3.ensures.value))
    c.in_ok-cells.ensures.sets c.in_ok-rams.ensures.rams

pub returns-clause-taken : goal.returns-clause-taken
returns-clause-taken c = record {
  device = c.in_ok-links.ensures.taken;
  pins = pins-taken c.args.options.all_pins (database_in c.args.db.now) (configuration_of c.args.image.now) c.in_ok-sources.ensures.taken c.in_ok-pins.ensures.taken;
  rams = c.in_ok-rams.ensures.taken;
}
