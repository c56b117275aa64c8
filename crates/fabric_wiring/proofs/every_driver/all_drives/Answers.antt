use Rattle.std.proofs.Common.{◌≡◌, ◌++◌, List, length, map, ap, ap₂, ◌∙◌, refl, append_assoc}
use Rattle.std.specs.Prelude.{flat_map, filter, not}
use Rattle.fabric_model.specs.declared.cell.LogicCell.{LogicCell}
use Rattle.fabric_model.specs.declared.pin.Pin.{Pin}
use Rattle.fabric_model.specs.declared.register.Register.{Register}
use Rattle.fabric_model.specs.declared.ram.RamCell.{RamCell}
use Rattle.fabric_model.specs.PinKeys.{SignalsOf}
use Rattle.fabric_model.specs.Fabric.{numbered, flip_count}
use Rattle.fabric_model.specs.Drivers.{Drive, drives_of, pin_drives, back_drives, lut_drives, flip_drives, lout_drives, carry_drives, set_drives, ram_drives, global_drives, buffer_drives, input_drives, second_drives, data_drives, pad_drives, pll_drives}
use Rattle.fabric_wiring.specs.Parts.{buffer_of}
use Rattle.fabric_wiring.specs.Drives.{drive_of}
use Rattle.fabric_wiring.specs.Outputs.{back_from, data_from, pad_from}
use Rattle.fabric_wiring.proofs.Same.{gets}
use Rattle.fabric_wiring.proofs.every_driver.all_drives.Goals as goal

pub returns : goal.returns
unfolding drives_of
returns c = λ fabric is.
    let pins : c.deref-2.result.now ≡ fabric.pins = c.deref-2.ensures.value ∙ is.pins in
    let flip_flops : c.flip_count.result ≡ flip_count fabric =
    c.flip_count.ensures ∙ ap (λ (lcs : List LogicCell). length (filter (λ lc. lc.flip) lcs)) (c.deref.ensures.value ∙ is.lcs) in
    let plls : c.deref-3.result.now ≡ fabric.plls = c.deref-3.ensures.value ∙ is.plls in
    let signals : c.in_ok-signals.signals ≡ record { flips = flip_count fabric; pins = fabric.pins; plls = fabric.plls } =
    ap₂ (λ flips pins. record { flips = flips; pins = pins; plls = c.in_ok-signals.signals.plls }) (c.in_ok-signals.ensures.flips ∙ flip_flops) (c.in_ok-signals.ensures.pins ∙ pins)
    ∙ ap (λ plls. record { flips = flip_count fabric; pins = fabric.pins; plls = plls }) (c.in_ok-signals.ensures.plls ∙ plls) in
    let given = λ (before after : List Drive) (make : SignalsOf → List Drive) (is_given : after ≡ before ++ make c.in_ok-signals.signals). is_given ∙ ap (λ found. before ++ make found) signals in
    let first = gets (map drive_of c.new-drives.result.items) (map drive_of c.append_pins.new.drives.items) (λ (pins : List Pin). flat_map (pin_drives fabric.pins) pins)
    (given _ _ (λ found. flat_map (pin_drives found.pins) c.deref-4.result.now) c.in_ok-append_pins.ensures) (c.deref-4.ensures.value ∙ is.pins) in
    let backs = gets (map drive_of c.append_pins.new.drives.items) (map drive_of c.append_backs.new.drives.items) (λ (pins : List Pin). flat_map (back_drives fabric) pins)
    (given _ _ (λ found. flat_map (back_from found) c.deref-5.result.now) c.in_ok-append_backs.ensures) (c.deref-5.ensures.value ∙ is.pins) in
    let luts = gets (map drive_of c.append_backs.new.drives.items) (map drive_of c.append_luts.new.drives.items) (λ (lcs : List LogicCell). flat_map (lut_drives fabric.lut_inputs) (filter (λ lc. not lc.flip) lcs))
    (c.in_ok-append_luts.ensures ∙ ap (λ read. map drive_of c.append_backs.new.drives.items ++ flat_map (lut_drives read) (filter (λ (lc : LogicCell). not lc.flip) c.deref-6.result.now)) is.lut_inputs)
    (c.deref-6.ensures.value ∙ is.lcs) in
    let flips = gets (map drive_of c.append_luts.new.drives.items) (map drive_of c.append_flips.new.drives.items) (λ (registers : List Register). flat_map flip_drives (numbered registers)) c.in_ok-append_flips.ensures (c.deref-7.ensures.value ∙ is.registers) in
    let louts = gets (map drive_of c.append_flips.new.drives.items) (map drive_of c.append_louts.new.drives.items) (flat_map (lout_drives fabric.lut_inputs))
    (c.in_ok-append_louts.ensures ∙ ap (λ read. map drive_of c.append_flips.new.drives.items ++ flat_map (lout_drives read) c.deref-8.result.now) is.lut_inputs)
    (c.deref-8.ensures.value ∙ is.lcs) in
    let carries = gets (map drive_of c.append_louts.new.drives.items) (map drive_of c.append_carries.new.drives.items) (λ (lcs : List LogicCell). flat_map carry_drives (filter (λ lc. lc.carry) lcs)) c.in_ok-append_carries.ensures (c.deref-9.ensures.value ∙ is.lcs) in
    let sets = gets (map drive_of c.append_carries.new.drives.items) (map drive_of c.append_sets.new.drives.items) (flat_map set_drives) c.in_ok-append_sets.ensures (c.deref-10.ensures.value ∙ is.sets) in
    let rams = gets (map drive_of c.append_sets.new.drives.items) (map drive_of c.append_rams.new.drives.items) (λ (rams : List RamCell). flat_map ram_drives (numbered rams)) c.in_ok-append_rams.ensures (c.deref-11.ensures.value ∙ is.rams) in
    let globals = gets (map drive_of c.append_rams.new.drives.items) (map drive_of c.append_globals.new.drives.items) (flat_map (global_drives fabric.pins fabric.plls))
    (given _ _ (λ found. flat_map (global_drives found.pins found.plls) c.deref-12.result.now) c.in_ok-append_globals.ensures) (c.deref-12.ensures.value ∙ is.globals) in
    let buffers = gets (map drive_of c.append_globals.new.drives.items) (map drive_of c.append_buffers.new.drives.items) (flat_map buffer_drives) c.in_ok-append_buffers.ensures (ap (map buffer_of) c.deref-13.ensures.value ∙ is.buffers) in
    let inputs = gets (map drive_of c.append_buffers.new.drives.items) (map drive_of c.append_inputs.new.drives.items) (λ (registers : List Register). flat_map input_drives (numbered registers)) c.in_ok-append_inputs.ensures (c.deref-14.ensures.value ∙ is.registers) in
    let seconds = gets (map drive_of c.append_inputs.new.drives.items) (map drive_of c.append_seconds.new.drives.items) (λ (registers : List Register). flat_map second_drives (numbered registers)) c.in_ok-append_seconds.ensures (c.deref-15.ensures.value ∙ is.registers) in
    let made = gets (map drive_of c.append_seconds.new.drives.items) (map drive_of c.append_each_data.new.drives.items) (λ (pins : List Pin). flat_map (data_drives fabric) pins)
    (given _ _ (λ found. flat_map (data_from found) c.deref-16.result.now) c.in_ok-append_each_data.ensures) (c.deref-16.ensures.value ∙ is.pins) in
    let pads = gets (map drive_of c.append_each_data.new.drives.items) (map drive_of c.append_pads.new.drives.items) (λ (pins : List Pin). flat_map (pad_drives fabric) pins)
    (given _ _ (λ found. flat_map (pad_from found) c.deref-17.result.now) c.in_ok-append_pads.ensures) (c.deref-17.ensures.value ∙ is.pins) in
    let outputs = gets (map drive_of c.append_pads.new.drives.items) (map drive_of c.append_plls.new.drives.items) (flat_map (pll_drives fabric.pins fabric.plls))
    (given _ _ (λ found. flat_map (pll_drives found.pins found.plls) c.deref-18.result.now) c.in_ok-append_plls.ensures) (c.deref-18.ensures.value ∙ is.plls) in
    let empty = c.new-drives.ensures.items in
    simp (outputs, pads, made, seconds, inputs, buffers, globals, rams, sets, carries, louts, flips, luts, backs, first, empty, append_assoc) refl
