use Rattle.std.proofs.Common.{◌≡◌, ◌∙◌, ℕ, ◌++◌, Bool, List, ap, ap₂, arith, length, map, sym}
use Rattle.std.specs.Vec.{with_items}
use Rattle.std.proofs.lemmas.List.{with_items_is}
use Rattle.vlog_module.specs.declared.modules.Port.{Port}
use Rattle.vlog_semantics.specs.ModuleSlots.{register_names, word_names}
use Rattle.vlog_semantics.specs.Named.{values_of}
use Rattle.vlog_run.proofs.Reading.{named-shown, values-named}
use Rattle.vlog_waves.specs.Variables.{port_bits, values_in}
use Rattle.vlog_waves.specs.Variables.Value.{one_bit, sixteen_bits}
use Rattle.vlog_waves.proofs.values.Values.take.Goals as goal

pub returns-clause-held : goal.returns-clause-held
unfolding values_in
returns-clause-held c m entry shows ports fits =
    let v = c.args.self.now in
    let named = named-shown c.args.runner.now m entry shows in
    let registers_read : c.registers.result.now ≡ values_of entry.registers = c.registers.ensures m entry shows in
    let words_read : c.words.result.now ≡ values_of entry.words = c.words.ensures m entry shows in
    let ports_count = ap (λ (list : List Bool). length list) c.deref_mut.ensures.value ∙ fits.ports ∙ ap length (sym ports) in
    let registers_count = ap (λ (list : List Bool). length list) c.deref_mut-2.ensures.value ∙ fits.registers
    ∙ sym (values-named entry.registers (register_names m.items) named.registers) ∙ ap (λ (list : List Bool). length list) (sym registers_read) in
    let words_count = ap (λ (list : List ℕ). length list) c.deref_mut-3.ensures.value ∙ fits.words
    ∙ sym (values-named entry.words (word_names m.items) named.words) ∙ ap (λ (list : List ℕ). length list) (sym words_read) in
    let wires_count = ap (λ (list : List Bool). length list) c.deref_mut-4.ensures.value ∙ fits.wires in
    let one : (with_items v.ports c.copy_ports.new.bits).items ≡ port_bits m.ports (values_of entry.inputs) (values_of entry.outputs) =
    with_items_is v.ports c.copy_ports.new.bits (omega (arith, c.copy_ports.auto.bits, v.ports.ok.0, ap (λ (list : List Bool). length list) c.deref_mut.ensures.value))
    ∙ c.copy_ports.ensures ports_count
    ∙ ap (λ (list : List Port). port_bits list c.input_bits.result.now c.outputs.result.now) ports
    ∙ ap₂ (port_bits m.ports) (c.input_bits.ensures m entry shows) (c.outputs.ensures m entry shows) in
    let two : (with_items v.registers c.copy_bits.new.to).items ≡ values_of entry.registers =
    with_items_is v.registers c.copy_bits.new.to (omega (arith, c.copy_bits.auto.to, v.registers.ok.0, ap (λ (list : List Bool). length list) c.deref_mut-2.ensures.value)) ∙ c.copy_bits.ensures registers_count ∙ registers_read in
    let three : (with_items v.words c.copy_words.new.to).items ≡ values_of entry.words =
    with_items_is v.words c.copy_words.new.to (omega (arith, c.copy_words.auto.to, v.words.ok.0, ap (λ (list : List ℕ). length list) c.deref_mut-3.ensures.value)) ∙ c.copy_words.ensures words_count ∙ words_read in
    let four : (with_items v.wires c.copy_wires.new.wires).items ≡ values_of entry.wires =
    with_items_is v.wires c.copy_wires.new.wires (omega (arith, c.copy_wires.auto.wires, v.wires.ok.0, ap (λ (list : List Bool). length list) c.deref_mut-4.ensures.value)) ∙ c.copy_wires.ensures m entry shows wires_count in
    ap₂ (λ (a b : List Bool). map one_bit a ++ (map one_bit b ++ (map sixteen_bits (with_items v.words c.copy_words.new.to).items ++ map one_bit (with_items v.wires c.copy_wires.new.wires).items))) one two
    ∙ ap₂ (λ (a : List ℕ) (b : List Bool). map one_bit (port_bits m.ports (values_of entry.inputs) (values_of entry.outputs)) ++ (map one_bit (values_of entry.registers) ++ (map sixteen_bits a ++ map one_bit b))) three four
