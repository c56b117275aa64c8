use Rattle.std.proofs.Common.{◌∙◌, ap, arith, length}
use Rattle.vlog_semantics.specs.ModuleSlots.{register_names, wire_names, word_names}
use Rattle.vlog_module.specs.declared.item.Item.{Item}
use Rattle.vlog_module.specs.declared.modules.Port.{Port}
use Rattle.std.specs.Prelude.{Bool, List, ℕ}
use Rattle.vlog_run.proofs.Reading.{named-shown, values-named}
use Rattle.vlog_waves.specs.inside.Values.{Fits}
use Rattle.vlog_waves.proofs.Alike.{fits-alike}
use Rattle.vlog_waves.proofs.values.Values.new.Goals as goal

pub returns-clause-fits : goal.returns-clause-fits
returns-clause-fits c entry shows =
    let m = c.args.module.now in
    let made = c.in_ok-values.values in
    let named = named-shown c.args.runner.now m entry shows in
    let registers_read = ap (λ (list : List Bool). length list) (c.registers.ensures m entry shows) ∙ values-named entry.registers (register_names m.items) named.registers in
    let words_read = ap (λ (list : List ℕ). length list) (c.words.ensures m entry shows) ∙ values-named entry.words (word_names m.items) named.words in
    let fits : Fits m made = record {
      ports = omega (arith, c.in_ok-values.ensures.ports, made.ports.ok.0, ap (λ (list : List Port). length list) c.ports.ensures.ports);
      registers = omega (arith, c.in_ok-values.ensures.registers, made.registers.ok.0, registers_read);
      words = omega (arith, c.in_ok-values.ensures.words, made.words.ok.0, words_read);
      wires = omega (arith, c.in_ok-values.ensures.wires, made.wires.ok.0, c.count_wires.ensures, ap (λ (list : List Item). length (wire_names list)) c.items.ensures.items);
    } in
    fits-alike m made c.take.new.self c.take.ensures.alike fits

pub returns-clause-held : goal.returns-clause-held
returns-clause-held c entry shows =
    let m = c.args.module.now in
    let made = c.in_ok-values.values in
    let named = named-shown c.args.runner.now m entry shows in
    let registers_read = ap (λ (list : List Bool). length list) (c.registers.ensures m entry shows) ∙ values-named entry.registers (register_names m.items) named.registers in
    let words_read = ap (λ (list : List ℕ). length list) (c.words.ensures m entry shows) ∙ values-named entry.words (word_names m.items) named.words in
    let fits : Fits m made = record {
      ports = omega (arith, c.in_ok-values.ensures.ports, made.ports.ok.0, ap (λ (list : List Port). length list) c.ports.ensures.ports);
      registers = omega (arith, c.in_ok-values.ensures.registers, made.registers.ok.0, registers_read);
      words = omega (arith, c.in_ok-values.ensures.words, made.words.ok.0, words_read);
      wires = omega (arith, c.in_ok-values.ensures.wires, made.wires.ok.0, c.count_wires.ensures, ap (λ (list : List Item). length (wire_names list)) c.items.ensures.items);
    } in
    c.take.ensures.held m entry shows c.ports-2.ensures.ports fits
