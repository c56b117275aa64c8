use Rattle.std.proofs.Common.{◌≡◌, ◌∙◌, ℕ, Bool, List, ◌++◌, ap, arith, map, sym}
use Rattle.std.proofs.lemmas.List.{length-map}
use Rattle.std.proofs.lemmas.Result.{on_ok_weaker}
use Rattle.text_lines.specs.Written.{text_of}
use Rattle.vlog_waves.specs.Variables.Value.{one_bit, sixteen_bits}
use Rattle.vlog_waves.specs.Waves.{value_lines}
use Rattle.vlog_waves.proofs.Cuts.{values-four}
use Rattle.vlog_waves.proofs.Texts.{four-joined}
use Rattle.vlog_waves.proofs.starting.push_values.Goals as goal

pub returns : goal.returns
returns c =
    let v = c.args.values.now in
    let ports : List Bool = v.ports.items in
    let registers : List Bool = v.registers.items in
    let words : List ℕ = v.words.items in
    let wires : List Bool = v.wires.items in
    let a = map one_bit ports in
    let b = map one_bit registers in
    let w = map sixteen_bits words in
    let d = map one_bit wires in
    let second = c.first_register.result in
    let third = c.first_word.result in
    let fourth = c.first_wire.result in
    let first_made : c.push_bits.new.text.items ≡ c.args.text.now.items ++ text_of (value_lines 0 a) =
    c.in_ok-push_bits.ensures ∙ ap (λ (bits : List Bool). c.args.text.now.items ++ text_of (value_lines 0 (map one_bit bits))) c.deref.ensures.value in
    let second_made : c.push_bits-2.new.text.items ≡ c.push_bits.new.text.items ++ text_of (value_lines second b) =
    c.in_ok-push_bits-2.ensures ∙ ap (λ (bits : List Bool). c.push_bits.new.text.items ++ text_of (value_lines second (map one_bit bits))) c.deref-2.ensures.value in
    let third_made : c.push_words.new.text.items ≡ c.push_bits-2.new.text.items ++ text_of (value_lines third w) =
    c.in_ok-push_words.ensures ∙ ap (λ (words : List ℕ). c.push_bits-2.new.text.items ++ text_of (value_lines third (map sixteen_bits words))) c.deref-3.ensures.value in
    let lines = values-four a b w d second third fourth
    (omega (arith, c.first_register.ensures, v.ports.ok.0, length-map ports one_bit))
    (omega (arith, c.first_word.ensures, v.ports.ok.0, v.registers.ok.0, length-map ports one_bit, length-map registers one_bit))
    (omega (arith, c.first_wire.ensures, v.ports.ok.0, v.registers.ok.0, v.words.ok.0, length-map ports one_bit, length-map registers one_bit, length-map words sixteen_bits)) in
    on_ok_weaker c.push_bits-3.result
    (λ made. four-joined c.args.text.now.items c.push_bits.new.text.items c.push_bits-2.new.text.items c.push_words.new.text.items c.push_bits-3.new.text.items
    (text_of (value_lines 0 a)) (text_of (value_lines second b)) (text_of (value_lines third w)) (text_of (value_lines fourth d)) first_made second_made third_made
    (made ∙ ap (λ (bits : List Bool). c.push_words.new.text.items ++ text_of (value_lines fourth (map one_bit bits))) c.deref-4.ensures.value)
    ∙ ap (λ text. c.args.text.now.items ++ text) (sym lines))
    c.push_bits-3.ensures
