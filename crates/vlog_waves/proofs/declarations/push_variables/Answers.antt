use Rattle.std.proofs.Common.{◌≡◌, ◌∙◌, ℕ, List, ◌++◌, ap, arith, length, map, sym}
use Rattle.std.proofs.lemmas.List.{length-map}
use Rattle.std.proofs.lemmas.Result.{on_ok_weaker}
use Rattle.text_lines.specs.Written.{text_of}
use Rattle.vlog_module.specs.declared.item.Item.{Item}
use Rattle.vlog_module.specs.declared.modules.Port.{Port}
use Rattle.vlog_semantics.specs.ModuleSlots.{register_names, wire_names, word_names}
use Rattle.vlog_waves.specs.Variables.{Variable, of_kind, variables_of, wire_label}
use Rattle.vlog_waves.specs.Variables.Kind.{wire_kind, register_kind, word_kind}
use Rattle.vlog_waves.specs.Waves.{variable_lines}
use Rattle.vlog_waves.proofs.Cuts.{variables-four}
use Rattle.vlog_waves.proofs.Declared.{shown-register, shown-word}
use Rattle.vlog_waves.proofs.Texts.{four-joined}
use Rattle.vlog_waves.proofs.declarations.push_variables.Goals as goal

pub returns : goal.returns
unfolding variables_of
returns c =
    let m = c.args.module.now in
    let fits = c.requires in
    let v = c.args.values.now in
    let names = map (λ port. port.name) m.ports in
    let a = of_kind wire_kind names in
    let b = of_kind register_kind (register_names m.items) in
    let w = of_kind word_kind (word_names m.items) in
    let given = c.args.names.now in
    let d = of_kind wire_kind (map (wire_label given) (wire_names m.items)) in
    let second = c.first_register.result in
    let third = c.first_word.result in
    let fourth = c.first_wire.result in
    let start = c.args.text.now.items in
    let first_count : length names ≡ length m.ports = length-map m.ports (λ (port : Port). port.name) in
    let a_count : length a ≡ length names = length-map {B = Variable} names (λ name. record { kind = wire_kind; name = name }) in
    let b_count : length b ≡ length (register_names m.items) = length-map {B = Variable} (register_names m.items) (λ name. record { kind = register_kind; name = name }) in
    let w_count : length w ≡ length (word_names m.items) = length-map {B = Variable} (word_names m.items) (λ name. record { kind = word_kind; name = name }) in
    let lines = variables-four a b w d second third fourth
    (omega (arith, c.first_register.ensures, v.ports.ok.0, fits.ports, first_count, a_count))
    (omega (arith, c.first_word.ensures, v.ports.ok.0, v.registers.ok.0, fits.ports, fits.registers, first_count, a_count, b_count))
    (omega (arith, c.first_wire.ensures, v.ports.ok.0, v.registers.ok.0, v.words.ok.0, fits.ports, fits.registers, fits.words, first_count, a_count, b_count, w_count)) in
    let items_are : c.items-items.result.now ≡ m.items = c.items-items.ensures.items in
    let first_made : c.push_ports.new.text.items ≡ start ++ text_of (variable_lines 0 a) =
    c.in_ok-push_ports.ensures ∙ ap (λ (ports : List Port). start ++ text_of (variable_lines 0 (of_kind wire_kind (map (λ port. port.name) ports)))) c.ports.ensures.ports in
    let second_made : c.push_items.new.text.items ≡ c.push_ports.new.text.items ++ text_of (variable_lines second b) =
    c.in_ok-push_items.ensures ∙ ap (λ (list : List (List ℕ)). c.push_ports.new.text.items ++ text_of (variable_lines second (of_kind register_kind list))) (shown-register given (register_names c.items-items.result.now) ∙ ap register_names items_are) in
    let third_made : c.push_items-2.new.text.items ≡ c.push_items.new.text.items ++ text_of (variable_lines third w) =
    c.in_ok-push_items-2.ensures ∙ ap (λ (list : List (List ℕ)). c.push_items.new.text.items ++ text_of (variable_lines third (of_kind word_kind list))) (shown-word given (word_names c.items-items.result.now) ∙ ap word_names items_are) in
    on_ok_weaker c.push_items-3.result
    (λ made. four-joined start c.push_ports.new.text.items c.push_items.new.text.items c.push_items-2.new.text.items c.push_items-3.new.text.items
    (text_of (variable_lines 0 a)) (text_of (variable_lines second b)) (text_of (variable_lines third w)) (text_of (variable_lines fourth d)) first_made second_made third_made
    (made ∙ ap (λ (items : List Item). c.push_items-2.new.text.items ++ text_of (variable_lines fourth (of_kind wire_kind (map (wire_label given) (wire_names items))))) items_are)
    ∙ ap (λ text. start ++ text) (sym lines))
    c.push_items-3.ensures
