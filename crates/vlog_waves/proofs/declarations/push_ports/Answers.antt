use Rattle.std.proofs.Common.{◌∙◌, ◌+◌, List, [], ◌∷◌, ◌++◌, ap, arith, drop, drop_of_length-le, map, sym}
use Rattle.text_lines.specs.Written.{text_of}
use Rattle.vlog_module.specs.declared.modules.Port.{Port}
use Rattle.vlog_waves.specs.Variables.{of_kind}
use Rattle.vlog_waves.specs.Variables.Kind.{wire_kind}
use Rattle.vlog_waves.specs.Waves.{variable_line, variable_lines}
use Rattle.vlog_waves.specs.inside.Declared.{label_text}
use Rattle.vlog_waves.proofs.Declared.{ports-next}
use Rattle.vlog_waves.proofs.Texts.{all-made, part-made, text_of-none}
use Rattle.vlog_waves.proofs.declarations.push_ports.Goals as goal

pub loop-number-preserved : goal.loop-number-preserved
loop-number-preserved c =
    let ports : List Port = c.args.ports.now in
    let number = c.loop-number.number in
    part-made (c.args.text.now.items ++ text_of (variable_lines 0 (of_kind wire_kind (map (λ port. port.name) ports)))) c.loop-number.text.items
    (text_of (variable_lines number (of_kind wire_kind (map (λ port. port.name) (drop number ports)))))
    (text_of (variable_line number (record { kind = wire_kind; name = label_text c.own_label-label.result }) ∷ []))
    (text_of (variable_lines (number + 1) (of_kind wire_kind (map (λ port. port.name) (drop (number + 1) ports)))))
    c.push_variable.new.text.items c.loop-number.invariant
    (ports-next ports number c.index-ports-number.result (label_text c.own_label-label.result) (omega arith) c.index-ports-number.is (c.own_label-label.ensures ∙ c.bytes.ensures.bytes ∙ ap (λ (port : Port). port.name) (sym c.index-ports-number.is)))
    c.in_ok-push_variable.ensures

pub returns : goal.returns
returns c =
    let ports : List Port = c.args.ports.now in
    let number = c.loop-number.number in
    all-made (c.args.text.now.items ++ text_of (variable_lines 0 (of_kind wire_kind (map (λ port. port.name) ports)))) c.loop-number.text.items
    (text_of (variable_lines number (of_kind wire_kind (map (λ port. port.name) (drop number ports)))))
    c.loop-number.invariant
    (ap (λ (rest : List Port). text_of (variable_lines number (of_kind wire_kind (map (λ port. port.name) rest)))) (drop_of_length-le ports {i = number} (omega arith)) ∙ text_of-none)
