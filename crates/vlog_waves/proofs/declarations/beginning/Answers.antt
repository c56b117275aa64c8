use Rattle.std.proofs.Common.{◌∙◌, ◌++◌, ap, sym}
use Rattle.std.specs.Prelude.{codes}
use Rattle.text_lines.specs.Written.{text_of}
use Rattle.vlog_waves.specs.Variables.{variables_of}
use Rattle.vlog_waves.specs.Waves.{head_lines, value_lines, variable_lines}
use Rattle.vlog_waves.specs.inside.Values.{values_held}
use Rattle.vlog_waves.proofs.Beginning.{beginning-made, beginning-text}
use Rattle.vlog_waves.proofs.declarations.beginning.Goals as goal

pub returns : goal.returns
unfolding head_lines
returns c =
    let m = c.args.module.now in
    let variables = variable_lines 0 (variables_of c.args.names.now m) in
    let values = value_lines 0 (values_held c.args.values.now) in
    beginning-made c.in_ok-text.text.items c.extend_from_slice.new.self.items c.extend_from_slice-2.new.self.items c.push_variables.new.text.items c.extend_from_slice-3.new.self.items c.push_values.new.text.items c.extend_from_slice-4.new.self.items
    (codes "$timescale 1 ns $end\n$scope module ") m.name (codes " $end\n") (text_of variables) (codes "$upscope $end\n$enddefinitions $end\n#0\n$dumpvars\n") (text_of values) (codes "$end\n")
    c.in_ok-text.ensures.items
    (c.in_ok-extend_from_slice.ensures.items ∙ ap (λ name. c.in_ok-text.text.items ++ name) (c.bytes.ensures.bytes ∙ c.name.ensures.name))
    c.in_ok-extend_from_slice-2.ensures.items
    c.in_ok-push_variables.ensures
    c.in_ok-extend_from_slice-3.ensures.items
    c.in_ok-push_values.ensures
    c.in_ok-extend_from_slice-4.ensures.items
    ∙ sym (beginning-text m.name variables values)
