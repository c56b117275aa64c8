use Rattle.std.proofs.Common.{◌∙◌, ℕ, List, ◌++◌, ap, sym}
use Rattle.std.specs.Prelude.{codes}
use Rattle.vlog_waves.specs.Waves.{identifier, kind_text, range_text, variable_line}
use Rattle.vlog_waves.specs.inside.Declared.{kind_of, label_text}
use Rattle.vlog_waves.proofs.Texts.{line-made, text_of_one}
use Rattle.vlog_waves.proofs.declarations.push_variable.Goals as goal

pub returns : goal.returns
returns c =
    let kind = kind_of c.args.kind in
    let number = c.args.number in
    let name = label_text c.args.label in
    let start = c.args.text.now.items in
    line-made start c.extend_from_slice.new.self.items c.push_identifier.new.text.items c.push_byte.new.text.items c.push_label.new.text.items c.extend_from_slice-2.new.self.items
    (codes "$var ") (kind_text kind) (identifier number) name (range_text kind) (codes " $end")
    (c.in_ok-extend_from_slice.ensures.items ∙ ap (λ (front : List ℕ). start ++ front) c.front.ensures)
    c.in_ok-push_identifier.ensures.text
    c.in_ok-push_byte.ensures.text
    c.in_ok-push_label.ensures
    (c.in_ok-extend_from_slice-2.ensures.items ∙ ap (λ (end : List ℕ). c.push_label.new.text.items ++ end) c.end.ensures)
    ∙ ap (λ (line : List ℕ). start ++ line) (sym (text_of_one (variable_line number (record { kind = kind; name = name }))))
