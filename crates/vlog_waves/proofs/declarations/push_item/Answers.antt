use Rattle.std.proofs.Common.{◌∙◌, ℕ, List, ◌++◌, ap, append-nil, map, sym}
use Rattle.text_lines.specs.Written.{text_of}
use Rattle.vlog_waves.specs.Variables.{of_kind}
use Rattle.vlog_waves.specs.Waves.{variable_lines}
use Rattle.vlog_waves.specs.inside.Declared.{kind_of, shown}
use Rattle.vlog_waves.proofs.Texts.{text_of-none}
use Rattle.vlog_waves.proofs.declarations.push_item.Goals as goal

pub returns-in-None-clause-text : goal.returns-in-None-clause-text
returns-in-None-clause-text c =
    let text = c.args.text.now.items in
    let none = ap (λ (names : List (List ℕ)). text_of (variable_lines c.args.number (of_kind (kind_of c.args.kind) (map (shown c.args.names.now c.args.kind) names)))) c.in-None.ensures.none ∙ text_of-none in
    sym (append-nil text) ∙ ap (λ (more : List ℕ). text ++ more) (sym none)
