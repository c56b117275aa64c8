use Rattle.std.proofs.Common.{◌≡◌, [], length, ap, sym, ◌∙◌}
use Rattle.vlog_tokens.specs.Tokens.{spots_at}
use Rattle.vlog_module.specs.Parts.{Parts}
use Rattle.vlog_forms.specs.Outcome.{ports_outcome, ports_next}
use Rattle.vlog_form_parser.specs.Found.{all_found}
use Rattle.vlog_parser.proofs.ItemSteps.{refuses-same}
use Rattle.vlog_parser.proofs.modules.parse_body.Goals as goal

pub returns-in-Err : goal.returns-in-Err
returns-in-Err c =
    let empty : c.new_draft-draft.result.ports.items ≡ [] = ap (λ (m : Parts). m.ports) c.new_draft-draft.ensures.parts in
    refuses-same _ _ c.in-Err.refusal
    (c.requires.outcome
    ∙ ap (λ ports. ports_outcome (length c.args.bytes.now) (all_found c.args.names.now) ports (spots_at c.args.bytes.now c.args.from) (ports_next (length c.args.bytes.now) c.args.name)) (sym empty))
    (c.in-Err.ensures.declares (ports_next (length c.args.bytes.now) c.args.name))
