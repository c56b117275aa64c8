use Rattle.std.proofs.Common.{[], length, ap, sym, ◌∙◌}
use Rattle.vlog_tokens.specs.Tokens.{spots_at}
use Rattle.vlog_forms.specs.Items.{name_in}
use Rattle.vlog_forms.specs.Reading.{values_of}
use Rattle.vlog_forms.specs.Outcome.{ports_outcome, ports_next}
use Rattle.vlog_form_parser.specs.Found.{all_found}
use Rattle.vlog_form_parser.proofs.Made.{after-zero}
use Rattle.vlog_parser.proofs.modules.parse_named.Goals as goal

pub parse_body-requires-clause-outcome : goal.parse_body-requires-clause-outcome
parse_body-requires-clause-outcome c =
    c.requires.outcome
    ∙ ap (λ name. ports_outcome (length c.args.bytes.now) (all_found c.args.names.now) [] (spots_at c.args.bytes.now c.args.from) (ports_next (length c.args.bytes.now) name))
    (sym (c.in-Ok.ensures ∙ ap name_in (after-zero (values_of (all_found c.args.head.now)))))
