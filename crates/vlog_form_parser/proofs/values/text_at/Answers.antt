use Rattle.std.proofs.Common.{ap, sym, ◌∙◌, refl}
use Rattle.vlog_module.specs.Names.{is_name, reserved_words}
use Rattle.vlog_forms.specs.Items.{name_in}
use Rattle.vlog_forms.specs.Reading.{values_of}
use Rattle.vlog_form_parser.specs.Found.{all_found}
use Rattle.vlog_form_parser.proofs.ValuesAt.{named-first}
use Rattle.vlog_form_parser.proofs.values.text_at.Goals as goal

pub returns-in-Some-clause-named : goal.returns-in-Some-clause-named
returns-in-Some-clause-named c named =
    let there = c.in-Some.ensures in c.text_of.ensures.named (named-first (values_of (all_found c.args.values.now)) c.args.place _ there.0 named there.1)

pub returns-in-Some-clause-text : goal.returns-in-Some-clause-text
returns-in-Some-clause-text c = let there = c.in-Some.ensures in c.text_of.ensures.text there.0 ∙ ap name_in (sym there.1)

pub returns-in-None-clause-text : goal.returns-in-None-clause-text
returns-in-None-clause-text c = sym (ap name_in c.in-None.ensures)

pub returns-in-None-clause-named : goal.returns-in-None-clause-named
unfolding is_name reserved_words
returns-in-None-clause-named c named = refl
