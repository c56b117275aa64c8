use Rattle.std.proofs.Common.{ap, sym, ◌∙◌}
use Rattle.std.proofs.lemmas.Result.{IfOk-weaker}
use Rattle.vlog_forms.specs.Items.{atom_in}
use Rattle.vlog_forms.specs.Reading.{values_of}
use Rattle.vlog_form_parser.specs.Found.{all_found}
use Rattle.vlog_form_parser.proofs.ValuesAt.{named-first}
use Rattle.vlog_form_parser.proofs.values.atom_at.Goals as goal

pub atom_of-requires : goal.atom_of-requires
atom_of-requires c =
    let there = c.in-Some.ensures in named-first (values_of (all_found c.args.values.now)) c.args.place _ there.0 c.requires there.1

pub returns-in-Some : goal.returns-in-Some
returns-in-Some c =
    let there = c.in-Some.ensures in
    IfOk-weaker c.atom_of.result _ _ (λ atom is. is there.0 ∙ ap atom_in (sym there.1)) c.atom_of.ensures

pub returns-in-None : goal.returns-in-None
returns-in-None c = sym (ap atom_in c.in-None.ensures)
