use Rattle.std.proofs.Common.{◌≡◌, ◌∙◌, ap, codes, refl, sym}
use Rattle.std.specs.Prelude.{is_some}
use Rattle.clap.specs.Words.{first_of, found_of, rows_of}
use Rattle.tool_inputs.proofs.CommandLines.{text-is_some}
use Rattle.module_tools.proofs.request.request_in.Goals as goal

pub returns : goal.returns
returns c =
    let has : c.is_some.result ≡ is_some (first_of (codes "names") (rows_of (found_of c.args.matches.now))) =
    c.is_some.ensures ∙ sym (text-is_some c.value-names.result) ∙ ap is_some c.value-names.ensures in
    c.wanted.ensures
    ∙ rw (c.told_by-told.ensures, c.has_flag.ensures, has, c.line_flags.ensures, c.events_form-form.ensures, c.has_flag-2.ensures, c.value-names.ensures, c.value-module.ensures, c.value-events.ensures) refl
