use Rattle.std.proofs.Common.{◌≡◌, ◌∙◌, sym, ap, ap₂}
use Rattle.std.specs.Prelude.{Option, codes}
use Rattle.std.specs.Option.{option_map}
use Rattle.clap.specs.Words.{Text, first_of, found_of, rows_of}
use Rattle.fabric_model.specs.declared.options.FabricOptions.{FabricOptions}
use Rattle.tool_run.specs.Needs.{text_of}
use Rattle.tool_inputs.specs.Commands.{has_flag}
use Rattle.design_answers.specs.PinRequests.{Named, named_by, pins_in, pins_of_request}
use Rattle.design_tools.specs.Names.{name_given}
use Rattle.design_tools.specs.Vlog.{name_text, options_in, options_wanted, vlog_task_of}
use Rattle.design_tools.proofs.CommandLines.{name_text-map}
use Rattle.design_tools.proofs.request.request_in.Goals as goal

pub returns : goal.returns
returns c =
    let rows = rows_of (found_of c.args.matches.now) in
    let options : c.options_wanted-options.result ≡ options_in rows = c.options_wanted-options.ensures ∙ ap₂ (λ used all. options_wanted used all c.has_flag-registers.result) c.has_flag-used.ensures c.has_flag-all.ensures
    ∙ ap (options_wanted (has_flag (codes "used-inputs") rows) (has_flag (codes "all-pins") rows)) c.has_flag-registers.ensures in
    let name = sym (name_text-map c.name_given-name.result) ∙ c.name_given-name.ensures ∙ ap name_given c.value-given.ensures in
    let pins : option_map pins_of_request c.pins_wanted-pins.result ≡ pins_in rows = c.pins_wanted-pins.ensures ∙ ap₂ named_by c.value-file.ensures c.value-package_name.ensures in
    let given = name_given (first_of (codes "name") rows) in
    c.wanted.ensures
    ∙ ap (λ (one : FabricOptions). vlog_task_of one (name_text c.name_given-name.result) (option_map pins_of_request c.pins_wanted-pins.result) (text_of c.value-names.result) (text_of c.value-layout.result) (text_of c.value-db.result) (text_of c.value-image.result)) options
    ∙ ap₂ (λ (n : Option Text) (p : Option (Option Named)). vlog_task_of (options_in rows) n p (text_of c.value-names.result) (text_of c.value-layout.result) (text_of c.value-db.result) (text_of c.value-image.result)) name pins
    ∙ ap₂ (λ (n l : Option Text). vlog_task_of (options_in rows) given (pins_in rows) n l (text_of c.value-db.result) (text_of c.value-image.result)) c.value-names.ensures c.value-layout.ensures
    ∙ ap₂ (vlog_task_of (options_in rows) given (pins_in rows) (first_of (codes "names") rows) (first_of (codes "layout") rows)) c.value-db.ensures c.value-image.ensures
