use Rattle.std.proofs.Common.{◌∙◌, ◌∷◌, Bool, [], ap, arith, sym}
use Rattle.std.specs.Prelude.{None, Some}
use Rattle.tool_inputs.proofs.CommandLines.{text-is_some}
use Rattle.tool_inputs.proofs.UnderLayouts.{file-sound, one-sound}
use Rattle.tool_inputs.specs.Databases.{database_limit}
use Rattle.tool_inputs.specs.Images.{image_limit}
use Rattle.tool_run.proofs.Same.{Does-same}
use Rattle.tool_run.specs.Needs.{text_of}
use Rattle.tool_run.specs.Tasks.{beside_task, layout_task}
use Rattle.design_answers.specs.PinRequests.{pins_limit}
use Rattle.design_tools.specs.Vlog.{named_answer, vlog_name}
use Rattle.design_tools.proofs.naming.write_named.Goals as goal

pub perform_beside-requires-clause-sound : goal.perform_beside-requires-clause-sound
perform_beside-requires-clause-sound g c = file-sound _ pins_limit _ (omega arith) (file-sound _ database_limit _ (omega arith) (one-sound _ (omega arith)))

pub returns : goal.returns
returns g c =
    let request = c.args.request in
    let pins = c.args.pins in
    Does-same _ _ _ _ _ _
    (ap (λ (has_list : Bool). beside_task (text_of request.names) (layout_task vlog_name (text_of request.layout)
    (record { name = Some pins.file.now; limit = pins_limit } ∷ record { name = Some request.db.now; limit = database_limit } ∷ record { name = text_of request.image; limit = image_limit } ∷ [])
    None (λ file texts. named_answer request.options file request.name.text.now pins.package_name.now has_list texts))) (c.is_some.ensures ∙ sym (text-is_some request.names)))
    c.perform_beside.ensures
