use Rattle.std.proofs.Common.{◌∙◌, List, sym, ap, ap₂, subst}
use Rattle.std.specs.Prelude.{Some, map}
use Rattle.std.proofs.lemmas.List.{length-map}
use Rattle.boot_file.specs.declared.options.Options.{Options}
use Rattle.boot_file.specs.Refusals.{check_fault}
use Rattle.tool_run.specs.Needs.{IsSound, Need, need_of, text_of}
use Rattle.tool_run.specs.Tasks.{plain_task}
use Rattle.tool_run.proofs.Same.{Does-same}
use Rattle.bitstream_tools.specs.Laws.{multi-speaks}
use Rattle.bitstream_tools.specs.Multi.{icemulti_name, icemulti_task_of, join_answer, join_task}
use Rattle.bitstream_tools.proofs.Images.{images-sound}
use Rattle.bitstream_tools.proofs.multi.join_checked.Goals as goal

pub perform-requires : goal.perform-requires
perform-requires g c = subst (λ (needs : List Need). IsSound needs) (sym (ap (map need_of) c.as_slice.ensures.value ∙ c.in-Ok.ensures.loads)) (images-sound _)

pub returns-in-Ok : goal.returns-in-Ok
returns-in-Ok g c =
    let request = c.args.request in
    let names = map (λ name. name.now) request.names.now in
    let accepted = ap (λ n. check_fault n request.options) (length-map request.names.now (λ name. name.now)) ∙ c.requires.accepted in
    Does-same _ _ _ _ _ _
    (ap₂ (λ (needs : List Need) (options : Options). plain_task icemulti_name needs (text_of request.output) (join_answer options))
    (ap (map need_of) c.as_slice.ensures.value ∙ c.in-Ok.ensures.loads) c.in-Ok.ensures.options
    ∙ ap (join_task request.as_stock names request.options (text_of request.output)) (sym accepted))
    c.perform.ensures

pub returns-in-Err : goal.returns-in-Err
returns-in-Err g c =
    let request = c.args.request in
    let names = map (λ name. name.now) request.names.now in
    c.give_up.ensures (icemulti_task_of request.as_stock names (text_of request.output) (Some request.options))
    (multi-speaks request.as_stock names (text_of request.output) (Some request.options))
