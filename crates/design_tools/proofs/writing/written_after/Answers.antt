use Rattle.std.proofs.Common.{◌≡◌, []}
use Rattle.std.specs.Prelude.{get_or}
use Rattle.std.proofs.lemmas.Result.{IfOk-weaker, IfErr-weaker}
use Rattle.tool_run.specs.Stops.{StopsWith}
use Rattle.tool_run.specs.Tasks.{Answer, Both}
use Rattle.design_tools.specs.Vlog.{listed, written}
use Rattle.design_tools.proofs.Sources.{told-of}
use Rattle.design_tools.proofs.writing.written_after.Goals as goal

pub returns-in-Ok-clause-bytes : goal.returns-in-Ok-clause-bytes
returns-in-Ok-clause-bytes c =
    IfOk-weaker c.texts_of.result _ _ (λ made is layout texts taken.
    told-of layout texts (written c.args.options c.args.name.now) c.in-Ok.source c.args.has_list (λ answer. answer ≡ Both made.target.items made.beside.items)
    (c.in-Ok.ensures.read layout texts (written c.args.options c.args.name.now (listed c.args.has_list (get_or texts 1 []))) taken) (c.in-Ok.ensures.symbols layout texts taken) is) c.texts_of.ensures.bytes

pub returns-in-Ok-clause-stops : goal.returns-in-Ok-clause-stops
returns-in-Ok-clause-stops c =
    IfErr-weaker c.texts_of.result _ _ (λ stop stops layout texts taken.
    told-of layout texts (written c.args.options c.args.name.now) c.in-Ok.source c.args.has_list (λ (answer : Answer). StopsWith answer stop)
    (c.in-Ok.ensures.read layout texts (written c.args.options c.args.name.now (listed c.args.has_list (get_or texts 1 []))) taken) (c.in-Ok.ensures.symbols layout texts taken) stops) c.texts_of.ensures.stops

pub returns-in-Err-clause-stops : goal.returns-in-Err-clause-stops
returns-in-Err-clause-stops c = λ layout texts taken. c.in-Err.ensures.stops layout texts (written c.args.options c.args.name.now (listed c.args.has_list (get_or texts 1 []))) taken
