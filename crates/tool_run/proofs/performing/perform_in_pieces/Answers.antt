use Rattle.tool_run.specs.Counts.{counts}
use Rattle.tool_run.specs.Jobs.{task_under}
use Rattle.tool_run.specs.Needs.{text_of}
use Rattle.tool_run.specs.Runs.{outside}
use Rattle.tool_run.specs.Tasks.{Both, beside_task}
use Rattle.tool_run.proofs.Concluding.{concluded_run, stopped_run}
use Rattle.tool_run.proofs.performing.perform_in_pieces.Goals as goal

pub returns-in-Ok : goal.returns-in-Ok
returns-in-Ok g c =
    let F = g.F.Files in
    let I = g.I.Source in
    let O = g.O.Sink in
    let E = g.E.Sink in
    let task = beside_task (text_of c.args.beside) (task_under (text_of c.args.layout) c.args.job.now (g.T.PieceTool.answer_of c.args.tool.now)) in
    concluded_run (outside F.contents F.steady (counts F.load_faults F.bytes_read) (counts F.store_faults F.stores) I.left (counts I.faults I.bytes_read) O.held O.faults E.held E.faults) task g.T.Made.Product.bytes g.T.Made.Product.beside c.in-Ok.made c.conclude.result c.args.files.now c.answer_in_pieces.new.files c.conclude.new.files
    c.args.input.now c.answer_in_pieces.new.input c.args.output.now c.conclude.new.output c.args.errors.now c.conclude.new.errors c.in-Ok.ensures c.conclude.ensures

pub returns-in-Err : goal.returns-in-Err
returns-in-Err g c =
    let F = g.F.Files in
    let I = g.I.Source in
    let O = g.O.Sink in
    let E = g.E.Sink in
    let task = beside_task (text_of c.args.beside) (task_under (text_of c.args.layout) c.args.job.now (g.T.PieceTool.answer_of c.args.tool.now)) in
    stopped_run (outside F.contents F.steady (counts F.load_faults F.bytes_read) (counts F.store_faults F.stores) I.left (counts I.faults I.bytes_read) O.held O.faults E.held E.faults) task (λ made. Both (g.T.Made.Product.bytes made) (g.T.Made.Product.beside made)) c.in-Err.stop c.tell_stop.result c.args.files.now c.answer_in_pieces.new.files
    c.args.input.now c.answer_in_pieces.new.input c.args.output.now c.args.errors.now c.tell_stop.new.errors c.in-Err.ensures c.tell_stop.ensures
