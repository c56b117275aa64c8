use Rattle.std.proofs.Common.{[], refl}
use Rattle.tool_run.specs.Needs.{text_of}
use Rattle.tool_run.proofs.Outcomes.{begun}
use Rattle.tool_run.proofs.answering.answer_taken.Goals as goal

pub returns-in-Ok : goal.returns-in-Ok
returns-in-Ok g c =
    let T = g.T.PieceTool in
    let tool = c.args.tool.now in
    let layout = text_of c.args.layout in
    let l = c.in-Ok.ensures in
    let kept = l.texts.2 (tool, layout) [] (refl, begun (T.takes tool layout []) (T.answer_of tool layout) c.begin-intake.result c.begin-intake.ensures.taken c.begin-intake.ensures.stops) in
    record {
      made = (l.texts.0, l.texts.1, c.finished.ensures layout l.texts.0 kept.1);
      stops = tt;
      end = λ reads. l.end reads;
      same_contents = l.same_contents;
      same_stores = l.same_stores;
      unread = l.unread;
      unreached = l.unreached;
      unasked = l.unasked;
    }
