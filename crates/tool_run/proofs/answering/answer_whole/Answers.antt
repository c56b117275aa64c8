use Rattle.std.proofs.Common.{◌≡◌, [], List, ℕ, ap, subst, sym}
use Rattle.std.specs.Prelude.{map, vec_items}
use Rattle.tool_run.specs.Needs.{need_of}
use Rattle.tool_run.specs.Loads.{AreTextsOf}
use Rattle.tool_run.specs.Tasks.{Done}
use Rattle.tool_run.proofs.Outcomes.{gives_of}
use Rattle.tool_run.proofs.answering.answer_whole.Goals as goal

pub returns-in-Ok : goal.returns-in-Ok
returns-in-Ok g c =
    let needs = map need_of c.args.loads.now in
    let texts = map vec_items c.load_all.new.keeper.items in
    let l = c.in-Ok.ensures in
    let read : texts ≡ l.texts.0 = l.texts.2 tt [] (ap (map vec_items) c.new-loaded.ensures.items) in
    record {
      made = (
        texts,
        subst (λ (all : List (List ℕ)). AreTextsOf (g.F.Files.contents c.args.files.now) (g.I.Source.left c.args.input.now) needs all) (sym read) l.texts.1,
        gives_of (λ made. Done (g.T.Made.Content.bytes made)) c.answer.result (g.T.Tool.answer_of c.args.tool.now texts) c.answer.ensures.bytes c.answer.ensures.stops,
      );
      stops = tt;
      end = λ reads. l.end reads;
      same_contents = l.same_contents;
      same_stores = l.same_stores;
      unread = l.unread;
      unreached = l.unreached;
      unasked = l.unasked;
    }
