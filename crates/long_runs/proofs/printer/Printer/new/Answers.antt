use Rattle.std.proofs.Common.{◌∙◌, ℕ, List, ◌++◌, ap, arith, length, sym}
use Rattle.vlog_semantics.specs.Run.{start}
use Rattle.long_runs.specs.inside.Printing.{start_text}
use Rattle.long_runs.proofs.Kept.{start-names}
use Rattle.long_runs.proofs.printer.Printer.new.Goals as goal

pub put_start-requires : goal.put_start-requires
put_start-requires c =
    let m = c.args.module.now in
    let shows = c.in_ok-runner.ensures in
    record {
      m = m;
      entry = start m;
      shows = shows;
      fits = omega (
        arith,
        c.in_ok-line_room.ensures m (start m) shows,
        c.in_ok-text.ensures.room,
        ap (λ (items : List ℕ). length items) c.in_ok-text.ensures.empty,
        c.in_ok-text.text.ok.0,
      );
    }

pub returns-clause-prints : goal.returns-clause-prints
returns-clause-prints c =
    let m = c.args.module.now in
    let shows = c.in_ok-runner.ensures in
    record {
      shows = shows;
      names = start-names m;
      seen = λ changes. c.in_ok-seen.ensures m (start m) c.args.form.registers shows;
      line = sym (c.in_ok-line_room.ensures m (start m) shows);
      room = omega (arith, c.in_ok-text.ensures.room, c.put_start.ensures.room);
    }

pub returns-clause-text : goal.returns-clause-text
returns-clause-text c =
    let m = c.args.module.now in
    let form = c.args.form in
    c.put_start.ensures.text m (start m) c.in_ok-runner.ensures
    ∙ ap (λ (front : List ℕ). front ++ start_text form.shown form.registers (start m)) c.in_ok-text.ensures.empty
