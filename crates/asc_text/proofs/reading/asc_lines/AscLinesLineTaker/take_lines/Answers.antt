use Rattle.std.proofs.lemmas.Result.{err_from_is_err_and}
use Rattle.text_lines.specs.Lines.{lines_of}
use Rattle.asc_text.specs.inside.Reading.{state_of}
use Rattle.asc_text.proofs.LinesRead.{IsReached-more}
use Rattle.asc_text.proofs.Feeding.{taken-more, taken-stops}
use Rattle.asc_text.proofs.reading.asc_lines.AscLinesLineTaker.take_lines.Goals as goal

pub returns-in_err-self-clause-refused : goal.returns-in_err-self-clause-refused
returns-in_err-self-clause-refused c =
    let p = err_from_is_err_and c.from_residual.result c.from_residual.ensures.1 in
    rw (p.1, p.2) (taken-stops c.args.self.now (lines_of c.args.text.now) c.in_err-self.field-0.0 c.in_err-self.ensures.refused)

pub returns-clause-ready : goal.returns-clause-ready
returns-clause-ready c = IsReached-more (state_of c.args.self.now.reader) (state_of c.take_lines.new.self) (lines_of c.args.text.now) c.requires.ready c.in_ok-self.ensures.taken

pub returns-clause-taken : goal.returns-clause-taken
returns-clause-taken c = taken-more c.args.self.now (record { reader = c.take_lines.new.self; count = c.in_ok-self.field-0 }) (lines_of c.args.text.now) c.in_ok-self.ensures.taken c.in_ok-self.ensures.counted
