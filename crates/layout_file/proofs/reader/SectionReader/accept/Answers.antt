use Rattle.layout_file.specs.Lines.{line_of}
use Rattle.layout_file.proofs.RefusedLines.{refused-as-none}
use Rattle.layout_file.proofs.reader.SectionReader.accept.Goals as goal

pub returns-in-Unknown-clause-refused : goal.returns-in-Unknown-clause-refused
returns-in-Unknown-clause-refused c = refused-as-none c.args.self.now (line_of c.args.line.now) c.in-Unknown.ensures
