use Rattle.std.proofs.Common.{refl}
use Rattle.asc_text.specs.inside.Reading.{state_of}
use Rattle.asc_text.proofs.reading.reader.TextReader.accept_rows.Goals as goal

pub returns : goal.returns
returns c = rw c.before_row-self.ensures (c.set_rows-taken.ensures.taken (state_of c.args.self.now) refl c.requires.expected)
