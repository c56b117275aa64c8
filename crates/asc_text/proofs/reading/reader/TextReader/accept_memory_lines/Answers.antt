use Rattle.std.proofs.Common.{refl}
use Rattle.asc_text.specs.inside.Reading.{state_of}
use Rattle.asc_text.proofs.reading.reader.TextReader.accept_memory_lines.Goals as goal

pub returns : goal.returns
returns c = rw c.before_memory-self.ensures (c.set_memory_lines-taken.ensures.taken (state_of c.args.self.now) refl c.requires.expected)
