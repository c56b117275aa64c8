use Rattle.std.proofs.Common.{refl}
use Rattle.chipdb_reader.proofs.Ends.{HasRead-nothing}
use Rattle.chipdb_reader.proofs.line_reader.LineReader.new.Goals as goal

pub returns-clause-taken : goal.returns-clause-taken
returns-clause-taken c = record { read = HasRead-nothing c.new-reader.result c.new-reader.ensures; count_is = refl }
