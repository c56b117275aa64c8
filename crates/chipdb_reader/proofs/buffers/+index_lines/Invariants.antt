use Rattle.std.proofs.Common.{length}
use Rattle.chipdb_reader.proofs.buffers.+index_lines.Given as goal

abbrev pub decreases-index_lines : goal.decreases-index_lines
decreases-index_lines l = length l.lines.now
