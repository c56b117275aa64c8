use Rattle.std.proofs.Common.{slice_index}
use Rattle.ice_image.specs.Written.{IsSpread}
use Rattle.ice_image.proofs.columns.spread_over.Given as goal

abbrev pub invariant-loop-col : goal.invariant-loop-col
invariant-loop-col l = IsSpread (slice_index l.columns) l.col 64 l.row_bits l.spread
