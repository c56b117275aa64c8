use Rattle.std.proofs.Common.{take}
use Rattle.vlog_engine.specs.Watching.{AddsReader}
use Rattle.vlog_engine.proofs.watching.add_to_each.Given as goal

abbrev pub invariant-loop-cell : goal.invariant-loop-cell
invariant-loop-cell l = AddsReader l.place (take l.cell-index l.cells) l.initial.readers.items l.readers.items
