use Rattle.std.proofs.Common.{◌≡◌, fold, take}
use Rattle.vlog_engine.specs.Marks.{lists_of, with_reader}
use Rattle.vlog_engine.proofs.readers.add_readers.Given as goal

abbrev pub invariant-loop-cell : goal.invariant-loop-cell
invariant-loop-cell l = lists_of l.readers.items ≡ fold (with_reader l.place) (lists_of l.initial.readers.items) (take l.cell-index l.cells)
