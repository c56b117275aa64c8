use Rattle.std.proofs.Common.{◌≡◌, ◌++◌}
use Rattle.std.specs.Map.{values_of}
use Rattle.chipdb_reader.specs.Plls.{all_plls}
use Rattle.chipdb_reader.proofs.plls.Plls.into_cells.Given as goal

abbrev pub invariant-loop-cell : goal.invariant-loop-cell
invariant-loop-cell l = record {
  all : l.yielded ++ l.cell-iterator ≡ all_plls l.fn.self;
  kept : l.cells.items ≡ values_of l.yielded;
}
