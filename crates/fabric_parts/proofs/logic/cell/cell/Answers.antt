use Rattle.fabric_model.specs.Cells.{cell_with}
use Rattle.fabric_parts.proofs.logic.cell.cell.Goals as goal

pub returns : goal.returns
unfolding cell_with
returns c = cc
