use Rattle.std.proofs.Common.{arith}
use Rattle.tool_inputs.proofs.UnderLayouts.{file-sound, one-sound}
use Rattle.tool_inputs.specs.Databases.{database_limit}
use Rattle.fabric_tools.proofs.planning.draw_plain.Goals as goal

pub perform_in_pieces-requires : goal.perform_in_pieces-requires
perform_in_pieces-requires g c = file-sound _ database_limit _ (omega arith) (one-sound _ (omega arith))

pub returns : goal.returns
returns g c = c.perform_in_pieces.ensures
