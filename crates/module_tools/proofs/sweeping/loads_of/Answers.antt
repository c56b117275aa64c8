use Rattle.std.proofs.Common.{take}
use Rattle.std.specs.Prelude.{map}
use Rattle.tool_run.specs.Needs.{need_of}
use Rattle.module_tools.specs.Vlogsweep.{names_of}
use Rattle.module_tools.proofs.Sweeps.{needs_sound}
use Rattle.module_tools.proofs.sweeping.loads_of.Goals as goal

pub returns-clause-sound : goal.returns-clause-sound
returns-clause-sound c =
    needs_sound (map need_of c.loop-name.loads.items) c.args.module.now (names_of (take c.loop-name.name-index c.args.names.now)) c.loop-name.invariant
