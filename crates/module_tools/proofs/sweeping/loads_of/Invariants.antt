use Rattle.std.proofs.Common.{◌≡◌, take}
use Rattle.std.specs.Prelude.{map}
use Rattle.tool_run.specs.Needs.{need_of}
use Rattle.module_tools.specs.Vlogsweep.{names_of, sweep_needs}
use Rattle.module_tools.proofs.sweeping.loads_of.Given as goal

abbrev pub invariant-loop-name : goal.invariant-loop-name
invariant-loop-name l = map need_of l.loads.items ≡ sweep_needs l.module (names_of (take l.name-index l.names))
