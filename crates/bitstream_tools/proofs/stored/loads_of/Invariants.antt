use Rattle.std.proofs.Common.{◌≡◌, take}
use Rattle.std.specs.Prelude.{map}
use Rattle.tool_run.specs.Needs.{need_of}
use Rattle.bitstream_tools.specs.Multi.{image_need}
use Rattle.bitstream_tools.proofs.stored.loads_of.Given as goal

abbrev pub invariant-loop-name : goal.invariant-loop-name
invariant-loop-name l = map need_of l.loads.items ≡ map image_need (map (λ name. name.now) (take l.name-index l.names))
