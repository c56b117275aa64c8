use Rattle.std.proofs.Common.{◌≡◌, map, take}
use Rattle.fabric_wiring.specs.Parts.{buffer_of}
use Rattle.fabric.specs.Buffers.{buffers_at}
use Rattle.fabric.proofs.parts.buffers.Given as goal

abbrev pub invariant-loop-place : goal.invariant-loop-place
invariant-loop-place l = map buffer_of l.buffers.items ≡ buffers_at l.lines (take l.place-index l.places)
