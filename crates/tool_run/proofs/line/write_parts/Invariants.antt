use Rattle.std.proofs.Common.{◌≤◌, take}
use Rattle.std.specs.List.{flat_map}
use Rattle.tool_run.specs.Lines.{part_text}
use Rattle.std.specs.Io.KnownBytes.{Appends}
use Rattle.tool_run.proofs.line.write_parts.Given as goal

abbrev pub invariant-loop-part : goal.invariant-loop-part
invariant-loop-part g l = record {
  written : Appends (g.E.Sink.held l.fn.errors) (g.E.Sink.held l.errors) (flat_map part_text (take l.part-index l.parts));
  faults : g.E.Sink.faults l.fn.errors ≤ g.E.Sink.faults l.errors;
}
