use Rattle.std.proofs.Common.{[]}
use Rattle.tool_run.specs.Lines.{part_text}
use Rattle.tool_run.specs.declared.line.Part.TheVariants as part
use Rattle.ice_io.specs.Put.{written_before}
use Rattle.tool_run.proofs.Pieces.{cut_line}
use Rattle.tool_run.proofs.line.write_parts.Goals as goal

pub returns-in-Err : goal.returns-in-Err
returns-in-Err g c =
    cut_line part_text c.args.parts.now c.loop-part.part-index (part.Text (record { ref_ptr = (0, 0); now = [] })) (written_before c.in-Err.field-0)
    (g.E.Sink.held c.args.errors.now) (g.E.Sink.held c.loop-part.errors) (g.E.Sink.held c.write_part.new.errors)
    (g.E.Sink.faults c.args.errors.now) (g.E.Sink.faults c.loop-part.errors) (g.E.Sink.faults c.write_part.new.errors)
    c.loop-part-test.true c.in-Err.ensures.short c.loop-part.invariant.written c.loop-part.invariant.faults c.in-Err.ensures.part c.in-Err.ensures.failed
