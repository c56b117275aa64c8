use Rattle.std.proofs.Common.{◌∙◌, Some, arith}
use Rattle.std.proofs.lemmas.List.{take_rest}
use Rattle.asc_text.proofs.PlainLines.{more-memory_lines}
use Rattle.asc_text.proofs.reading.reader.plain.set_lines_of_ram.Goals as goal

pub loop-row-preserved : goal.loop-row-preserved
loop-row-preserved c =
    let args = c.args in
    let i = c.loop-row.invariant in
    let left = c.loop-row.left.now in
    let took = c.if-not-set_plain_memory_line.ensures in
    record {
      from = omega (arith, i.from);
      within = omega arith;
      device = took.2.device ∙ i.device;
      taken = rw (take_rest left 65)
          (more-memory_lines args.x args.y args.first c.loop-row.row (Some args.image.now) c.loop-row.image c.set_plain_memory_line.new.image args.text.now left i.from (omega arith) i.taken took.0 took.1 took.2);
    }
