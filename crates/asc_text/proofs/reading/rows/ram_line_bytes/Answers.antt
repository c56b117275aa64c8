use Rattle.std.proofs.Common.{refl}
use Rattle.asc_text.proofs.MemoryLines.{memory_line-decoded, memory_line-refused, decoded-written, decoded-refused}
use Rattle.asc_text.proofs.reading.rows.ram_line_bytes.Goals as goal

pub returns-in-Ok : goal.returns-in-Ok
returns-in-Ok c = memory_line-decoded c.args.line.now _ (decoded-written _ _ _ c.in-Ok.ensures.value refl)

pub returns-in-Err : goal.returns-in-Err
returns-in-Err c =
    let refused = decoded-refused _ _ _ _ c.in-Err.ensures.value refl in
    memory_line-refused c.args.line.now refused.0 refused.1
