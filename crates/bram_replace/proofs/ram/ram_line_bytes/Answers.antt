use Rattle.std.proofs.Common.{refl, sym, ◌∙◌}
use Rattle.std.proofs.lemmas.Bool.{false≢true}
use Rattle.asc_text.proofs.MemoryLines.{memory_line-decoded, memory_line-refused, decoded-written, decoded-refused}
use Rattle.bram_replace.proofs.ram.ram_line_bytes.Goals as goal

pub unreachable-requires : goal.unreachable-requires
unreachable-requires c =
    let refused = decoded-refused _ _ _ _ c.in-Err.ensures.value refl in
    false≢true (sym (memory_line-refused c.args.line.now refused.0 refused.1) ∙ c.requires)

pub returns : goal.returns
returns c = sym (memory_line-decoded c.args.line.now _ (decoded-written _ _ _ c.in-Ok.ensures.value refl)).1
