use Rattle.std.proofs.Common.{◌<◌, ◌∙◌, ◌==◌, length, get_or, sym, arith}
use Rattle.std.specs.Prelude.{nat_lt}
use Rattle.std.proofs.lemmas.Bool.{and_parts, ltb-true}
use Rattle.std.proofs.lemmas.List.{length-take-le}
use Rattle.asc_text.proofs.reading.reader.plain.plain_memory_line.Goals as goal

pub slice_bounds-ram_line_bytes-end : goal.slice_bounds-ram_line_bytes-end
slice_bounds-ram_line_bytes-end c =
    let text = c.args.text.now in
    let parts = and_parts (nat_lt 64 (length text)) (get_or text 64 0 == 10) (sym c.is_lf_at.ensures ∙ c.if-is_lf_at.true) in
    let within : 64 < length text = ltb-true 64 (length text) parts.0 in
    sym (length-take-le 64 text (omega (arith, within)))
