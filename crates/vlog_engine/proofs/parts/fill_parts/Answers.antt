use Rattle.std.proofs.Common.{◌+◌, ap, arith, take, ◌∙◌}
use Rattle.vlog_semantics.proofs.Cells.{parts-more}
use Rattle.vlog_engine.proofs.parts.fill_parts.Goals as goal

pub loop-place-preserved : goal.loop-place-preserved
loop-place-preserved c =
    ap (take (c.loop-place.place + 1)) c.set_bit.ensures
    ∙ parts-more c.args.words.now c.loop-place.parts c.loop-place.place c.part_at-bit.result (omega arith) c.loop-place.invariant c.part_at-bit.ensures
