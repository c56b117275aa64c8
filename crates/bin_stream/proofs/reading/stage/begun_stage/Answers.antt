use Rattle.std.proofs.Common.{◌∙◌, ◌+◌, drop, ap, arith}
use Rattle.bin_stream.specs.inside.Stages.{stage_of, IsStage}
use Rattle.bin_stream.proofs.Stages.{reading-begins, begins}
use Rattle.bin_stream.proofs.reading.stage.begun_stage.Goals as goal

pub returns-clause-stands : goal.returns-clause-stands
returns-clause-stands c = λ is.
    let bytes = c.args.bytes.now in
    let place = c.args.place in
    let m = c.new-2 in
    let at = c.following-at in
    let comment = c.in_ok-comment.comment in
    begins (λ layouts. IsStage layouts bytes (stage_of c.commands_after.result)) c.args.layouts m.result.layouts bytes comment m.result.registers m.result.image at.result.offset at.result.bytes.now m.ensures.layouts m.ensures.image
    (reading-begins c.args.layouts bytes place comment m.result.registers is c.in_ok-comment.ensures m.ensures.registers at.result.offset at.result.bytes.now (omega (arith, at.ensures.offset, c.new.ensures.offset)) (at.ensures.bytes ∙ ap (drop (place + 4)) c.new.ensures.bytes))
    (c.commands_after.ensures.stands bytes)
