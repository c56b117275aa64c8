use Rattle.std.proofs.Common.{◌+◌, ◌++◌, length, drop, refl, arith}
use Rattle.std.specs.Prelude.{None}
use Rattle.bin_stream.specs.inside.Stages.{stage_of, IsStage}
use Rattle.bin_stream.proofs.FrontGrown.{plain-goes_on}
use Rattle.bin_stream.proofs.Stages.{reading-at, plain-ends, begins}
use Rattle.bin_stream.proofs.reading.stage.plain_after.Goals as goal

pub returns-in-Some-clause-stands : goal.returns-in-Some-clause-stands
returns-in-Some-clause-stands c = λ bytes fed_is keeps.
    let piece = c.args.piece.now in
    let all = bytes ++ piece in
    let start = c.in-Some.start in
    let m = c.new in
    begins (λ layouts. IsStage layouts all (stage_of c.commands_after.result)) c.args.layouts m.result.layouts all None m.result.registers m.result.image c.following.result.offset c.following.result.bytes.now m.ensures.layouts m.ensures.image
    (reading-at c.args.layouts all None m.result.registers None (length bytes + start) c.following.result.offset (drop start piece) c.following.result.bytes.now (omega (arith, c.following.ensures.offset, fed_is)) c.following.ensures.bytes
    (plain-ends c.args.layouts bytes c.args.last piece keeps start m.result.registers c.in-Some.ensures.some c.in-Some.ensures.found m.ensures.registers))
    (c.commands_after.ensures.stands all)

pub returns-in-None-clause-stands : goal.returns-in-None-clause-stands
returns-in-None-clause-stands c = λ bytes fed_is keeps.
    plain-goes_on bytes c.args.last c.args.piece.now keeps c.last_after.result (c.in-None.ensures.none refl) c.last_after.ensures
