use Rattle.std.proofs.Common.{◌<◌, ◌||◌, ◌∙◌, length, take, ap, arith}
use Rattle.std.specs.Prelude.{bytes_eq}
use Rattle.image_explain.specs.Inside.{lists_of}
use Rattle.image_diff.specs.Differences.{is_among}
use Rattle.image_diff.proofs.LineSets.{among-next}
use Rattle.image_diff.proofs.Written.{item-line, length-lists}
use Rattle.image_diff.proofs.line_set.LineSet.of.Goals as goal

pub loop-line-preserved : goal.loop-line-preserved
loop-line-preserved c = λ other.
    let lines = lists_of c.args.lines.now in
    let n = c.loop-line.line-index in
    let within : n < length c.args.lines.now = c.loop-line-test.true in
    c.in_ok-insert.ensures other
    ∙ ap (λ b. b || bytes_eq c.deref.result.now other) (c.loop-line.invariant other)
    ∙ ap (λ line. is_among (take n lines) other || bytes_eq line other) c.deref.ensures.value
    ∙ among-next lines n c.line-item.result.items other (omega (arith, length-lists c.args.lines.now)) (item-line c.args.lines.now n c.line-item.result within c.line-item.is)
