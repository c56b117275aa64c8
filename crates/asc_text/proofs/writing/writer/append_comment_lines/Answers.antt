use Rattle.std.proofs.Common.{[], ◌∷◌, refl, arith}
use Rattle.asc_text.specs.Statements.{comment_keyword}
use Rattle.asc_text.proofs.Pieces.{nothing-written, lines-joined, lines-more, lines-all}
use Rattle.asc_text.proofs.writing.writer.append_comment_lines.Goals as goal

pub loop-place-init : goal.loop-place-init
loop-place-init c = nothing-written c.append_line.new.text.items [] refl

pub loop-place-preserved : goal.loop-place-preserved
loop-place-preserved c =
    lines-more c.append_line.new.text.items c.loop-place.text.items c.append_line-in-loop-place.new.text.items c.args.comment.now c.line.result.now c.loop-place.place (omega (arith, c.len-place-end.ensures.count)) c.line.ensures c.loop-place.invariant c.in_ok-append_line-2.ensures

pub returns-clause-text : goal.returns-clause-text
returns-clause-text c =
    lines-joined c.args.text.now.items c.append_line.new.text.items c.loop-place.text.items (comment_keyword ∷ []) c.args.comment.now c.in_ok-append_line.ensures (lines-all c.append_line.new.text.items c.loop-place.text.items c.args.comment.now c.loop-place.place (omega (arith, c.len-place-end.ensures.count)) c.loop-place.invariant)
