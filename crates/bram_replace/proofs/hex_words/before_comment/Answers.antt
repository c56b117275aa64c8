use Rattle.std.proofs.Common.{sym, ap, ◌∙◌, arith}
use Rattle.std.proofs.lemmas.List.{take_rest}
use Rattle.bram_replace.specs.HexText.{begins_comment}
use Rattle.bram_replace.proofs.HexWords.{before_comment-more, before_comment-here, before_comment-all}
use Rattle.bram_replace.proofs.hex_words.before_comment.Goals as goal

pub returns-then-begins_comment : goal.returns-then-begins_comment
returns-then-begins_comment c =
    let line = c.args.line.now in
    let i = c.loop-index.index in
    before_comment-here line i c.loop-index-test.true (ap begins_comment (sym (take_rest line i)) ∙ sym c.begins_comment.ensures ∙ c.if-begins_comment.true) c.loop-index.invariant

pub loop-index-preserved : goal.loop-index-preserved
loop-index-preserved c =
    let line = c.args.line.now in
    let i = c.loop-index.index in
    before_comment-more line i c.loop-index-test.true (ap begins_comment (sym (take_rest line i)) ∙ sym c.begins_comment.ensures ∙ c.if-begins_comment.false) c.loop-index.invariant

pub returns : goal.returns
returns c = before_comment-all c.args.line.now c.loop-index.index (omega arith) c.loop-index.invariant
