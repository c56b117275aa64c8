use Rattle.std.proofs.Common.{◌<◌, [], ◌∷◌, ◌++◌, length, ap, ◌∙◌, arith}
use Rattle.std.specs.Prelude.{if◌then◌else◌}
use Rattle.text_lines.specs.Written.{text_of}
use Rattle.image_explain.specs.Inside.{lists_of}
use Rattle.image_diff.specs.Differences.{is_among}
use Rattle.image_diff.proofs.Written.{item-line, length-lists, without-more}
use Rattle.image_diff.proofs.lines.append_without.Goals as goal

pub loop-line-preserved : goal.loop-line-preserved
loop-line-preserved c =
    let others = lists_of c.args.others.now in
    let text = c.loop-line.text.items in
    let sign = c.args.sign in
    let within : c.loop-line.line-index < length c.args.lines.now = c.loop-line-test.true in
    without-more c.args.text.now.items text c.append_unless.new.text.items sign others (lists_of c.args.lines.now) c.line-item.result.items c.loop-line.line-index
    (omega (arith, length-lists c.args.lines.now)) (item-line c.args.lines.now c.loop-line.line-index c.line-item.result within c.line-item.is) c.loop-line.invariant
    (c.in_ok-append_unless.ensures
    ∙ ap (λ test. text ++ text_of (if test then [] else (sign ∷ c.deref-in-loop-line.result.now) ∷ [])) (c.contains.ensures ∙ c.in_ok-others.ensures c.deref.result.now ∙ ap (is_among others) c.deref.ensures.value)
    ∙ ap (λ line. text ++ text_of (if is_among others c.line-item.result.items then [] else (sign ∷ line) ∷ [])) c.deref-in-loop-line.ensures.value)
