use Rattle.std.proofs.Common.{◌<◌, [], ◌∷◌, ◌++◌, length, map, ap, sym, ◌∙◌, arith}
use Rattle.std.proofs.lemmas.List.{get_or-map, length-map}
use Rattle.text_lines.specs.Written.{text_of}
use Rattle.asc_text.proofs.Pieces.{lines-all, lines-more}
use Rattle.image_explain.specs.Inside.{lists_of}
use Rattle.image_diff.proofs.Written.{item-line, length-lists}
use Rattle.image_diff.proofs.lines.append_each.Goals as goal

pub loop-line-preserved : goal.loop-line-preserved
loop-line-preserved c =
    let lines = lists_of c.args.lines.now in
    let text = c.loop-line.text.items in
    let n = c.loop-line.line-index in
    let within : n < length c.args.lines.now = c.loop-line-test.true in
    let inside : n < length lines = omega (arith, length-lists c.args.lines.now) in
    lines-more c.args.text.now.items text c.append_marked.new.text.items (map (◌∷◌ c.args.sign) lines) (c.args.sign ∷ c.line-item.result.items) n
    (omega (arith, length-map lines (◌∷◌ c.args.sign)))
    (ap (◌∷◌ c.args.sign) (item-line c.args.lines.now n c.line-item.result within c.line-item.is) ∙ sym (get_or-map (◌∷◌ c.args.sign) lines n [] [] inside))
    c.loop-line.invariant (c.in_ok-append_marked.ensures ∙ ap (λ line. text ++ text_of ((c.args.sign ∷ line) ∷ [])) c.deref.ensures.value)

pub returns : goal.returns
returns c =
    let lines = lists_of c.args.lines.now in
    lines-all c.args.text.now.items c.loop-line.text.items (map (◌∷◌ c.args.sign) lines) c.loop-line.line-index (omega (arith, length-lists c.args.lines.now, length-map lines (◌∷◌ c.args.sign))) c.loop-line.invariant
