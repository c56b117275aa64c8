use Rattle.std.proofs.Common.{◌++◌, ap, sym, ◌∙◌, arith}
use Rattle.index_search.specs.Places.{gathered_below}
use Rattle.index_search.proofs.Places.{gathered_below-more, gathered_below-none}
use Rattle.text_lines.specs.Written.{text_of}
use Rattle.ice_image.specs.Either.{configuration_of}
use Rattle.asc_text.proofs.Pieces.{gathered-all, lines-joined, nothing-written}
use Rattle.image_diff.specs.Differences.{word_changes}
use Rattle.image_diff.proofs.rams.append_ram.Goals as goal

pub loop-word-init : goal.loop-word-init
loop-word-init c =
    let changes = word_changes (configuration_of c.args.first.now) (configuration_of c.args.second.now) c.args.x c.args.y in
    nothing-written c.args.text.now.items (gathered_below 0 changes) (gathered_below-none 0 changes (λ k below. absurd (omega arith)))

pub loop-word-preserved : goal.loop-word-preserved
loop-word-preserved c =
    let changes = word_changes (configuration_of c.args.first.now) (configuration_of c.args.second.now) c.args.x c.args.y in
    let n = c.loop-word.word in
    lines-joined c.args.text.now.items c.loop-word.text.items c.append_word.new.text.items (gathered_below n changes) (changes n) c.loop-word.invariant c.in_ok-append_word.ensures
    ∙ ap (λ lines. c.args.text.now.items ++ text_of lines) (sym (gathered_below-more n changes))

pub returns : goal.returns
returns c =
    gathered-all c.args.text.now.items c.loop-word.text.items c.loop-word.word 256 (word_changes (configuration_of c.args.first.now) (configuration_of c.args.second.now) c.args.x c.args.y) (omega arith) c.loop-word.invariant
