use Rattle.std.proofs.Common.{◌≡◌, ◌++◌, [], ◌∷◌, arith, ap, ◌∙◌}
use Rattle.index_search.proofs.Gathered.{appended-none, appended-more}
use Rattle.ice_image.specs.Either.{configuration_of}
use Rattle.ice_image.specs.Bits.{ram_word_of}
use Rattle.fabric_model.specs.Tiles.{each_below}
use Rattle.fabric.proofs.words.append_words.Goals as goal

pub loop-word-init : goal.loop-word-init
loop-word-init c = appended-none _ _

pub loop-word-preserved : goal.loop-word-preserved
loop-word-preserved c =
    let value = ram_word_of (configuration_of c.args.image.now) c.args.x c.args.y in
    let pushed = c.in_ok-push.ensures.items in
    let read = c.ram_word.ensures in
    appended-more _ _ _ _ _ c.loop-word.invariant (pushed ∙ ap (λ word. c.loop-word.words.items ++ word ∷ []) read)

pub returns : goal.returns
returns c =
    let all : c.loop-word.word ≡ 256 = omega arith in
    let value = ram_word_of (configuration_of c.args.image.now) c.args.x c.args.y in
    c.loop-word.invariant ∙ ap (λ n. c.args.words.now.items ++ each_below n value) all
