use Rattle.std.proofs.Common.{◌∙◌, ap}
use Rattle.vlog_parser.specs.Kept.{has_word}
use Rattle.vlog_parser.proofs.NameKeys.{any-words, word-turned}
use Rattle.vlog_parser.proofs.words.WordSet.contains.Goals as goal

pub returns : goal.returns
returns c =
    c.contains.ensures
    ∙ any-words (λ word. (word.memory.now, word.place)) _ c.args.memory.now c.args.place c.self.inside.words.keys (λ key. word-turned c.args.memory.now key.memory.now c.args.place key.place)
    ∙ ap (λ words. has_word words c.args.memory.now c.args.place) c.self.view_is
