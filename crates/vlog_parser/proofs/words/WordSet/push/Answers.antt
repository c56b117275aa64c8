use Rattle.std.proofs.Common.{refl}
use Rattle.vlog_parser.proofs.NameKeys.{words-with, word-turned}
use Rattle.vlog_parser.proofs.words.WordSet.push.Goals as goal

pub returns : goal.returns
returns c =
    words-with (λ word. (word.memory.now, word.place)) _ c.self.inside.words.keys c.insert.new.self.keys (record { memory = c.args.memory; place = c.args.place }) c.args.self.now c.args.memory.now c.args.place
    c.in_ok-insert.ensures.keys c.self.view_is refl (λ key. word-turned c.args.memory.now key.memory.now c.args.place key.place)
