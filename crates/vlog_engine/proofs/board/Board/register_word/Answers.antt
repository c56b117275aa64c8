use Rattle.std.proofs.Common.{ℕ, Some, None, ap, get_or, sym, ◌∙◌}
use Rattle.std.specs.Option.{option_map}
use Rattle.vlog_semantics.proofs.Reading.{word-read, word-declared}
use Rattle.vlog_engine.specs.Lanes.{list_of}
use Rattle.vlog_engine.proofs.board.Board.register_word.Goals as goal

pub returns-in-Some-clause-is : goal.returns-in-Some-clause-is
returns-in-Some-clause-is g c m entry shows =
    let r = c.args.self.now in
    let words = list_of c.args.lane r.words.items in
    ap (λ (word : ℕ). Some word) (c.word_at.ensures ∙ ap (λ list. get_or list c.in-Some.slot 0) c.words.ensures.is)
    ∙ ap (option_map (λ slot. get_or words slot 0)) c.in-Some.ensures
    ∙ sym (word-read m entry r.layout words c.args.name.now shows.laid_out shows.shown.named shows.shown.words_are)

pub returns-in-None-clause-is : goal.returns-in-None-clause-is
returns-in-None-clause-is g c m entry shows =
    let words = list_of c.args.lane c.args.self.now.words.items in
    ap (option_map (λ slot. get_or words slot 0)) c.in-None.ensures
    ∙ sym (word-read m entry c.args.self.now.layout words c.args.name.now shows.laid_out shows.shown.named shows.shown.words_are)

pub returns-in-Some-clause-declared : goal.returns-in-Some-clause-declared
returns-in-Some-clause-declared g c m entry shows = word-declared m entry c.args.name.now (Some c.word_at.result) shows.shown.named (returns-in-Some-clause-is g c m entry shows)

pub returns-in-None-clause-declared : goal.returns-in-None-clause-declared
returns-in-None-clause-declared g c m entry shows = word-declared m entry c.args.name.now None shows.shown.named (returns-in-None-clause-is g c m entry shows)
