use Rattle.std.proofs.Common.{ℕ, Some, None, ap, sym, ◌∙◌}
use Rattle.std.specs.Option.{option_map}
use Rattle.vlog_semantics.specs.Steps.{word_in}
use Rattle.vlog_semantics.proofs.Reading.{memory-read, memory-declared}
use Rattle.vlog_engine.specs.Lanes.{list_of}
use Rattle.vlog_engine.proofs.board.Board.word.Goals as goal

pub returns-in-Some-clause-is : goal.returns-in-Some-clause-is
returns-in-Some-clause-is g c m entry shows =
    let r = c.args.self.now in
    let memories = list_of c.args.lane r.memories.items in
    ap (λ (word : ℕ). Some word) (c.word_in.ensures ∙ ap (λ list. word_in list c.in-Some.place c.args.address) c.memories.ensures)
    ∙ ap (option_map (λ place. word_in memories place c.args.address)) c.in-Some.ensures
    ∙ sym (memory-read m entry r.layout memories c.args.memory.now c.args.address shows.laid_out shows.shown.named shows.shown.memories_are)

pub returns-in-None-clause-is : goal.returns-in-None-clause-is
returns-in-None-clause-is g c m entry shows =
    let memories = list_of c.args.lane c.args.self.now.memories.items in
    ap (option_map (λ place. word_in memories place c.args.address)) c.in-None.ensures
    ∙ sym (memory-read m entry c.args.self.now.layout memories c.args.memory.now c.args.address shows.laid_out shows.shown.named shows.shown.memories_are)

pub returns-in-Some-clause-declared : goal.returns-in-Some-clause-declared
returns-in-Some-clause-declared g c m entry shows = memory-declared m entry c.args.memory.now c.args.address (Some c.word_in.result) shows.shown.named (returns-in-Some-clause-is g c m entry shows)

pub returns-in-None-clause-declared : goal.returns-in-None-clause-declared
returns-in-None-clause-declared g c m entry shows = memory-declared m entry c.args.memory.now c.args.address None shows.shown.named (returns-in-None-clause-is g c m entry shows)
