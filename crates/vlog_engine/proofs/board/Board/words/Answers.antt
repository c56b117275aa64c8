use Rattle.std.proofs.Common.{ℕ, Vec, Global, ap, arith, ◌∙◌}
use Rattle.vlog_engine.proofs.Lists.{list-at}
use Rattle.vlog_engine.proofs.board.Board.words.Goals as goal

pub returns-clause-is : goal.returns-clause-is
returns-clause-is g c =
    let r = c.args.self.now in
    c.deref.ensures.value ∙ ap (λ (list : Vec ℕ Global). list.items) c.index.ensures ∙ list-at r.words.items c.args.lane c.index.result.now (omega (arith, c.requires, r.lanes.size))

pub returns-clause-shown : goal.returns-clause-shown
returns-clause-shown g c m entry shows = returns-clause-is g c ∙ shows.shown.words_are
