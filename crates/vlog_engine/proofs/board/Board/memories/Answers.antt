use Rattle.std.proofs.Common.{ℕ, List, Vec, Global, ap, arith, ◌∙◌}
use Rattle.vlog_engine.proofs.Lists.{list-at}
use Rattle.vlog_engine.proofs.board.Board.memories.Goals as goal

pub returns : goal.returns
returns g c =
    let r = c.args.self.now in
    c.deref.ensures.value ∙ ap (λ (list : Vec (List ℕ) Global). list.items) c.index.ensures ∙ list-at r.memories.items c.args.lane c.index.result.now (omega (arith, c.requires, r.memory_lanes, r.memories.ok.0))
