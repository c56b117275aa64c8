use Rattle.std.proofs.Common.{◌+◌, List, Bool, false, ap, arith, get_or, ◌∙◌}
use Rattle.vlog_semantics.specs.Values.{bit_of}
use Rattle.vlog_engine.specs.Lanes.{lane_bits}
use Rattle.vlog_engine.proofs.Lanes.{lane-length}
use Rattle.vlog_engine.proofs.Words.{word-in, word-out}
use Rattle.vlog_engine.proofs.parts.exchange_word.Goals as goal

pub returns-then-before-word-clause-parts : goal.returns-then-before-word-clause-parts
returns-then-before-word-clause-parts g c was k inside =
    ap (λ (list : List Bool). get_or list (c.args.from + k) false) c.write_word.ensures.own
    ∙ word-in (lane_bits g.V.Value.at c.args.lane c.args.cells.now) c.args.from c.args.word 16 k (omega (arith, c.requires.room, lane-length g.V.Value.at c.args.lane c.args.cells.now)) inside

pub returns-then-before-word-clause-same : goal.returns-then-before-word-clause-same
returns-then-before-word-clause-same g c cell out =
    ap (λ (list : List Bool). get_or list cell false) c.write_word.ensures.own ∙ word-out (lane_bits g.V.Value.at c.args.lane c.args.cells.now) c.args.from c.args.word 16 cell out

pub returns-else-before-word-clause-parts : goal.returns-else-before-word-clause-parts
returns-else-before-word-clause-parts g c was k inside = was k inside ∙ ap (λ w. bit_of w k) (omega arith)
