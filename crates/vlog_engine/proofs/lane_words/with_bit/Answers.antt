use Rattle.std.proofs.Common.{ap₂, cond, ◌∙◌}
use Rattle.vlog_semantics.specs.Values.{bit_of}
use Rattle.vlog_engine.proofs.lane_words.with_bit.Goals as goal

pub returns : goal.returns
returns c other within =
    c.one_of.ensures other
    ∙ ap₂ (λ is bit. cond is bit (bit_of c.args.word other)) (c.only.ensures other) (c.every.ensures other within)
