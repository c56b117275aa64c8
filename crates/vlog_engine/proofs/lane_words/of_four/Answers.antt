use Rattle.std.proofs.Common.{Bool, ap₂, cond, ◌∙◌}
use Rattle.vlog_semantics.specs.Values.{bit_of}
use Rattle.vlog_engine.proofs.Bits.{half-four}
use Rattle.vlog_engine.proofs.lane_words.of_four.Goals as goal

pub returns : goal.returns
returns c a lane choices within =
    c.one_of.ensures lane
    ∙ ap₂ (λ (one other : Bool). cond (bit_of c.args.b lane) one other) (c.of_two.ensures a lane choices within) (c.of_two-2.ensures a lane choices within)
    ∙ half-four c.args.table c.args.k (bit_of a lane) (bit_of c.args.b lane)
