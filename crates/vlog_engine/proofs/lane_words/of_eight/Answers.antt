use Rattle.std.proofs.Common.{Bool, ap₂, cond, ◌∙◌}
use Rattle.vlog_semantics.specs.Values.{bit_of}
use Rattle.vlog_engine.proofs.Bits.{half-eight}
use Rattle.vlog_engine.proofs.lane_words.of_eight.Goals as goal

pub returns : goal.returns
returns c a lane choices within =
    c.one_of.ensures lane
    ∙ ap₂ (λ (one other : Bool). cond (bit_of c.args.c lane) one other) (c.of_four.ensures a lane choices within) (c.of_four-2.ensures a lane choices within)
    ∙ half-eight c.args.table c.args.k (bit_of a lane) (bit_of c.args.b lane) (bit_of c.args.c lane)
