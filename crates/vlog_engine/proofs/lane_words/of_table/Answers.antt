use Rattle.std.proofs.Common.{Bool, ap₂, cond, ◌∙◌}
use Rattle.vlog_semantics.specs.Values.{bit_of}
use Rattle.vlog_engine.proofs.Bits.{half-sixteen}
use Rattle.vlog_engine.proofs.lane_words.of_table.Goals as goal

pub returns : goal.returns
returns c lane within =
    let choices = c.choices_of-choices.ensures in
    c.one_of.ensures lane
    ∙ ap₂ (λ (one other : Bool). cond (bit_of c.args.d lane) one other) (c.of_eight.ensures c.args.a lane choices within) (c.of_eight-2.ensures c.args.a lane choices within)
    ∙ half-sixteen c.args.table (bit_of c.args.a lane) (bit_of c.args.b lane) (bit_of c.args.c lane) (bit_of c.args.d lane)
