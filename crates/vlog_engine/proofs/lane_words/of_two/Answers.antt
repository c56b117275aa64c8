use Rattle.std.proofs.Common.{ℕ, ◌/◌, ◌%◌, ◌^◌, ap, arith, get_or, ◌∙◌}
use Rattle.vlog_semantics.specs.Values.{bit_of}
use Rattle.vlog_engine.proofs.Bits.{two-of}
use Rattle.vlog_engine.proofs.lane_words.of_two.Goals as goal

pub returns : goal.returns
returns c a lane choices within =
    ap (λ (index : ℕ). bit_of (get_or c.args.choices.now index 0) lane) c.from.ensures ∙ choices.each lane (c.args.table / 2 ^ c.args.k % 4) within (omega arith) ∙ two-of c.args.table c.args.k (bit_of a lane)
