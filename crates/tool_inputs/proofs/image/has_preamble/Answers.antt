use Rattle.std.proofs.Common.{◌≡◌, true, length, sym, ap, rules, arith}
use Rattle.std.specs.Prelude.{is_some}
use Rattle.index_search.proofs.Places.{least_below-first, least_below-none}
use Rattle.bin_stream.specs.Front.{is_preamble_at, preamble_offset}
use Rattle.tool_inputs.proofs.image.has_preamble.Goals as goal

pub returns-then-is_preamble_at : goal.returns-then-is_preamble_at
unfolding preamble_offset
returns-then-is_preamble_at c =
    let here : is_preamble_at c.args.bytes.now c.loop-offset.offset ≡ true = search rules in
    sym (ap is_some (least_below-first (length c.args.bytes.now) c.loop-offset.offset (is_preamble_at c.args.bytes.now) (omega arith) c.loop-offset.invariant here))

pub returns : goal.returns
unfolding preamble_offset
returns c =
    sym (ap is_some (least_below-none (length c.args.bytes.now) (is_preamble_at c.args.bytes.now) (λ k lt. c.loop-offset.invariant k (omega arith))))
