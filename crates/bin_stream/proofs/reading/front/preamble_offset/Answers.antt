use Rattle.std.proofs.Common.{◌≡◌, true, length, sym, rules, arith}
use Rattle.index_search.proofs.Places.{least_below-first, least_below-none}
use Rattle.bin_stream.specs.Front.{is_preamble_at, preamble_offset}
use Rattle.bin_stream.proofs.reading.front.preamble_offset.Goals as goal

pub returns-then-is_preamble_at-clause-offset : goal.returns-then-is_preamble_at-clause-offset
unfolding preamble_offset
returns-then-is_preamble_at-clause-offset c =
    let here : is_preamble_at c.args.bytes.now c.loop-offset.offset ≡ true = search rules in
    sym (least_below-first (length c.args.bytes.now) c.loop-offset.offset (is_preamble_at c.args.bytes.now) (omega arith) c.loop-offset.invariant here)

pub returns-clause-offset : goal.returns-clause-offset
unfolding preamble_offset
returns-clause-offset c =
    sym (least_below-none (length c.args.bytes.now) (is_preamble_at c.args.bytes.now) (λ k lt. c.loop-offset.invariant k (omega arith)))
