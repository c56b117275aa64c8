use Rattle.std.proofs.Common.{◌≡◌, ◌+◌, take, ◌∙◌, arith}
use Rattle.std.proofs.lemmas.List.{length-take-le}
use Rattle.ice_io.proofs.Parts.{Consumes_parts}
use Rattle.ice_io.proofs.source.read_expected.Goals as goal

pub returns-then-filled-limit-clause-too_long : goal.returns-then-filled-limit-clause-too_long
returns-then-filled-limit-clause-too_long g c =
    λ _.
    let made = c.make_room.new.bytes in
    let read = c.read_after.new.bytes in
    let filled = c.loop-bytes.filled in
    let kept : take filled read.items ≡ take filled c.loop-bytes.bytes.items = c.read_after.ensures.kept ∙ c.make_room.ensures.kept in
    let taken = Consumes_parts _ _ _ c.loop-bytes.bytes.items read.items filled c.in_ok-count.count kept c.loop-bytes.invariant.taken c.in_ok-count.ensures.taken in
    (take (filled + c.in_ok-count.count) read.items, taken, length-take-le (filled + c.in_ok-count.count) read.items (omega (arith, read.ok.0, c.in_ok-count.ensures.count)) ∙ omega (arith, c.make_room.ensures.most, c.read_after.ensures.length, c.in_ok-count.ensures.count))

pub loop-bytes-preserved : goal.loop-bytes-preserved
loop-bytes-preserved g c =
    let read = c.read_after.new.bytes in
    let filled = c.loop-bytes.filled in
    let kept : take filled read.items ≡ take filled c.loop-bytes.bytes.items = c.read_after.ensures.kept ∙ c.make_room.ensures.kept in
    record {
      taken = Consumes_parts _ _ _ c.loop-bytes.bytes.items read.items filled c.in_ok-count.count kept c.loop-bytes.invariant.taken c.in_ok-count.ensures.taken;
      filled = c.in_ok-count.ensures.count;
      most = omega (arith, c.make_room.ensures.most, c.read_after.ensures.length);
      below = omega arith;
      read = (omega (arith, c.loop-bytes.invariant.read.0, c.in_ok-count.ensures.read.0), omega (arith, c.loop-bytes.invariant.read.1, c.in_ok-count.ensures.read.1));
      bytes = omega (arith, c.loop-bytes.invariant.bytes, c.read_after.ensures.bytes_never_fall);
      faults = omega (arith, c.loop-bytes.invariant.faults, c.read_after.ensures.never_falls);
    }
