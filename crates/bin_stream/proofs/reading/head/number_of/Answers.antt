use Rattle.std.proofs.Common.{◌∙◌, ◌+◌, ◌*◌, ◌<◌, ap, sym, take, get_or, arith}
use Rattle.std.proofs.lemmas.List.Sums.{fold_more}
use Rattle.bin_stream.specs.Commands.{number_of}
use Rattle.bin_stream.proofs.Payloads.{room, larger}
use Rattle.bin_stream.proofs.reading.head.number_of.Goals as goal

pub overflow_mul-number : goal.overflow_mul-number
overflow_mul-number c =
    let fits = room c.loop-byte.number c.loop-byte.byte-index c.loop-byte.invariant.small (omega arith) in
    omega arith

pub overflow_add-number : goal.overflow_add-number
overflow_add-number c =
    let fits = room c.loop-byte.number c.loop-byte.byte-index c.loop-byte.invariant.small (omega arith) in
    omega (arith, c.from.ensures)

pub loop-byte-preserved : goal.loop-byte-preserved
loop-byte-preserved c = record {
  number_is =
      ap (λ n. 256 * n + c.from.result) c.loop-byte.invariant.number_is
      ∙ ap (λ byte. 256 * number_of (take c.loop-byte.byte-index c.args.payload.now) + byte) c.from.ensures
      ∙ sym (fold_more (λ n byte. 256 * n + byte) 0 c.args.payload.now c.loop-byte.byte-index 0 c.loop-byte-test.true);
  small =
      let byte : get_or c.args.payload.now c.loop-byte.byte-index 0 < 256 = omega (arith, c.type_inv.payload c.loop-byte.byte-index) in
      larger c.loop-byte.number c.loop-byte.byte-index c.from.result c.loop-byte.invariant.small (omega (arith, c.from.ensures)) (omega arith);
}
