use Rattle.std.proofs.Common.{◌-◌, drop, arith}
use Rattle.std.proofs.lemmas.List.{length-take}
use Rattle.boot_file.proofs.Offsets.{refused-within}
use Rattle.boot_file.proofs.images.image_at.Goals as goal

pub overflow_add-result : goal.overflow_add-result
overflow_add-result c =
    let read = rw c.in-Err-At.field-0-is at c.in-Err-At.ensures.refused in
    let within = refused-within _ _ ((c.in-Err-At.ensures.decided.refused _).1 read) in
    let size = length-take (c.part_end.result - c.args.address) (drop c.args.address c.args.bytes.now) in
    omega (arith, within, size, c.from.ensures, c.part_end.type_inv, c.part_end.ensures.after)
