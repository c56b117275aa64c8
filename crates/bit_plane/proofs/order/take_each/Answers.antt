use Rattle.std.proofs.Common.{◌*◌, sym, ap, ◌∙◌, arith}
use Rattle.std.proofs.Common.{ap₂, ◌++◌, ◌∷◌, [], take, drop, drop-drop}
use Rattle.std.proofs.lemmas.List.{take_more_set}
use Rattle.bit_plane.specs.BitList.{byte_of}
use Rattle.bit_plane.specs.inside.Packed.{packed}
use Rattle.bit_plane.proofs.Bytes.{bytes_of-more}
use Rattle.bit_plane.proofs.order.take_each.Goals as goal

pub loop-index-preserved : goal.loop-index-preserved
loop-index-preserved c =
    let i = c.loop-index.index in
    let bits = packed c.args.words.now in
    take_more_set c.loop-index.bytes i c.take_byte.result (omega arith) ∙ ap₂ (λ front byte. front ++ byte ∷ []) c.loop-index.invariant (c.take_byte.ensures ∙ ap (λ bits. byte_of (take 8 bits)) (sym (drop-drop (8 * i) c.args.position bits))) ∙ sym (bytes_of-more i (drop c.args.position bits))
