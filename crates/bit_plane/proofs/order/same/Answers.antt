use Rattle.std.proofs.Common.{◌≡◌, ap, arith, get_or}
use Rattle.std.proofs.lemmas.Bool.{false≢true}
use Rattle.bit_plane.proofs.Kept.{packed-same}
use Rattle.bit_plane.proofs.order.same.Goals as goal

pub returns-then-words-index : goal.returns-then-words-index
returns-then-words-index c =
    let here = c.args.words.now in
    let there = c.args.other.now in
    let i = c.loop-index.index in (
      λ never. absurd (false≢true never),
      λ bits.
          let equal : here ≡ there = packed-same here there (λ i. omega (arith, c.type_inv.words i)) (λ i. omega (arith, c.type_inv.other i)) c.requires bits in
          let item : get_or here i 0 ≡ get_or there i 0 = ap (λ ws. get_or ws i 0) equal in
          absurd (omega (arith, item, c.if-words-index.true)),
    )
