use Rattle.std.proofs.Common.{ap, ◌∙◌}
use Rattle.std.specs.Int.{bit_at}
use Rattle.bit_plane.specs.inside.Pairs.{partner}
use Rattle.bit_plane.proofs.Exchanges.{pairs_1, pairs_2, pairs_4, pairs_8, pairs_16, pairs_32, partner-below, partners-turn}
use Rattle.bit_plane.proofs.reversal.reversed.Goals as goal

pub exchanged-ones-requires-clause-pairs : goal.exchanged-ones-requires-clause-pairs
exchanged-ones-requires-clause-pairs c = pairs_1

pub exchanged-twos-requires-clause-pairs : goal.exchanged-twos-requires-clause-pairs
exchanged-twos-requires-clause-pairs c = pairs_2

pub exchanged-fours-requires-clause-pairs : goal.exchanged-fours-requires-clause-pairs
exchanged-fours-requires-clause-pairs c = pairs_4

pub exchanged-eights-requires-clause-pairs : goal.exchanged-eights-requires-clause-pairs
exchanged-eights-requires-clause-pairs c = pairs_8

pub exchanged-sixteens-requires-clause-pairs : goal.exchanged-sixteens-requires-clause-pairs
exchanged-sixteens-requires-clause-pairs c = pairs_16

pub exchanged-requires-clause-pairs : goal.exchanged-requires-clause-pairs
exchanged-requires-clause-pairs c = pairs_32

pub returns : goal.returns
returns c = λ k within.
    let a = partner-below 32 0x00000000ffffffff k pairs_32 within in
    let b = partner-below 16 0x0000ffff0000ffff (partner 32 k) pairs_16 a in
    let d = partner-below 8 0x00ff00ff00ff00ff _ pairs_8 b in
    let e = partner-below 4 0x0f0f0f0f0f0f0f0f _ pairs_4 d in
    let f = partner-below 2 0x3333333333333333 _ pairs_2 e in
    c.exchanged.ensures k within ∙ c.exchanged-sixteens.ensures _ a ∙ c.exchanged-eights.ensures _ b ∙ c.exchanged-fours.ensures _ d ∙ c.exchanged-twos.ensures _ e ∙ c.exchanged-ones.ensures _ f
    ∙ ap (bit_at c.args.word) (partners-turn k within)
