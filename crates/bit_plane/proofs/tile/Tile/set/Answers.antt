use Rattle.std.proofs.Common.{length-set, sym, ap, ◌∙◌, arith}
use Rattle.std.proofs.Common.{◌<◌, ◌^◌, get_or, set}
use Rattle.std.proofs.lemmas.List.Elements.{All-set}
use Rattle.bit_plane.specs.BitList.{word_bits}
use Rattle.bit_plane.proofs.TileRows.{with_bit-words, IsGrid-words}
use Rattle.bit_plane.proofs.Words.{word_bits-set, word_bits-clear, set-lt}
use Rattle.bit_plane.proofs.tile.Tile.set.Goals as goal

pub invariant_of-self : goal.invariant_of-self
invariant_of-self g c =
    let words = c.self.inside.words in
    (c.self.invariant.0, All-set (λ word. word < 2 ^ g.row.C) words c.args.row _ (set-lt g.row.C (get_or words c.args.row 0) c.args.col c.self.invariant.0 c.requires.col (c.self.invariant.1 c.args.row 0 (omega (arith, c.self.told)))) c.self.invariant.1)

pub returns-then-bit-clause-bits : goal.returns-then-bit-clause-bits
returns-then-bit-clause-bits g c =
    let words = c.self.inside.words in
    with_bit-words g.row.C words c.args.self.now c.args.col c.args.row _ c.args.bit c.self.view_is (omega (arith, c.self.told)) (word_bits-set g.row.C (get_or words c.args.row 0) c.args.col c.self.invariant.0 c.requires.col ∙ ap (set (word_bits g.row.C (get_or words c.args.row 0)) c.args.col) (sym c.if-bit.true))

pub returns-else-bit-clause-bits : goal.returns-else-bit-clause-bits
returns-else-bit-clause-bits g c =
    let words = c.self.inside.words in
    with_bit-words g.row.C words c.args.self.now c.args.col c.args.row _ c.args.bit c.self.view_is (omega (arith, c.self.told)) (word_bits-clear g.row.C (get_or words c.args.row 0) c.args.col c.self.invariant.0 c.requires.col ∙ ap (set (word_bits g.row.C (get_or words c.args.row 0)) c.args.col) (sym c.if-bit.false))

pub returns-then-bit-clause-grid : goal.returns-then-bit-clause-grid
returns-then-bit-clause-grid g c =
    IsGrid-words g.row.C 16 _ (length-set c.self.inside.words c.args.row _ ∙ c.self.told)

pub returns-else-bit-clause-grid : goal.returns-else-bit-clause-grid
returns-else-bit-clause-grid g c =
    IsGrid-words g.row.C 16 _ (length-set c.self.inside.words c.args.row _ ∙ c.self.told)
