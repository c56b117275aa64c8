use Rattle.std.proofs.Common.{◌≡◌, ◌+◌, ◌*◌, ap, ◌∙◌, arith, length, take, drop, bit_or, refl, length-take-le}
use Rattle.bit_plane.specs.BitList.{word_bits, word_of, placed}
use Rattle.bit_plane.specs.Rows.{rows_of, row_at, with_row}
use Rattle.bit_plane.specs.inside.Packed.{packed, rows_in}
use Rattle.bit_plane.proofs.Packed.{length-packed}
use Rattle.bit_plane.proofs.Words.{length-word_bits}
use Rattle.bit_plane.proofs.Flats.{rows_of-placed_in_row, within_row}
use Rattle.bit_plane.proofs.Kept.{IsWritten, bits_after, clear_after, word_in_rows}
use Rattle.bit_plane.proofs.plane.PlaneBits.gain_row_bits.Goals as goal

pub invariant_of-self-clause-clear : goal.invariant_of-self-clause-clear
invariant_of-self-clause-clear g c =
    let plane = c.args.self.now in
    let at = c.args.y * g.row.W + c.args.x in
    let both = bit_or (word_of (take c.args.count (drop at (packed c.deref_mut.result.now)))) c.args.bits in
    let part = word_bits c.args.count both in
    let written : IsWritten (g.row.W * g.row.H) at plane.words.len part plane.words.items c.deref_mut.result.now c.gain_word.new.words = record {
      within = within_row g.row.W g.row.H c.args.x c.args.y (length (word_bits c.args.count both)) c.requires.row (omega (arith, length-word_bits c.args.count both, c.requires.columns));
      sized = plane.sized;
      items = plane.words.ok.0;
      lent_is = c.deref_mut.ensures.value;
      same = c.gain_word.auto.words;
      new_is = c.gain_word.ensures;
    } in
    clear_after (g.row.W * g.row.H) at plane.words.len part plane.words.items c.deref_mut.result.now c.gain_word.new.words written plane.clear

pub returns : goal.returns
returns g c =
    let plane = c.args.self.now in
    let at = c.args.y * g.row.W + c.args.x in
    let both = bit_or (word_of (take c.args.count (drop at (packed c.deref_mut.result.now)))) c.args.bits in
    let part = word_bits c.args.count both in
    let size = g.row.W * g.row.H in
    let words = plane.words.items in
    let bits = take size (packed words) in
    let exact : length bits ≡ size = length-take-le size (packed words) (omega (arith, plane.sized, plane.words.ok.0, length-packed words)) in
    let written : IsWritten size at plane.words.len part words c.deref_mut.result.now c.gain_word.new.words = record {
      within = within_row g.row.W g.row.H c.args.x c.args.y (length (word_bits c.args.count both)) c.requires.row (omega (arith, length-word_bits c.args.count both, c.requires.columns));
      sized = plane.sized;
      items = plane.words.ok.0;
      lent_is = c.deref_mut.ensures.value;
      same = c.gain_word.auto.words;
      new_is = c.gain_word.ensures;
    } in
    ap (rows_of g.row.W g.row.H) (bits_after size at plane.words.len part words c.deref_mut.result.now c.gain_word.new.words written) ∙ rows_of-placed_in_row g.row.W g.row.H c.args.x c.args.y part bits (omega (arith, length-word_bits c.args.count both, c.requires.columns)) c.requires.row exact
    ∙ ap (λ n. with_row (rows_in g.row.W g.row.H words) c.args.y (placed c.args.x (word_bits c.args.count (bit_or n c.args.bits)) (row_at (rows_in g.row.W g.row.H words) c.args.y)))
    (word_in_rows g.row.W g.row.H words c.deref_mut.result.now c.args.x c.args.y c.args.count (word_of (take c.args.count (drop at (packed c.deref_mut.result.now)))) c.requires.columns c.requires.row c.deref_mut.ensures.value refl)
