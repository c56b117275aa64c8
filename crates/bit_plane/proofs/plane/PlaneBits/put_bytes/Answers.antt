use Rattle.std.proofs.Common.{◌≡◌, ◌*◌, refl, ap, ◌∙◌, arith, length, take, length-take-le}
use Rattle.bit_plane.specs.BitList.{bits_of}
use Rattle.bit_plane.specs.Rows.{rows_of}
use Rattle.bit_plane.specs.inside.Packed.{packed}
use Rattle.bit_plane.proofs.Packed.{length-packed}
use Rattle.bit_plane.proofs.Bytes.{length-bits_of}
use Rattle.bit_plane.proofs.Flats.{run_within}
use Rattle.bit_plane.proofs.Grids.{rows_of-placed}
use Rattle.bit_plane.proofs.Kept.{IsWritten, bits_after, clear_after}
use Rattle.bit_plane.proofs.plane.PlaneBits.put_bytes.Goals as goal

pub put_bytes-requires-clause-words : goal.put_bytes-requires-clause-words
put_bytes-requires-clause-words g c =
    let plane = c.args.self.now in
    omega (arith, run_within g.row.W g.row.H c.args.first c.args._count (8 * length c.args.bytes.now) (g.row.W * g.row.H) c.requires.rows c.requires.bytes refl, plane.sized, c.deref_mut.ensures.len)

pub put_bytes-requires-clause-fits : goal.put_bytes-requires-clause-fits
put_bytes-requires-clause-fits g c =
    omega (arith, run_within g.row.W g.row.H c.args.first c.args._count (8 * length c.args.bytes.now) (g.row.W * g.row.H) c.requires.rows c.requires.bytes refl, c.args.self.now.fits)

pub invariant_of-self-clause-clear : goal.invariant_of-self-clause-clear
invariant_of-self-clause-clear g c =
    let plane = c.args.self.now in
    let at = c.args.first * g.row.W in
    let part = bits_of c.args.bytes.now in
    let written : IsWritten (g.row.W * g.row.H) at plane.words.len part plane.words.items c.deref_mut.result.now c.put_bytes.new.words = record {
      within = run_within g.row.W g.row.H c.args.first c.args._count (length (bits_of c.args.bytes.now)) (g.row.W * g.row.H) c.requires.rows (length-bits_of c.args.bytes.now ∙ c.requires.bytes) refl;
      sized = plane.sized;
      items = plane.words.ok.0;
      lent_is = c.deref_mut.ensures.value;
      same = c.put_bytes.auto.words;
      new_is = c.put_bytes.ensures;
    } in
    clear_after (g.row.W * g.row.H) at plane.words.len part plane.words.items c.deref_mut.result.now c.put_bytes.new.words written plane.clear

pub returns : goal.returns
returns g c =
    let plane = c.args.self.now in
    let at = c.args.first * g.row.W in
    let part = bits_of c.args.bytes.now in
    let size = g.row.W * g.row.H in
    let words = plane.words.items in
    let bits = take size (packed words) in
    let exact : length bits ≡ size = length-take-le size (packed words) (omega (arith, plane.sized, plane.words.ok.0, length-packed words)) in
    let written : IsWritten size at plane.words.len part words c.deref_mut.result.now c.put_bytes.new.words = record {
      within = run_within g.row.W g.row.H c.args.first c.args._count (length (bits_of c.args.bytes.now)) (g.row.W * g.row.H) c.requires.rows (length-bits_of c.args.bytes.now ∙ c.requires.bytes) refl;
      sized = plane.sized;
      items = plane.words.ok.0;
      lent_is = c.deref_mut.ensures.value;
      same = c.put_bytes.auto.words;
      new_is = c.put_bytes.ensures;
    } in
    ap (rows_of g.row.W g.row.H) (bits_after size at plane.words.len part words c.deref_mut.result.now c.put_bytes.new.words written) ∙ rows_of-placed g.row.W g.row.H c.args.first c.args._count part bits c.requires.rows (length-bits_of c.args.bytes.now ∙ c.requires.bytes) exact
