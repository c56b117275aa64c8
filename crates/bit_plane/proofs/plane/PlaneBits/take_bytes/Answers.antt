use Rattle.std.proofs.Common.{◌≡◌, ◌*◌, refl, sym, ap, ◌∙◌, arith, length, take, drop, length-take-le}
use Rattle.bit_plane.specs.BitList.{bytes_of}
use Rattle.bit_plane.specs.inside.Packed.{packed}
use Rattle.bit_plane.proofs.Packed.{length-packed}
use Rattle.bit_plane.proofs.Flats.{run_within, run_read}
use Rattle.bit_plane.proofs.Kept.{bytes_within}
use Rattle.bit_plane.proofs.plane.PlaneBits.take_bytes.Goals as goal

pub take_bytes-requires-clause-words : goal.take_bytes-requires-clause-words
take_bytes-requires-clause-words g c =
    let plane = c.args.self.now in
    omega (arith, run_within g.row.W g.row.H c.args.first c.args._count (8 * length c.args.out.now) (g.row.W * g.row.H) c.requires.rows c.requires.bytes refl, plane.sized, c.deref.ensures.len)

pub take_bytes-requires-clause-fits : goal.take_bytes-requires-clause-fits
take_bytes-requires-clause-fits g c =
    omega (arith, run_within g.row.W g.row.H c.args.first c.args._count (8 * length c.args.out.now) (g.row.W * g.row.H) c.requires.rows c.requires.bytes refl, c.args.self.now.fits)

pub returns : goal.returns
returns g c =
    let plane = c.args.self.now in
    let size = g.row.W * g.row.H in
    let words = plane.words.items in
    let bits = take size (packed words) in
    let exact : length bits ≡ size = length-take-le size (packed words) (omega (arith, plane.sized, plane.words.ok.0, length-packed words)) in
    let n = length c.args.out.now in
    let at = c.args.first * g.row.W in
    c.take_bytes.ensures ∙ ap (λ ws. bytes_of n (drop at (packed ws))) c.deref.ensures.value ∙ sym (bytes_within size at n (packed words) (run_within g.row.W g.row.H c.args.first c.args._count (8 * length c.args.out.now) (g.row.W * g.row.H) c.requires.rows c.requires.bytes refl)) ∙ run_read g.row.W g.row.H c.args.first c.args._count n bits c.requires.rows c.requires.bytes
