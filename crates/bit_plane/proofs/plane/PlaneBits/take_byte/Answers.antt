use Rattle.std.proofs.Common.{◌≡◌, ◌*◌, sym, ap, ◌∙◌, arith, length, take, drop, length-take-le}
use Rattle.bit_plane.specs.BitList.{byte_of}
use Rattle.bit_plane.specs.inside.Packed.{packed}
use Rattle.bit_plane.proofs.Packed.{length-packed}
use Rattle.bit_plane.proofs.Grids.{flat-rows_of}
use Rattle.bit_plane.proofs.Kept.{read_within}
use Rattle.bit_plane.proofs.plane.PlaneBits.take_byte.Goals as goal

pub returns : goal.returns
returns g c =
    let plane = c.args.self.now in
    let size = g.row.W * g.row.H in
    let words = plane.words.items in
    let bits = take size (packed words) in
    let exact : length bits ≡ size = length-take-le size (packed words) (omega (arith, plane.sized, plane.words.ok.0, length-packed words)) in
    let at = c.args.position in
    c.take_byte.ensures ∙ ap (λ ws. byte_of (take 8 (drop at (packed ws)))) c.deref.ensures.value ∙ ap byte_of (sym (read_within size at 8 (packed words) (omega (arith, c.requires))) ∙ ap (λ bits. take 8 (drop at bits)) (sym (flat-rows_of g.row.W g.row.H bits exact)))
