use Rattle.std.proofs.Common.{◌≡◌, ◌*◌, sym, ap, ◌∙◌, arith, length, take, length-take-le}
use Rattle.bit_plane.specs.BitList.{byte_bits, placed}
use Rattle.bit_plane.specs.Rows.{rows_of}
use Rattle.bit_plane.specs.inside.Packed.{packed}
use Rattle.bit_plane.proofs.Packed.{length-packed}
use Rattle.bit_plane.proofs.Grids.{flat-rows_of}
use Rattle.bit_plane.proofs.Kept.{IsWritten, bits_after, clear_after}
use Rattle.bit_plane.proofs.plane.PlaneBits.put_byte.Goals as goal

pub invariant_of-self-clause-clear : goal.invariant_of-self-clause-clear
invariant_of-self-clause-clear g c =
    let plane = c.args.self.now in
    let at = c.args.position in
    let part = byte_bits c.args.byte in
    let written : IsWritten (g.row.W * g.row.H) at plane.words.len part plane.words.items c.deref_mut.result.now c.put_byte.new.words = record {
      within = omega (arith, c.requires);
      sized = plane.sized;
      items = plane.words.ok.0;
      lent_is = c.deref_mut.ensures.value;
      same = c.put_byte.auto.words;
      new_is = c.put_byte.ensures;
    } in
    clear_after (g.row.W * g.row.H) at plane.words.len part plane.words.items c.deref_mut.result.now c.put_byte.new.words written plane.clear

pub returns : goal.returns
returns g c =
    let plane = c.args.self.now in
    let at = c.args.position in
    let part = byte_bits c.args.byte in
    let size = g.row.W * g.row.H in
    let words = plane.words.items in
    let bits = take size (packed words) in
    let exact : length bits ≡ size = length-take-le size (packed words) (omega (arith, plane.sized, plane.words.ok.0, length-packed words)) in
    let written : IsWritten size at plane.words.len part words c.deref_mut.result.now c.put_byte.new.words = record {
      within = omega (arith, c.requires);
      sized = plane.sized;
      items = plane.words.ok.0;
      lent_is = c.deref_mut.ensures.value;
      same = c.put_byte.auto.words;
      new_is = c.put_byte.ensures;
    } in
    ap (rows_of g.row.W g.row.H) (bits_after size at plane.words.len part words c.deref_mut.result.now c.put_byte.new.words written) ∙ ap (λ bits. rows_of g.row.W g.row.H (placed at part bits)) (sym (flat-rows_of g.row.W g.row.H bits exact))
