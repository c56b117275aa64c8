use Rattle.std.proofs.Common.{◌≤◌, ◌+◌, sym, subst, arith}
use Rattle.ice_image.specs.Written.{HasExtras}
use Rattle.ice_image.proofs.InOrder.{place, extras-free, extras-row}
use Rattle.ice_image.proofs.extras.append_row.Goals as goal

pub loop-px-preserved : goal.loop-px-preserved
loop-px-preserved g c =
    let args = c.args in
    let need = c.requires in
    let px = c.loop-px.px in
    let count = c.at_most_64-count.result in
    let columns : px + count ≤ g.P.Bits.WIDTH = omega (arith, c.at_most_64-count.ensures.within, c.loop-px-test.true, c.WIDTH.ensures, c.WIDTH-in-loop-px.ensures) in
    let more = extras-free args.layout.now args.cram.now args.bank px args.py c.free_bits-free.result count c.loop-px.places.items need.bank (omega (arith, columns, need.size.width_is)) (omega (arith, need.row, need.size.height_is)) c.free_bits-free.ensures c.loop-px.invariant.1 in
    (columns, subst (HasExtras args.layout.now args.cram.now (place args.bank (px + count) args.py)) (sym c.in_ok-append_free.ensures) more)

pub returns : goal.returns
returns g c =
    extras-row c.args.layout.now c.args.cram.now c.args.bank c.loop-px.px c.args.py c.loop-px.places.items (omega (arith, c.requires.size.width_is, c.loop-px.invariant.0)) c.loop-px.invariant.1
