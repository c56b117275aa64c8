use Rattle.std.proofs.Common.{◌∙◌, Bool, List, ap, arith, drop, length, refl, take}
use Rattle.vlog_semantics.specs.Named.{values_of}
use Rattle.vlog_semantics.specs.Run.{readable}
use Rattle.vlog_semantics.proofs.Reading.{registers-read}
use Rattle.vlog_semantics.proofs.Showing.{bits-count}
use Rattle.vlog_engine.proofs.Boards.{cells-room, first-cells}
use Rattle.vlog_engine.proofs.Lanes.{lane-length}
use Rattle.vlog_engine.proofs.Slots.{inputs-read, lane-part}
use Rattle.vlog_engine.proofs.board.Board.input_bits.Goals as goal

pub returns : goal.returns
returns g c lane m entry shows =
    let at = g.V.Value.at in
    let r = c.args.self.now in
    let end = r.layout.input_count in
    let bits : List Bool = values_of (readable entry).bits in
    let inputs = inputs-read m entry r.layout bits shows.laid_out shows.shown.named refl in
    let apart = registers-read m entry r.layout bits shows.laid_out shows.shown.named refl in
    lane-part at lane c.part.result.now r.cells.items 0 end
    (c.part.ensures (omega arith) (omega (arith, inputs.within, bits-count m entry shows.shown.named, cells-room m entry r lane shows, lane-length at lane r.cells.items, ap length c.deref.ensures.value))
    ∙ ap (λ list. drop 0 (take end list)) c.deref.ensures.value)
    ∙ first-cells m entry r lane shows end apart.ordered
    ∙ inputs.are
