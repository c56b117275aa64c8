use Rattle.std.proofs.Common.{◌∙◌, Bool, List, ap, arith, drop, length, refl, take}
use Rattle.vlog_semantics.specs.Named.{values_of}
use Rattle.vlog_semantics.specs.Run.{readable}
use Rattle.vlog_semantics.proofs.Reading.{registers-read}
use Rattle.vlog_semantics.proofs.Showing.{bits-count}
use Rattle.vlog_engine.proofs.Boards.{cells-room, first-cells}
use Rattle.vlog_engine.proofs.Lanes.{lane-length}
use Rattle.vlog_engine.proofs.Slots.{lane-part}
use Rattle.vlog_engine.proofs.board.Board.registers.Goals as goal

pub returns : goal.returns
returns g c lane m entry shows =
    let at = g.V.Value.at in
    let r = c.args.self.now in
    let from = r.layout.input_count in
    let end = r.layout.first_wire in
    let bits : List Bool = values_of (readable entry).bits in
    let here = registers-read m entry r.layout bits shows.laid_out shows.shown.named refl in
    lane-part at lane c.part.result.now r.cells.items from end
    (c.part.ensures here.ordered (omega (arith, here.within, bits-count m entry shows.shown.named, cells-room m entry r lane shows, lane-length at lane r.cells.items, ap length c.deref.ensures.value))
    ∙ ap (λ list. drop from (take end list)) c.deref.ensures.value)
    ∙ ap (drop from) (first-cells m entry r lane shows end (omega arith))
    ∙ here.are
