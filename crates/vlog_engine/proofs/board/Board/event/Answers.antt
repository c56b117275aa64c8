use Rattle.std.proofs.Common.{◌≡◌, false, ap, get_or, refl, ◌∙◌}
use Rattle.vlog_semantics.specs.declared.layout.SlotLayout.{SlotLayout}
use Rattle.vlog_engine.specs.Lanes.{lane_bits}
use Rattle.vlog_engine.proofs.Bits.{no-both}
use Rattle.vlog_engine.proofs.Boards.{event-shows}
use Rattle.vlog_engine.proofs.board.Board.event.Goals as goal

pub returns-then-is_none-clause-shows : goal.returns-then-is_none-clause-shows
returns-then-is_none-clause-shows g c lane m entry shows =
    let at = g.V.Value.at in
    let r = c.args.self.now in
    let changed = at c.changed_lanes-changed.result lane in
    let off : changed ≡ false = c.is_none.ensures c.if-is_none.true lane shows.within in
    event-shows m entry r lane shows r (record { pin = c.args.pin; bit = at c.args.bits lane }) (at c.args.active lane) changed (at c.cell_at.result lane)
    (record { layout = refl; circuit = refl; words_room = refl }) c.requires
    (c.cell_at.ensures.bits lane shows.within ∙ ap (λ list. get_or (lane_bits at lane list) c.args.pin false) c.deref.ensures.value)
    (c.changed_lanes-changed.ensures lane shows.within) (λ on. absurd (no-both on off))
    (λ none. record { cells = refl; words = refl; memories = refl; outputs = refl; tracked = λ first count rising room tracked. tracked })

pub returns-clause-shows : goal.returns-clause-shows
returns-clause-shows g c lane m entry shows =
    let at = g.V.Value.at in
    let r = c.args.self.now in
    let changed = at c.changed_lanes-changed.result lane in
    event-shows m entry r lane shows c.change.new.self (record { pin = c.args.pin; bit = at c.args.bits lane }) (at c.args.active lane) changed (at c.cell_at.result lane)
    c.change.ensures.same c.requires
    (c.cell_at.ensures.bits lane shows.within ∙ ap (λ list. get_or (lane_bits at lane list) c.args.pin false) c.deref.ensures.value)
    (c.changed_lanes-changed.ensures lane shows.within) (λ on. c.change.ensures.changed lane m entry on shows) (c.change.ensures.idle lane shows.within)

pub returns-clause-inputs : goal.returns-clause-inputs
returns-clause-inputs g c = ap (λ (k : SlotLayout). k.input_count) c.change.ensures.same.layout
