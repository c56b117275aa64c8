use Rattle.std.proofs.Common.{◌≡◌, ◌∙◌, Bool, List, ℕ, ap, ap₂, arith, drop, length, refl, sym, take}
use Rattle.std.proofs.lemmas.List.{drop-map, length-map, take-map}
use Rattle.vlog_semantics.specs.Cells.{cell_at}
use Rattle.vlog_semantics.specs.ModuleSlots.{wire_names}
use Rattle.vlog_semantics.specs.Named.{values_of}
use Rattle.vlog_semantics.specs.Run.{readable}
use Rattle.vlog_semantics.proofs.Showing.{bits-count}
use Rattle.vlog_engine.specs.Circuits.{shown_by}
use Rattle.vlog_engine.specs.Lanes.{lane_bits}
use Rattle.vlog_engine.proofs.Boards.{roots-room, shown-bits}
use Rattle.vlog_engine.proofs.Slots.{values-named, wires-read}
use Rattle.vlog_engine.proofs.board.Board.copy_wires.Goals as goal

pub returns : goal.returns
returns g c lane m entry shows as_many =
    let r = c.args.self.now in
    let first : ℕ = r.layout.first_wire in
    let count : ℕ = r.circuit.bits in
    let cells : List Bool = lane_bits g.V.Value.at lane r.cells.items in
    let roots : List ℕ = r.circuit.roots.items in
    let bits : List Bool = values_of (readable entry).bits in
    let here = wires-read m entry r.layout bits shows.laid_out shows.shown.named refl in
    let some : c.deref.result.now ≡ roots = c.deref.ensures.value in
    let part : c.part-roots.result.now ≡ drop first (take count roots) =
    c.part-roots.ensures (omega (arith, here.within, bits-count m entry shows.shown.named, shows.bit_count))
    (omega (arith, roots-room m entry r lane shows, ap (λ (list : List ℕ). length list) some))
    ∙ ap (λ (list : List ℕ). drop first (take count list)) some in
    let shown : shown_by (drop first (take count roots)) cells ≡ values_of entry.wires =
    sym (drop-map (cell_at cells) first (take count roots)) ∙ ap (drop first) (sym (take-map (cell_at cells) count roots))
    ∙ ap (drop first) (shown-bits m entry r lane shows) ∙ here.are in
    let many : length c.part-roots.result.now ≡ length (values_of entry.wires) =
    ap (λ (list : List ℕ). length list) part ∙ sym (length-map (drop first (take count roots)) (cell_at cells)) ∙ ap (λ (list : List Bool). length list) shown in
    c.show_cells.ensures (as_many ∙ sym (values-named entry.wires (wire_names m.items) shows.shown.named.wires) ∙ sym many) lane shows.within
    ∙ ap₂ shown_by part (ap (lane_bits g.V.Value.at lane) c.deref-2.ensures.value) ∙ shown
