use Rattle.std.proofs.Common.{◌≡◌, ℕ, Bool, ap, ap₂, [], ◌∷◌, arith, get_or, length, ◌∙◌}
use Rattle.vlog_semantics.specs.Cells.{cell_at}
use Rattle.vlog_semantics.specs.Values.{bit_of, number_of}
use Rattle.vlog_engine.specs.Lanes.{lane_bits}
use Rattle.vlog_engine.proofs.Lanes.{four-read}
use Rattle.vlog_engine.proofs.sweep.cells_value.Goals as goal

pub returns : goal.returns
returns g c lane within =
    let at = g.V.Value.at in
    let value : ℕ → Bool = cell_at (lane_bits at lane c.args.cells.now) in
    let size : length c.args.ins.now ≡ 4 = omega arith in
    c.of_table.ensures lane within
    ∙ ap₂ (λ (x y : Bool). bit_of c.args.table (number_of (x ∷ y ∷ at c.cell_at-c.result lane ∷ at c.cell_at-d.result lane ∷ []))) (c.cell_at-a.ensures.bits lane within) (c.cell_at-b.ensures.bits lane within)
    ∙ ap₂ (λ (x y : Bool). bit_of c.args.table (number_of (value (get_or c.args.ins.now 0 0) ∷ value (get_or c.args.ins.now 1 0) ∷ x ∷ y ∷ []))) (c.cell_at-c.ensures.bits lane within) (c.cell_at-d.ensures.bits lane within)
    ∙ ap (bit_of c.args.table) (four-read value 0 c.args.ins.now size)
