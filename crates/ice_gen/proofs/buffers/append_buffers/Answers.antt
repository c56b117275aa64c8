use Rattle.std.proofs.Common.{ℕ, List, arith}
use Rattle.index_search.specs.Places.{gathered_below}
use Rattle.plane_map.specs.Layout.{grid_width, grid_height, kind_of}
use Rattle.asc_text.proofs.Pieces.{gathered-all}
use Rattle.ice_gen.specs.Database.{by_cells}
use Rattle.ice_gen.specs.Inside.{lines_into}
use Rattle.ice_gen.proofs.buffers.append_buffers.Goals as goal

pub returns : goal.returns
returns c =
    let device = c.args.device in
    let rows : ℕ → List (List ℕ) = λ y. gathered_below (grid_width device) (λ x. by_cells device (lines_into c.args.input device x y) x y (kind_of device x y)) in
    gathered-all c.args.text.now.items c.loop-y.text.items c.loop-y.y (grid_height device) rows (omega arith) c.loop-y.invariant
