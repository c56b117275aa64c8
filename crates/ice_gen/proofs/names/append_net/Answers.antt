use Rattle.std.proofs.Common.{[], ◌∷◌, arith}
use Rattle.std.specs.Prelude.{codes, decimal}
use Rattle.index_search.specs.Places.{gathered_below}
use Rattle.plane_map.specs.Layout.{grid_height}
use Rattle.asc_text.specs.Canonical.{with_word}
use Rattle.asc_text.proofs.Pieces.{gathered-all}
use Rattle.ice_gen.specs.Database.{names_in_row, net_lines}
use Rattle.asc_text.proofs.Pieces.{lines-joined}
use Rattle.ice_gen.proofs.names.append_net.Goals as goal

pub returns : goal.returns
unfolding net_lines
returns c =
    let rows = names_in_row c.args.device c.args.net in
    lines-joined c.args.text.now.items c.append_statement.new.text.items c.loop-y.text.items (with_word (codes ".net") (decimal c.args.net) ∷ []) (gathered_below (grid_height c.args.device) rows) c.in_ok-append_statement.ensures
    (gathered-all c.append_statement.new.text.items c.loop-y.text.items c.loop-y.y (grid_height c.args.device) rows (omega arith) c.loop-y.invariant)
