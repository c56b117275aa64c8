use Rattle.std.proofs.Common.{◌≡◌, ◌++◌}
use Rattle.index_search.specs.Places.{gathered_below}
use Rattle.fabric_model.specs.TilesOfKind.{tile_if}
use Rattle.fabric_model.proofs.tiles.append_row.Given as goal

abbrev pub invariant-loop-x : goal.invariant-loop-x
invariant-loop-x l =
    l.tiles.items ≡ l.initial.tiles.items ++ gathered_below l.x (λ x. tile_if l.device l.kind x l.y)
