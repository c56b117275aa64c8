use Rattle.std.proofs.Common.{◌≡◌, ◌≤◌, ◌==◌, length}
use Rattle.std.specs.List.{list_any}
use Rattle.index_search.specs.Places.{gathered_below}
use Rattle.fabric_model.specs.declared.pin.GlobalNet.{GlobalNet}
use Rattle.fabric_model.specs.Tiles.{item_if}
use Rattle.image_stat.proofs.globals.globals.Given as goal

abbrev pub invariant-loop-g : goal.invariant-loop-g
invariant-loop-g l = record {
  is : l.count ≡ length (gathered_below l.g (λ g. item_if (list_any (λ (global : GlobalNet). global.g == g) l.nets) g));
  few : l.count ≤ l.g;
}
