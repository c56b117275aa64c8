use Rattle.std.proofs.Common.{◌≡◌, flat_map, take}
use Rattle.std.specs.List.{list_any}
use Rattle.fabric_model.specs.Tiles.{item_if}
use Rattle.floor_plan.specs.Plans.{is_a, is_b_of}
use Rattle.floor_plan.proofs.plls.plls_of.Given as goal

abbrev pub invariant-loop-source : goal.invariant-loop-source
invariant-loop-source l =
    l.plls.items ≡ flat_map (λ source. item_if (is_a source.output) (record { x = source.x; y = source.y; has_b = list_any (is_b_of source.x source.y) l.sources })) (take l.source-index l.sources)
