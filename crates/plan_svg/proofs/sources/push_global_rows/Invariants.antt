use Rattle.std.proofs.Common.{◌≡◌, ◌++◌, flat_map, take}
use Rattle.plan_svg.specs.Sources.{global_row}
use Rattle.plan_svg.proofs.sources.push_global_rows.Given as goal

abbrev pub invariant-loop-global : goal.invariant-loop-global
invariant-loop-global l =
    l.text.items ≡ l.initial.text.items ++ flat_map global_row (take l.global-index l.globals)
