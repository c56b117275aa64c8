use Rattle.std.proofs.Common.{◌≡◌, ◌++◌, flat_map, take}
use Rattle.plan_svg.specs.Sources.{global_mark}
use Rattle.plan_svg.proofs.sources.push_globals.Given as goal

abbrev pub invariant-loop-global : goal.invariant-loop-global
invariant-loop-global l =
    l.text.items ≡ l.initial.text.items ++ flat_map (global_mark l.sheet) (take l.global-index l.globals)
