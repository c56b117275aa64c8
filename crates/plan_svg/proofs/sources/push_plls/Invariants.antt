use Rattle.std.proofs.Common.{◌≡◌, ◌++◌, flat_map, take}
use Rattle.plan_svg.specs.Sources.{pll_mark}
use Rattle.plan_svg.proofs.sources.push_plls.Given as goal

abbrev pub invariant-loop-pll : goal.invariant-loop-pll
invariant-loop-pll l =
    l.text.items ≡ l.initial.text.items ++ flat_map (pll_mark l.sheet) (take l.pll-index l.plls)
