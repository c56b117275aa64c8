use Rattle.std.proofs.Common.{◌≡◌, ◌-◌, ◌++◌, take, replicate}
use Rattle.layout_file.proofs.narrow.widths.Given as goal

abbrev pub invariant-loop-place : goal.invariant-loop-place
invariant-loop-place l = l.widths ≡ take l.place l.fn.numbers ++ replicate (17 - l.place) 0
