use Rattle.std.proofs.Common.{◌≡◌, ◌∷◌, ◌++◌, map, take}
use Rattle.text_lines.specs.Written.{text_of}
use Rattle.image_explain.specs.Inside.{lists_of}
use Rattle.image_diff.specs.Differences.{lines_without}
use Rattle.image_diff.proofs.lines.append_without.Given as goal

abbrev pub invariant-loop-line : goal.invariant-loop-line
invariant-loop-line l =
    l.text.items ≡ l.initial.text.items ++ text_of (map (◌∷◌ l.sign) (lines_without (lists_of l.fn.others) (take l.line-index (lists_of l.lines))))
