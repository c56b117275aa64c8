use Rattle.std.proofs.Common.{◌≡◌, ◌++◌, take, map}
use Rattle.text_lines.specs.Written.{text_of}
use Rattle.asc_text.specs.Canonical.{extra_line}
use Rattle.asc_text.proofs.writing.extras.append_extra_bits.Given as goal

abbrev pub invariant-loop-at : goal.invariant-loop-at
invariant-loop-at l =
    l.text.items ≡ l.initial.text.items ++ text_of (take l.at-index (map extra_line l.at-items))
