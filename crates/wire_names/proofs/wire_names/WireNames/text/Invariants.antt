use Rattle.std.proofs.Common.{◌≡◌, take}
use Rattle.wire_names.specs.Lists.{names_text}
use Rattle.wire_names.proofs.wire_names.WireNames.text.Given as goal

abbrev pub invariant-loop-place : goal.invariant-loop-place
invariant-loop-place l = l.text.items ≡ names_text (take l.place l.self)
