use Rattle.std.proofs.Common.{◌≡◌, ◌+◌, ◌-◌, ◌*◌, ◌++◌}
use Rattle.hex.specs.Hex.{encode_lower}
use Rattle.index_search.specs.Places.{gathered_below}
use Rattle.asc_text.specs.Canonical.{two_bytes}
use Rattle.bram_replace.specs.Replaced.{word_with}
use Rattle.bram_replace.specs.Rams.{listed}
use Rattle.bram_replace.proofs.ram.append_digits.Given as goal

abbrev pub invariant-loop-place : goal.invariant-loop-place
invariant-loop-place l =
    l.bytes.items ≡ l.initial.bytes.items ++ encode_lower (gathered_below l.place (λ place. two_bytes (word_with (listed l.bits) (16 * l.row + (15 - place)))))
