use Rattle.std.proofs.Common.{◌≡◌}
use Rattle.index_search.specs.Places.{gathered_below}
use Rattle.boot_file.specs.Parts.{first_named}
use Rattle.boot_file.proofs.parts.image_addresses.Given as goal

abbrev pub invariant-loop-entry : goal.invariant-loop-entry
invariant-loop-entry l = l.addresses.items ≡ gathered_below l.entry (first_named l.bytes)
