use Rattle.std.proofs.Common.{◌≡◌, false, take}
use Rattle.std.specs.List.{list_any}
use Rattle.port_names.specs.Listed.{has_listed}
use Rattle.port_names.proofs.renamed.names_listed.Given as goal

abbrev pub invariant-loop-place : goal.invariant-loop-place
invariant-loop-place l = list_any (has_listed l.renaming) (take l.place l.atoms) ≡ false
