use Rattle.std.proofs.Common.{◌≡◌, take}
use Rattle.port_names.specs.Listed.{given_by}
use Rattle.port_names.specs.Renamed.{renamed_atoms}
use Rattle.port_names.proofs.renamed.atoms_renamed.Given as goal

abbrev pub invariant-loop-place : goal.invariant-loop-place
invariant-loop-place l = l.renamed ≡ renamed_atoms (given_by l.renaming) (take l.place l.atoms)
