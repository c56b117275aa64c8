use Rattle.std.proofs.Common.{◌≡◌, ◌/◌, get_or}
use Rattle.std.specs.Prelude.{None}
use Rattle.narrow_words.specs.Narrow.{share}
use Rattle.fabric_model.specs.Tiles.{each_below}
use Rattle.fabric_model.specs.Rams.{data_bit}
use Rattle.fabric_module.specs.Rights.{atom_or_0}
use Rattle.vlog_emit.specs.Each.{EachFabric}
use Rattle.vlog_emit.proofs.atoms.data_atoms.Given as goal

abbrev pub invariant-loop-place : goal.invariant-loop-place
invariant-loop-place l = EachFabric l.design (λ fabric. l.atoms ≡ each_below l.place (λ j. atom_or_0 fabric (get_or l.ports (data_bit l.mode (j / share l.mode)) None)))
