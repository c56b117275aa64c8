use Rattle.std.proofs.Common.{take}
use Rattle.port_names.specs.Fresh.{AreNames}
use Rattle.port_names.specs.Listed.{Lists}
use Rattle.port_names.proofs.renaming.Renaming.of.Given as goal

abbrev pub invariant-loop-pair : goal.invariant-loop-pair
invariant-loop-pair l = record {
  lists : Lists l.renaming (take l.pair-index l.pairs);
  named : AreNames (take l.pair-index l.pairs);
}
