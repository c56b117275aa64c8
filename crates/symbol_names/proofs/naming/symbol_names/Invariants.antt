use Rattle.std.proofs.Common.{map, take}
use Rattle.wire_names.specs.Lists.{free_names}
use Rattle.wire_names.specs.Naming.{Names}
use Rattle.symbol_names.proofs.Wanted.{wanted_in}
use Rattle.symbol_names.proofs.naming.symbol_names.Given as goal

abbrev pub invariant-loop-symbol : goal.invariant-loop-symbol
invariant-loop-symbol l = Names l.module (free_names l.module (map (wanted_in l.design.parts.links) (take l.symbol-index l.symbols))) l.naming
