use Rattle.std.proofs.Common.{◌≡◌, take, length}
use Rattle.chipdb_reader.specs.Kept.{database_in}
use Rattle.fabric_model.specs.Nets.{ending_in}
use Rattle.fabric_model.specs.Rams.{port_net}
use Rattle.fabric_model.specs.Tiles.{each_below}
use Rattle.fabric_parts.proofs.ram.ports.numbered_nets.Given as goal

abbrev pub invariant-loop-k : goal.invariant-loop-k
invariant-loop-k g l = record {
  long : length l.nets ≡ g.row.N;
  filled : take l.k l.nets ≡ each_below l.k (λ k. port_net (database_in l.db) l.x l.y (ending_in l.before k));
}
