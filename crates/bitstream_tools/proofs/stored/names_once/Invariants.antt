use Rattle.std.proofs.Common.{◌≡◌, ◌≤◌, length}
use Rattle.std.specs.Prelude.{map}
use Rattle.index_search.specs.Places.{gathered_below}
use Rattle.bitstream_tools.specs.Stored.{first_name}
use Rattle.bitstream_tools.proofs.stored.names_once.Given as goal

abbrev pub invariant-loop-name : goal.invariant-loop-name
invariant-loop-name l = record {
  are : map (λ name. name.now) l.stored.items ≡ gathered_below l.name-index (first_name (map (λ name. name.now) l.names));
  few : length l.stored.items ≤ l.name-index;
}
