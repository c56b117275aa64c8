use Rattle.std.proofs.Common.{◌≡◌, ◌||◌, ◌++◌, ℕ, List, map}
use Rattle.pin_file.specs.PortNames.{has_name}
use Rattle.pin_file.proofs.name_set.NameSet.insert_all.Given as goal

abbrev pub invariant-loop-name : goal.invariant-loop-name
invariant-loop-name l = record {
  all : l.yielded ++ l.name-iterator.rest.items ≡ l.fn.names.items;
  kept : (other : List ℕ) → has_name l.self other ≡ (has_name l.fn.self other || has_name (map (λ name. name.items) l.yielded) other);
}
