use Rattle.std.proofs.Common.{◌≡◌, ◌↔◌, ℕ, true, ◌+◌, ◌<◌, ◌≤◌, flat_map, get_or, length, take}
use Rattle.vlog_engine.specs.Circuits.{flip_gates}
use Rattle.vlog_engine.specs.Flips.{AreApart}
use Rattle.vlog_engine.specs.Watching.{AddsWires, HasSameItems}
use Rattle.vlog_engine.specs.declared.groups.Group.{Group}
use Rattle.vlog_engine.proofs.watching.watch_groups.Given as goal

abbrev pub invariant-loop-pin : goal.invariant-loop-pin
invariant-loop-pin l =
    let old = l.initial.groups.items in
    record {
      size : length l.groups.items ≡ length old;
      next_is : l.next ≡ l.first + length (flat_map flip_gates (take l.pin old));
      rest : (k : ℕ) (none : Group) → l.pin ≤ k → get_or l.groups.items k none ≡ get_or old k none;
      items : (k : ℕ) (none : Group) → k < l.pin → HasSameItems (get_or old k none) (get_or l.groups.items k none);
      placed : (k : ℕ) (none : Group) → k < l.pin → (get_or l.groups.items k none).first_place ≡ l.first + length (flat_map flip_gates (take k old));
      apart : (k : ℕ) (none : Group) → k < l.pin → ((get_or l.groups.items k none).are_apart ≡ true ↔ AreApart (get_or old k none).flips.items);
      wires : AddsWires l.first (flat_map flip_gates (take l.pin old)) l.initial.readers.items l.readers.items;
    }
