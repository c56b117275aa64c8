-- The values of variables as they are kept: each kind in a list of its own.
use Rattle.std.specs.Prelude.{◌≡◌, ℕ, ◌+◌, ◌*◌, ◌++◌, List, length, map, vec_len}
use Rattle.vlog_module.specs.Parts.{Parts}
use Rattle.vlog_semantics.specs.ModuleSlots.{register_names, wire_names, word_names}
use Rattle.vlog_waves.specs.Variables.{Value}
use Rattle.vlog_waves.specs.Variables.Value.{one_bit, sixteen_bits}
use Rattle.vlog_waves.specs.declared.values.Values.{Values}

-- the values in the order of the variables
abbrev pub values_held : Values → List Value
values_held values =
    map one_bit values.ports.items
    ++ (map one_bit values.registers.items ++ (map sixteen_bits values.words.items ++ map one_bit values.wires.items))

-- the numbers of values of each kind are the same in both
pub record AreAlike (old new : Values) : Type 0 where
  pub ports : length new.ports.items ≡ length old.ports.items
  pub registers : length new.registers.items ≡ length old.registers.items
  pub words : length new.words.items ≡ length old.words.items
  pub wires : length new.wires.items ≡ length old.wires.items

-- the number of values of each kind is the module's number of variables of that kind
pub record Fits (m : Parts) (values : Values) : Type 0 where
  pub ports : length values.ports.items ≡ length m.ports
  pub registers : length values.registers.items ≡ length (register_names m.items)
  pub words : length values.words.items ≡ length (word_names m.items)
  pub wires : length values.wires.items ≡ length (wire_names m.items)

-- the most bytes that the lines of an event may have
abbrev pub event_room : Values → ℕ
event_room values =
    32 * (vec_len values.ports + vec_len values.registers + vec_len values.words + vec_len values.wires) + 32
