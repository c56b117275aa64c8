-- The variables of a VCD (IEEE Std 1364-2005, 18.2), and their values in an entry of a run. The order of the variables is this project's
-- choice.
use Rattle.std.specs.Prelude.{ℕ, Bool, false, ◌&&◌, ◌||◌, ◌==◌, List, [], ◌∷◌, ◌++◌, drop, get_or, map, if◌then◌else◌, Option, Some, None}
use Rattle.std.specs.List.{list_all}
use Rattle.vlog_module.specs.declared.modules.Port.{Port}
use Rattle.vlog_module.specs.Maps.{value_in}
use Rattle.vlog_module.specs.Names.{is_letter, is_name_byte}
use Rattle.vlog_module.specs.Parts.{Parts}
use Rattle.vlog_semantics.specs.Entries.{Entry}
use Rattle.vlog_semantics.specs.ModuleSlots.{register_names, wire_names, word_names}
use Rattle.vlog_semantics.specs.Named.{values_of}

-- the type of a variable: a wire of one bit, a register of one bit, or a register of 16 bits
pub data Kind : Type 0 where
  wire_kind : Kind
  register_kind : Kind
  word_kind : Kind

pub record Variable : Type 0 where
  pub kind : Kind
  pub name : List ℕ

abbrev pub of_kind : Kind → List (List ℕ) → List Variable
of_kind kind names = map (λ name. record { kind = kind; name = name }) names

-- ---- given names

-- a letter, an underscore, a digit or a dollar sign
abbrev pub is_simple_byte : ℕ → Bool
is_simple_byte byte = is_name_byte byte || (byte == 36)

-- a simple identifier (IEEE Std 1364-2005, 3.7): a letter or an underscore, then such bytes
abbrev pub is_simple : List ℕ → Bool
is_simple [] = false
is_simple (byte ∷ bytes) = is_letter byte && list_all is_simple_byte bytes

-- A name as it is written. If it isn't a simple identifier, it is escaped: a backslash stands before it (3.7.1), and the space that comes
-- after every name ends it.
abbrev pub written_name : List ℕ → List ℕ
written_name name = if is_simple name then name else 92 ∷ name

-- the name that is given to a wire, or else its own
abbrev pub name_by : List ℕ → Option (List ℕ) → List ℕ
name_by wire (Some name) = written_name name
name_by wire None = wire

-- the name of a wire's variable, by wires with the names that are given to them
abbrev pub wire_label : List (List ℕ × List ℕ) → List ℕ → List ℕ
wire_label names wire = name_by wire (value_in names wire)

-- ---- all variables

-- The ports in their order, then the registers of one bit, the registers of 16 bits and the wires, each in the order of their declarations.
-- Wires have the names that are given to them.
unfoldable pub variables_of : List (List ℕ × List ℕ) → Parts → List Variable
variables_of names m =
    of_kind wire_kind (map (λ port. port.name) m.ports)
    ++ (of_kind register_kind (register_names m.items) ++ (of_kind word_kind (word_names m.items) ++ of_kind wire_kind (map (wire_label names) (wire_names m.items))))

-- the value of a variable
pub data Value : Type 0 where
  one_bit : Bool → Value
  sixteen_bits : ℕ → Value

-- the bits of all ports in their order, from the bits of the inputs and the bits of the outputs
abbrev pub port_bits : List Port → List Bool → List Bool → List Bool
port_bits [] inputs outputs = []
port_bits (port ∷ ports) inputs outputs =
    if port.output then get_or outputs 0 false ∷ port_bits ports inputs (drop 1 outputs)
    else get_or inputs 0 false ∷ port_bits ports (drop 1 inputs) outputs

-- the values of the variables, in the same order
unfoldable pub values_in : Parts → Entry → List Value
values_in m entry =
    map one_bit (port_bits m.ports (values_of entry.inputs) (values_of entry.outputs))
    ++ (map one_bit (values_of entry.registers) ++ (map sixteen_bits (values_of entry.words) ++ map one_bit (values_of entry.wires)))
