-- What is written for inputs, and the right-hand sides that are written for drivers.
use Rattle.std.specs.Prelude.{ℕ, ◌+◌, ◌/◌, nat_lt, Bool, true, false, List, [], ◌∷◌, map, get_or, Option, Some, None, if◌then◌else◌}
use Rattle.narrow_words.specs.Narrow.{share}
use Rattle.vlog_module.specs.declared.atoms.Atom.{Atom}
use Rattle.vlog_module.specs.declared.atoms.Atom.TheVariants.{Bit, Whole, Part}
use Rattle.vlog_module.specs.declared.item.Lut.{Lut}
use Rattle.vlog_module.specs.declared.item.Right.{Right}
use Rattle.vlog_module.specs.declared.item.Right.TheVariants.{Bit as RightBit, Whole as RightWhole, Part as RightPart, Lut as RightLut, Majority, Choose}
use Rattle.fabric_model.specs.declared.signal.Signal.{Signal}
use Rattle.fabric_model.specs.declared.signal.Signal.TheVariants as signal
use Rattle.fabric_model.specs.declared.register.LutTable.{LutTable}
use Rattle.fabric_model.specs.declared.register.Register.{Register}
use Rattle.fabric_model.specs.Signals.{net_or_0}
use Rattle.fabric_model.specs.Tiles.{each_below}
use Rattle.fabric_model.specs.Rams.{data_bit}
use Rattle.fabric_model.specs.Joins.{class_of}
use Rattle.fabric_model.specs.Fabric.{Fabric, inputs_of}
use Rattle.fabric_model.specs.Drivers.{Rule, Drive, drivers_of}
use Rattle.fabric_model.specs.Drivers.Rule.{pin_bit, constant, input, table_entry, majority_of, register_bit, read_bit, copied}
use Rattle.fabric_model.specs.Values.{is_connected}
use Rattle.fabric_module.specs.Names.{input_port_name, register_name, read_name, wire_name}

-- ---- atoms

-- an unconnected input has its stated value; any other input reads the wire of its class of joined nets
unfoldable pub input_atom : Fabric → Bool → Option ℕ → Atom
input_atom fabric stated None = Bit stated
input_atom fabric stated (Some net) = if is_connected fabric net then Whole (wire_name (class_of fabric.joins net)) else Bit stated

-- an input that is 0 if it is unconnected
abbrev pub atom_or_0 : Fabric → Option ℕ → Atom
atom_or_0 fabric net = input_atom fabric false net

-- an input that is 1 if it is unconnected
abbrev pub atom_or_1 : Fabric → Option ℕ → Atom
atom_or_1 fabric net = input_atom fabric true net

-- the inputs of a list of ports, the lowest first
abbrev pub port_atoms : Fabric → List (Option ℕ) → List Atom
port_atoms fabric ports = map (atom_or_0 fabric) ports

-- ---- names by indexes

-- the input port with an index
abbrev pub input_name : Fabric → ℕ → List ℕ
input_name fabric place = get_or (map input_port_name (inputs_of fabric)) place []

-- the read register of the used RAM with an index
abbrev pub read_at : Fabric → ℕ → List ℕ
read_at fabric place = get_or (map read_name fabric.rams) place []

-- the register with an index
abbrev pub register_at : Fabric → ℕ → List ℕ
register_at fabric place = get_or (map register_name fabric.registers) place []

-- ---- what inputs read

-- a net, an input port, or a register
abbrev pub signal_atom : Fabric → Signal → Atom
signal_atom fabric (signal.Net net otherwise) = input_atom fabric otherwise net
signal_atom fabric (signal.Input place) = Whole (input_name fabric place)
signal_atom fabric (signal.Register place) = Whole (register_at fabric place)

-- ---- tables

-- input k of a table
abbrev pub table_atom : Fabric → LutTable → ℕ → Atom
table_atom fabric table k = signal_atom fabric (get_or table.ins k (net_or_0 None))

-- a table with its four inputs, in_0 first
abbrev pub lut_of : Fabric → LutTable → Lut
lut_of fabric table = record {
  word = table.word;
  ins = table_atom fabric table 0 ∷ table_atom fabric table 1 ∷ table_atom fabric table 2 ∷ table_atom fabric table 3 ∷ [];
}

-- ---- asynchronous set and reset

-- the wire of a net, or none if the net is missing or has no driver
abbrev pub driven_wire : Fabric → Option ℕ → Option (List ℕ)
driven_wire fabric None = None
driven_wire fabric (Some net) = if is_connected fabric net then Some (wire_name (class_of fabric.joins net)) else None

-- the wire of a register's asynchronous set or reset; none if that is synchronous or unconnected
abbrev pub setting_wire : Fabric → Register → Option (List ℕ)
setting_wire fabric register = if register.is_async then driven_wire fabric register.sr else None

-- the value of a register: while a wire sets or resets it asynchronously, it is the set bit, else what the register holds
abbrev pub register_right : Register → Option (List ℕ) → Right
register_right register (Some wire) = Choose wire register.«set» (register_name register)
register_right register None = RightWhole (register_name register)

-- ---- narrow words

-- the word of a mode whose bits are 1 at the bits of the narrow word with high part 0, and 0 elsewhere
abbrev pub pattern_of : ℕ → ℕ
pattern_of mode = get_or (65535 ∷ 21845 ∷ 4369 ∷ 257 ∷ []) mode 0

-- a bit of the high part of an address; 0 if the mode has no such bit
abbrev pub shift_atom : Fabric → ℕ → List (Option ℕ) → ℕ → Atom
shift_atom fabric mode ports k = if nat_lt k mode then atom_or_0 fabric (get_or ports (8 + k) None) else Bit false

-- the high part of an address as three atoms, the lowest first
abbrev pub shift_atoms : Fabric → ℕ → List (Option ℕ) → List Atom
shift_atoms fabric mode ports = shift_atom fabric mode ports 0 ∷ shift_atom fabric mode ports 1 ∷ shift_atom fabric mode ports 2 ∷ []

-- the write data in a mode: atom j is the data for the bit of a narrow word that lies at bit j of a word
abbrev pub data_atoms : Fabric → ℕ → List (Option ℕ) → List Atom
data_atoms fabric mode ports = each_below 16 (λ j. atom_or_0 fabric (get_or ports (data_bit mode (j / share mode)) None))

-- ---- right-hand sides

-- an atom as a right-hand side
abbrev pub right_alone : Atom → Right
right_alone (Bit bit) = RightBit bit
right_alone (Whole name) = RightWhole name
right_alone (Part name k) = RightPart name k

-- the right-hand side that has a driver's value
unfoldable pub right_of : Fabric → Rule → Right
right_of fabric (pin_bit place) = RightWhole (input_name fabric place)
right_of fabric (constant bit) = RightBit bit
right_of fabric (input source) = right_alone (signal_atom fabric source)
right_of fabric (table_entry table) = RightLut (lut_of fabric table)
right_of fabric (majority_of a b c) = Majority (atom_or_0 fabric a) (atom_or_0 fabric b) (atom_or_0 fabric c)
right_of fabric (register_bit place register) = register_right register (setting_wire fabric register)
right_of fabric (read_bit ram bit) = RightPart (read_at fabric ram) bit
right_of fabric (copied net) = right_alone (atom_or_0 fabric (Some net))

-- the right-hand side for the drivers of a class of joined nets; a class that is written has exactly one
abbrev pub right_by : Fabric → List Drive → Right
right_by fabric [] = RightBit false
right_by fabric (drive ∷ drives) = right_of fabric drive.rule

-- the right-hand side of the wire of a class of joined nets
unfoldable pub class_right : Fabric → ℕ → Right
class_right fabric class = right_by fabric (drivers_of fabric class)
