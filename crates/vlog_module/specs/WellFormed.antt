-- Well-formed modules: which items may follow others. The order of the sections is this project's choice.
use Rattle.std.specs.Prelude.{◌≡◌, ℕ, ◌<◌, ◌≤◌, Bool, true, false, not, ◌&&◌, ◌||◌, ◌==◌, List, [], ◌∷◌, ◌++◌, Option, Some, None, is_none, bytes_eq, fold, map, flat_map, length, take, slice_get, if◌then◌else◌, IsTrue, All}
use Rattle.std.specs.Bool.{beq}
use Rattle.std.specs.List.{list_all, list_any, IsDistinct}
use Rattle.vlog_module.specs.declared.sort.Sort.{Sort}
use Rattle.vlog_module.specs.declared.sort.Sort.TheVariants.{Input, Output, Register, Word, Memory, Wire}
use Rattle.vlog_module.specs.declared.item.Lut.{Lut}
use Rattle.vlog_module.specs.declared.item.Right.{Right}
use Rattle.vlog_module.specs.declared.item.Right.TheVariants.{Lut as RightLut}
use Rattle.vlog_module.specs.declared.item.Item.{Item}
use Rattle.vlog_module.specs.declared.item.Item.TheVariants.{Register as RegisterItem, Word as WordItem, Memory as MemoryItem, Wire as WireItem, Assign, FlipFlop, AsyncFlipFlop, AsyncReset, Read, ReadNarrow, Write, WriteNarrow, Start}
use Rattle.vlog_module.specs.declared.modules.Port.{Port}
use Rattle.vlog_module.specs.Maps.{value_in}
use Rattle.vlog_module.specs.Names.{IsName}
use Rattle.vlog_module.specs.Parts.{Parts}
use Rattle.vlog_module.specs.Uses.{Use, uses_of, right_uses, used_name}
use Rattle.vlog_module.specs.Uses.Use.{Declares, Reads, ReadsBit, Clocks, Takes, Assigns, Chooses, AssignsAsync, Starts}

-- ---- what comes before an item

-- the section of an item; the ports are section 1
abbrev pub section_of : Item → ℕ
section_of (RegisterItem name start) = 2
section_of (WordItem name start) = 3
section_of (MemoryItem name) = 4
section_of (WireItem name right) = 5
section_of (Assign name value) = 6
section_of (FlipFlop falling clock enable reset set target lut) = 7
section_of (AsyncFlipFlop falling clock reset set target enable lut) = 7
section_of (AsyncReset reset set target) = 7
section_of (Read falling clock clock_enable enable target memory address) = 8
section_of (ReadNarrow falling clock clock_enable enable target memory address shift pattern) = 8
section_of (Write falling clock clock_enable enable memory address mask bits) = 9
section_of (WriteNarrow falling clock clock_enable enable memory address pattern shift bits) = 9
section_of (Start memory k word) = 10

abbrev pub port_sort : Port → Sort
port_sort port = if port.output then Output else Input

-- the name that a use declares, with what it is declared as
abbrev pub declared_by : Use → List (List ℕ × Sort)
declared_by (Declares sort name) = (name, sort) ∷ []
declared_by _ = []

-- the name that a use assigns
abbrev pub assigned_by : Use → List (List ℕ)
assigned_by (Assigns sort name) = name ∷ []
assigned_by (AssignsAsync reset set name) = name ∷ []
assigned_by _ = []

-- the memory and the index of its word that a use gives a start value
abbrev pub started_by : Use → List (List ℕ × ℕ)
started_by (Starts name k) = (name, k) ∷ []
started_by _ = []

-- how a wire reads a register: as it is, or by way of its asynchronous set or reset: the bit `set` while the wire `reset` is 1
pub data Reading : Type 0 where
  plainly : Reading
  unless : (reset : List ℕ) (set : Bool) → Reading

-- the name that a use reads, and how
abbrev pub read_by : Use → List (List ℕ × Reading)
read_by (Reads name) = (name, plainly) ∷ []
read_by (Chooses reset set name) = (name, unless reset set) ∷ []
read_by _ = []

-- the names that a wire reads, and how
abbrev pub wire_readings : Item → List (List ℕ × Reading)
wire_readings (WireItem name right) = flat_map read_by (right_uses right)
wire_readings _ = []

-- what the items so far leave for those after them: the section of the last one, the names that are declared, how wires read names, the
-- names that are assigned, and the words of memories that have a start value
pub record Scope : Type 0 where
  pub section : ℕ
  pub declared : List (List ℕ × Sort)
  pub read : List (List ℕ × Reading)
  pub assigned : List (List ℕ)
  pub started : List (List ℕ × ℕ)

-- what the ports and some items leave for the next item
abbrev pub scope_of : List Port → List Item → Scope
scope_of ports items = record {
  section = fold (λ before item. section_of item) 1 items;
  declared = map (λ port. (port.name, port_sort port)) ports ++ flat_map declared_by (flat_map uses_of items);
  read = flat_map wire_readings items;
  assigned = flat_map assigned_by (flat_map uses_of items);
  started = flat_map started_by (flat_map uses_of items);
}

-- ---- which item may come next

-- what a name is declared as, if it is
abbrev pub sort_in : List (List ℕ × Sort) → List ℕ → Option Sort
sort_in declared name = value_in declared name

-- whether both are the same kind of name
abbrev pub is_same_sort : Sort → Sort → Bool
is_same_sort Input Input = true
is_same_sort Output Output = true
is_same_sort Register Register = true
is_same_sort Word Word = true
is_same_sort Memory Memory = true
is_same_sort Wire Wire = true
is_same_sort _ _ = false

-- whether a name is declared as this
abbrev pub is_sort : Sort → Option Sort → Bool
is_sort sort (Some other) = is_same_sort sort other
is_sort sort None = false

-- whether a name has a value of one bit: an input, a register of one bit or a wire
abbrev pub has_bit : Option Sort → Bool
has_bit (Some Input) = true
has_bit (Some Register) = true
has_bit (Some Wire) = true
has_bit _ = false

-- whether a name can be a clock: an input, or a register of one bit
abbrev pub is_clock : Option Sort → Bool
is_clock (Some Input) = true
is_clock (Some Register) = true
is_clock _ = false

-- whether a register is read by way of this asynchronous set or reset
abbrev pub is_unless : List ℕ → Bool → Reading → Bool
is_unless reset set plainly = false
is_unless reset set (unless other bit) = bytes_eq other reset && beq bit set

-- whether each wire that reads the register does so by way of this asynchronous set or reset
abbrev pub is_read_unless : List (List ℕ × Reading) → List ℕ → Bool → List ℕ → Bool
is_read_unless readings reset set name = list_all (λ one. not (bytes_eq one.0 name) || is_unless reset set one.1) readings

-- whether the name is declared before, and as what it is used as; if it is a register with an asynchronous set or reset, whether each wire
-- that reads it does so by way of that
abbrev pub is_known : Scope → Use → Bool
is_known scope (Declares sort name) = true
is_known scope (Reads name) = has_bit (sort_in scope.declared name)
is_known scope (ReadsBit name k) = is_sort Word (sort_in scope.declared name)
is_known scope (Clocks name) = is_clock (sort_in scope.declared name)
is_known scope (Takes sort name) = is_sort sort (sort_in scope.declared name)
is_known scope (Assigns sort name) = is_sort sort (sort_in scope.declared name)
is_known scope (Chooses reset set name) = is_sort Register (sort_in scope.declared name)
is_known scope (AssignsAsync reset set name) =
    is_sort Register (sort_in scope.declared name) && is_read_unless scope.read reset set name
is_known scope (Starts name k) = is_sort Memory (sort_in scope.declared name)

-- whether nothing before declares the same name, assigns it, or gives the same word a start value
abbrev pub is_first : Scope → Use → Bool
is_first scope (Declares sort name) = is_none (sort_in scope.declared name)
is_first scope (Assigns sort name) = not (list_any (λ other. bytes_eq other name) scope.assigned)
is_first scope (AssignsAsync reset set name) = not (list_any (λ other. bytes_eq other name) scope.assigned)
is_first scope (Starts name k) = not (list_any (λ other. bytes_eq other.0 name && (other.1 == k)) scope.started)
is_first scope _ = true

-- whether a number that is written with a name is in its range: the index of a bit or the address of a word
abbrev pub IsInRange : Use → Type 0
IsInRange (ReadsBit name k) = k ≤ 15
IsInRange (Starts name k) = k ≤ 255
IsInRange _ = Unit {0}

-- a LUT: a word of 16 bits and four atoms
abbrev pub IsLut : Lut → Type 0
IsLut lut = (lut.word < 65536) × (length lut.ins ≡ 4)

abbrev pub IsRight : Right → Type 0
IsRight (RightLut lut) = IsLut lut
IsRight _ = Unit {0}

-- whether words have 16 bits, LUTs four inputs, addresses eight bits, shifts three bits, and masks and data sixteen bits
abbrev pub IsShaped : Item → Type 0
IsShaped (WordItem name start) = start < 65536
IsShaped (WireItem name right) = IsRight right
IsShaped (FlipFlop falling clock enable reset set target lut) = IsLut lut
IsShaped (AsyncFlipFlop falling clock reset set target enable lut) = IsLut lut
IsShaped (Read falling clock clock_enable enable target memory address) = length address ≡ 8
IsShaped (ReadNarrow falling clock clock_enable enable target memory address shift pattern) =
    (length address ≡ 8) × (length shift ≡ 3) × (pattern < 65536)
IsShaped (Write falling clock clock_enable enable memory address mask bits) =
    (length address ≡ 8) × (length mask ≡ 16) × (length bits ≡ 16)
IsShaped (WriteNarrow falling clock clock_enable enable memory address pattern shift bits) =
    (length address ≡ 8) × (pattern < 65536) × (length shift ≡ 3) × (length bits ≡ 16)
IsShaped (Start memory k word) = word < 65536
IsShaped _ = Unit {0}

-- an item that may come next: its lists have the right lengths, its section isn't past, and each use is named, in range, known and first
pub record IsAllowed (scope : Scope) (item : Item) : Type 0 where
  pub shaped : IsShaped item
  pub ordered : scope.section ≤ section_of item
  pub named : All (λ used. IsName (used_name used)) (uses_of item)
  pub in_range : All IsInRange (uses_of item)
  pub known : All (λ used. IsTrue (is_known scope used)) (uses_of item)
  pub first : All (λ used. IsTrue (is_first scope used)) (uses_of item)

-- ---- modules

-- the names of the ports differ, and each item may come after the ports and the items before it
pub record IsBegun (ports : List Port) (items : List Item) : Type 0 where
  pub named : All (λ port. IsName port.name) ports
  pub apart : IsDistinct bytes_eq (map (λ port. port.name) ports)
  pub allowed : (i : ℕ) (item : Item) → slice_get items i ≡ Some item → IsAllowed (scope_of ports (take i items)) item

-- whether some item assigns a name
abbrev pub is_assigned : List Item → List ℕ → Bool
is_assigned items name = list_any (λ other. bytes_eq other name) (flat_map assigned_by (flat_map uses_of items))

-- a module may end if each output is assigned
abbrev pub IsComplete : List Port → List Item → Type 0
IsComplete ports items = All (λ port. IsTrue port.output → IsTrue (is_assigned items port.name)) ports

-- a name, ports and items that make a module
pub record IsWellFormed (name : List ℕ) (ports : List Port) (items : List Item) : Type 0 where
  pub named : IsName name
  pub begun : IsBegun ports items
  pub complete : IsComplete ports items

abbrev pub IsModule : Parts → Type 0
IsModule m = IsWellFormed m.name m.ports m.items
