-- The names of an item: what it declares, reads and assigns, from left to right in its text.
use Rattle.std.specs.Prelude.{ℕ, Bool, List, [], ◌∷◌, ◌++◌}
use Rattle.vlog_module.specs.declared.sort.Sort.{Sort}
use Rattle.vlog_module.specs.declared.sort.Sort.TheVariants.{Output, Register, Word, Memory, Wire}
use Rattle.vlog_module.specs.declared.atoms.Atom.{Atom}
use Rattle.vlog_module.specs.declared.atoms.Atom.TheVariants.{Bit, Whole, Part}
use Rattle.vlog_module.specs.declared.item.Lut.{Lut}
use Rattle.vlog_module.specs.declared.item.Right.{Right}
use Rattle.vlog_module.specs.declared.item.Right.TheVariants.{Bit as RightBit, Whole as RightWhole, Part as RightPart, Lut as RightLut, Majority, Choose}
use Rattle.vlog_module.specs.declared.item.Item.{Item}
use Rattle.vlog_module.specs.declared.item.Item.TheVariants.{Register as RegisterItem, Word as WordItem, Memory as MemoryItem, Wire as WireItem, Assign, FlipFlop, AsyncFlipFlop, AsyncReset, Read, ReadNarrow, Write, WriteNarrow, Start}

-- how an item uses a name
pub data Use : Type 0 where
  -- it declares the name
  Declares : (sort : Sort) (name : List ℕ) → Use
  -- it reads the name, which has a value of one bit
  Reads : (name : List ℕ) → Use
  -- it reads bit k of the name, which is a register of 16 bits
  ReadsBit : (name : List ℕ) (k : ℕ) → Use
  -- it uses the name as a clock
  Clocks : (name : List ℕ) → Use
  -- it uses the name as an asynchronous set or reset, or as a memory
  Takes : (sort : Sort) (name : List ℕ) → Use
  -- it assigns the name
  Assigns : (sort : Sort) (name : List ℕ) → Use
  -- it reads the name, a register with an asynchronous set or reset, by way of that: the bit `set` while the wire `reset` is 1
  Chooses : (reset : List ℕ) (set : Bool) (name : List ℕ) → Use
  -- it assigns the name, a register that the wire `reset` sets (if the bit `set` is 1) or resets asynchronously
  AssignsAsync : (reset : List ℕ) (set : Bool) (name : List ℕ) → Use
  -- it gives word k of the memory its start value
  Starts : (name : List ℕ) (k : ℕ) → Use

-- the name that a use uses
abbrev pub used_name : Use → List ℕ
used_name (Declares sort name) = name
used_name (Reads name) = name
used_name (ReadsBit name k) = name
used_name (Clocks name) = name
used_name (Takes sort name) = name
used_name (Assigns sort name) = name
used_name (Chooses reset set name) = name
used_name (AssignsAsync reset set name) = name
used_name (Starts name k) = name

abbrev pub atom_uses : Atom → List Use
atom_uses (Bit bit) = []
atom_uses (Whole name) = Reads name ∷ []
atom_uses (Part name k) = ReadsBit name k ∷ []

-- the names of a list of atoms; the text has the atom of the highest index first
abbrev pub atoms_uses : List Atom → List Use
atoms_uses [] = []
atoms_uses (atom ∷ atoms) = atoms_uses atoms ++ atom_uses atom

abbrev pub lut_uses : Lut → List Use
lut_uses lut = atoms_uses lut.ins

abbrev pub right_uses : Right → List Use
right_uses (RightBit bit) = []
right_uses (RightWhole name) = Reads name ∷ []
right_uses (RightPart name k) = ReadsBit name k ∷ []
right_uses (RightLut lut) = lut_uses lut
right_uses (Majority a b c) = atom_uses a ++ atom_uses b ++ atom_uses c
right_uses (Choose reset set target) = Takes Wire reset ∷ Chooses reset set target ∷ []

-- the names of an item, from left to right; a name that the text repeats is listed once
abbrev pub uses_of : Item → List Use
uses_of (RegisterItem name start) = Declares Register name ∷ []
uses_of (WordItem name start) = Declares Word name ∷ []
uses_of (MemoryItem name) = Declares Memory name ∷ []
uses_of (WireItem name right) = Declares Wire name ∷ right_uses right
uses_of (Assign name value) = Assigns Output name ∷ atom_uses value
uses_of (FlipFlop falling clock enable reset set target lut) =
    Clocks clock ∷ (atom_uses enable ++ atom_uses reset ++ Assigns Register target ∷ lut_uses lut)
uses_of (AsyncFlipFlop falling clock reset set target enable lut) =
    Clocks clock ∷ Takes Wire reset ∷ AssignsAsync reset set target ∷ (atom_uses enable ++ lut_uses lut)
uses_of (AsyncReset reset set target) = Takes Wire reset ∷ AssignsAsync reset set target ∷ []
uses_of (Read falling clock clock_enable enable target memory address) =
    Clocks clock
    ∷ (atom_uses clock_enable ++ atom_uses enable ++ Assigns Word target ∷ Takes Memory memory ∷ atoms_uses address)
uses_of (ReadNarrow falling clock clock_enable enable target memory address shift pattern) =
    Clocks clock
    ∷ (atom_uses clock_enable ++ atom_uses enable ++ Assigns Word target ∷ Takes Memory memory ∷ atoms_uses address
    ++ atoms_uses shift)
uses_of (Write falling clock clock_enable enable memory address mask bits) =
    Clocks clock
    ∷ (atom_uses clock_enable ++ atom_uses enable ++ Assigns Memory memory ∷ atoms_uses address ++ atoms_uses mask
    ++ atoms_uses bits)
uses_of (WriteNarrow falling clock clock_enable enable memory address pattern shift bits) =
    Clocks clock
    ∷ (atom_uses clock_enable ++ atom_uses enable ++ Assigns Memory memory ∷ atoms_uses address ++ atoms_uses shift
    ++ atoms_uses bits)
uses_of (Start memory k word) = Starts memory k ∷ []
