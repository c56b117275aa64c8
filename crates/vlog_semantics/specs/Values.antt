-- The values of atoms and of right sides, by the values of names (IEEE Std 1364-2005, clause 5, for bits that are 0 or 1).
use Rattle.std.specs.Prelude.{ℕ, ◌+◌, ◌*◌, ◌/◌, ◌%◌, ◌^◌, Bool, false, ◌&&◌, ◌||◌, ◌==◌, List, [], ◌∷◌, map, unwrap_or, if◌then◌else◌}
use Rattle.std.specs.Option.{option_map_or}
use Rattle.vlog_module.specs.declared.atoms.Atom.{Atom}
use Rattle.vlog_module.specs.declared.atoms.Atom.TheVariants.{Bit, Whole, Part}
use Rattle.vlog_module.specs.declared.item.Lut.{Lut}
use Rattle.vlog_module.specs.declared.item.Right.{Right}
use Rattle.vlog_module.specs.declared.item.Right.TheVariants.{Bit as RightBit, Whole as RightWhole, Part as RightPart, Lut as RightLut, Majority, Choose}
use Rattle.vlog_module.specs.Maps.{value_in}

-- the values that atoms can read: those of the names of one bit, and of the registers of 16 bits
pub record Readable : Type 0 where
  pub bits : List (List ℕ × Bool)
  pub words : List (List ℕ × ℕ)

-- the number that bits spell, the lowest bit first
abbrev pub number_of : List Bool → ℕ
number_of [] = 0
number_of (bit ∷ bits) = (if bit then 1 else 0) + 2 * number_of bits

-- a bit of a word; bit 0 is the lowest
abbrev pub bit_of : ℕ → ℕ → Bool
bit_of word k = word / 2 ^ k % 2 == 1

-- the majority of three bits: the carry-out of `SB_CARRY`
abbrev pub majority : Bool → Bool → Bool → Bool
majority a b c = (a && b) || (a && c) || (b && c)

abbrev pub atom_value : Readable → Atom → Bool
atom_value from (Bit bit) = bit
atom_value from (Whole name) = unwrap_or (value_in from.bits name) false
atom_value from (Part name k) = option_map_or (λ word. bit_of word k) (value_in from.words name) false

-- the number that atoms spell, the lowest bit first
abbrev pub atoms_value : Readable → List Atom → ℕ
atoms_value from atoms = number_of (map (atom_value from) atoms)

-- the bit of the LUT's word at the index that its inputs spell, as `SB_LUT4` has it
abbrev pub lut_value : Readable → Lut → Bool
lut_value from lut = bit_of lut.word (atoms_value from lut.ins)

-- the value of a right side
abbrev pub right_value : Readable → Right → Bool
right_value from (RightBit bit) = bit
right_value from (RightWhole name) = atom_value from (Whole name)
right_value from (RightPart name k) = atom_value from (Part name k)
right_value from (RightLut lut) = lut_value from lut
right_value from (Majority a b c) = majority (atom_value from a) (atom_value from b) (atom_value from c)
right_value from (Choose reset set target) = if atom_value from (Whole reset) then set else atom_value from (Whole target)
