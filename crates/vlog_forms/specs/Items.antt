-- The form and the values of an item, and the item that a form and values make.
use Rattle.std.specs.Prelude.{◌≡◌, ℕ, zero, suc, Bool, true, false, List, [], ◌∷◌, ◌++◌, map, flat_map, reverse, drop, codes}
use Rattle.vlog_tokens.specs.declared.fixed.Fixed.TheVariants as sign
use Rattle.vlog_tokens.specs.Tokens.{TokenValue, spots_of, Spot}
use Rattle.vlog_tokens.specs.Tokens.{TokenValue as token}
use Rattle.vlog_module.specs.declared.sort.Sort.TheVariants as sort
use Rattle.vlog_module.specs.declared.atoms.Atom as atoms
use Rattle.vlog_module.specs.declared.atoms.Atom.TheVariants as atom
use Rattle.vlog_module.specs.declared.item.Lut.{Lut}
use Rattle.vlog_module.specs.declared.item.Right.{Right}
use Rattle.vlog_module.specs.declared.item.Right.TheVariants as right
use Rattle.vlog_module.specs.declared.item.Item.{Item}
use Rattle.vlog_module.specs.declared.item.Item.TheVariants as item
use Rattle.vlog_module.specs.declared.modules.Port.{Port}
use Rattle.vlog_module.specs.Parts.{Parts}
use Rattle.vlog_module.specs.WellFormed.{IsModule}
use Rattle.vlog_forms.specs.declared.form.Form.{Form}
use Rattle.vlog_forms.specs.declared.form.Form.TheVariants as form
use Rattle.vlog_forms.specs.declared.slot.Role.TheVariants.{Declares, Reads, ReadsBit, Clocks, Takes, Assigns, Chooses, AssignsAsync, Starts}
use Rattle.vlog_forms.specs.Values.{Value}
use Rattle.vlog_forms.specs.Values.Value.{Name, Edge, Bit, Word, Index, AnAtom}
use Rattle.vlog_forms.specs.Layout.{slots_of, filled}

-- the text has a list of atoms with the highest index first
abbrev pub atoms_values : List atoms.Atom → List Value
atoms_values list = map AnAtom (reverse list)

-- ---- an item as a form and values

abbrev pub wire_form : Right → Form
wire_form (right.Bit bit) = form.WireBit
wire_form (right.Whole name) = form.WireWhole
wire_form (right.Part name k) = form.WirePart
wire_form (right.Lut lut) = form.WireLut
wire_form (right.Majority a b c) = form.WireMajority
wire_form (right.Choose reset set target) = form.WireChoose

abbrev pub item_form : Item → Form
item_form (item.Register name start) = form.Register
item_form (item.Word name start) = form.Word
item_form (item.Memory name) = form.Memory
item_form (item.Wire name right) = wire_form right
item_form (item.Assign name value) = form.Assign
item_form (item.FlipFlop falling clock enable reset set target lut) = form.FlipFlop
item_form (item.AsyncFlipFlop falling clock reset set target enable lut) = form.AsyncFlipFlop
item_form (item.AsyncReset reset set target) = form.AsyncReset
item_form (item.Read falling clock clock_enable enable target memory address) = form.Read
item_form (item.ReadNarrow falling clock clock_enable enable target memory address shift pattern) = form.ReadNarrow
item_form (item.Write falling clock clock_enable enable memory address mask bits) = form.Write
item_form (item.WriteNarrow falling clock clock_enable enable memory address pattern shift bits) = form.WriteNarrow
item_form (item.Start memory k word) = form.Start

abbrev pub lut_values : Lut → List Value
lut_values lut = Word lut.word ∷ atoms_values lut.ins

abbrev pub right_values : Right → List Value
right_values (right.Bit bit) = Bit bit ∷ []
right_values (right.Whole name) = Name Reads name ∷ []
right_values (right.Part name k) = Name ReadsBit name ∷ Index k ∷ []
right_values (right.Lut lut) = lut_values lut
right_values (right.Majority a b c) = AnAtom a ∷ AnAtom b ∷ AnAtom c ∷ []
right_values (right.Choose reset set target) = Name (Takes sort.Wire) reset ∷ Bit set ∷ Name Chooses target ∷ []

abbrev pub item_values : Item → List Value
item_values (item.Register name start) = Name (Declares sort.Register) name ∷ Bit start ∷ []
item_values (item.Word name start) = Name (Declares sort.Word) name ∷ Word start ∷ []
item_values (item.Memory name) = Name (Declares sort.Memory) name ∷ []
item_values (item.Wire name right) = Name (Declares sort.Wire) name ∷ right_values right
item_values (item.Assign name value) = Name (Assigns sort.Output) name ∷ AnAtom value ∷ []
item_values (item.FlipFlop falling clock enable reset set target lut) =
    Edge falling ∷ Name Clocks clock ∷ AnAtom enable ∷ AnAtom reset ∷ Name (Assigns sort.Register) target ∷ Bit set
    ∷ lut_values lut
item_values (item.AsyncFlipFlop falling clock reset set target enable lut) =
    Edge falling ∷ Name Clocks clock ∷ Name (Takes sort.Wire) reset ∷ Name AssignsAsync target ∷ Bit set
    ∷ AnAtom enable ∷ lut_values lut
item_values (item.AsyncReset reset set target) =
    Name (Takes sort.Wire) reset ∷ Name AssignsAsync target ∷ Bit set ∷ []
item_values (item.Read falling clock clock_enable enable target memory address) =
    Edge falling ∷ Name Clocks clock ∷ AnAtom clock_enable ∷ AnAtom enable ∷ Name (Assigns sort.Word) target
    ∷ Name (Takes sort.Memory) memory ∷ atoms_values address
item_values (item.ReadNarrow falling clock clock_enable enable target memory address shift pattern) =
    Edge falling ∷ Name Clocks clock ∷ AnAtom clock_enable ∷ AnAtom enable ∷ Name (Assigns sort.Word) target
    ∷ Name (Takes sort.Memory) memory ∷ (atoms_values address ++ (atoms_values shift ++ Word pattern ∷ []))
item_values (item.Write falling clock clock_enable enable memory address mask bits) =
    Edge falling ∷ Name Clocks clock ∷ AnAtom clock_enable ∷ AnAtom enable ∷ Name (Assigns sort.Memory) memory
    ∷ (atoms_values address ++ (atoms_values mask ++ atoms_values bits))
item_values (item.WriteNarrow falling clock clock_enable enable memory address pattern shift bits) =
    Edge falling ∷ Name Clocks clock ∷ AnAtom clock_enable ∷ AnAtom enable ∷ Name (Assigns sort.Memory) memory
    ∷ (atoms_values address ++ (Word pattern ∷ (atoms_values shift ++ atoms_values bits)))
item_values (item.Start memory k word) = Name Starts memory ∷ Index k ∷ Word word ∷ []

-- ---- the tokens of a module

abbrev pub item_tokens : Item → List TokenValue
item_tokens one = filled (slots_of (item_form one)) [] (item_values one)

abbrev pub port_form : Bool → Form
port_form true = form.Output
port_form false = form.Input

-- the declaration of a port; its name is a value that is given, since the header has it first
abbrev pub port_tokens : Port → List TokenValue
port_tokens port = filled (slots_of (port_form port.output)) (Name (Declares sort.Input) port.name ∷ []) []

-- further names, each after a comma
abbrev pub more_names : List Port → List TokenValue
more_names [] = []
more_names (port ∷ ports) = token.fixed sign.Comma ∷ token.name port.name ∷ more_names ports

abbrev pub names_tokens : List Port → List TokenValue
names_tokens [] = []
names_tokens (port ∷ ports) = token.name port.name ∷ more_names ports

-- `module NAME (PORTS);`
abbrev pub header_tokens : List ℕ → List Port → List TokenValue
header_tokens name ports =
    token.fixed sign.Module ∷ token.name name ∷ token.fixed sign.OpenParen
    ∷ (names_tokens ports ++ token.fixed sign.CloseParen ∷ token.fixed sign.Semicolon ∷ [])

unfoldable pub module_tokens : Parts → List TokenValue
module_tokens m =
    header_tokens m.name m.ports ++ (flat_map port_tokens m.ports ++ (flat_map item_tokens m.items ++ token.fixed sign.Endmodule ∷ []))

-- the tokens of spots, without their offsets
abbrev pub tokens_in : List Spot → List TokenValue
tokens_in spots = map (λ one. one.token) spots

-- a text spells a module: its tokens are the module's tokens, and the module is well-formed
pub record IsSpelling (text : List ℕ) (m : Parts) : Type 0 where
  pub tokens : tokens_in (spots_of text) ≡ module_tokens m
  pub well_formed : IsModule m

-- ---- the item of a form and values; where a value is missing or of another kind, some value of the right kind takes its place

abbrev pub name_in : List Value → List ℕ
name_in (Name role name ∷ values) = name
name_in _ = codes "x"

abbrev pub edge_in : List Value → Bool
edge_in (Edge falling ∷ values) = falling
edge_in _ = false

abbrev pub bit_in : List Value → Bool
bit_in (Bit bit ∷ values) = bit
bit_in _ = false

abbrev pub word_in : List Value → ℕ
word_in (Word word ∷ values) = word
word_in _ = 0

abbrev pub index_in : List Value → ℕ
index_in (Index k ∷ values) = k
index_in _ = 0

abbrev pub atom_in : List Value → atoms.Atom
atom_in (AnAtom one ∷ values) = one
atom_in _ = atom.Bit false

-- the atoms of the first n values, in the order of the text
unfoldable pub atoms_in : ℕ → List Value → List atoms.Atom
atoms_in zero values = []
atoms_in (suc n) values = atom_in values ∷ atoms_in n (drop 1 values)

-- the values after the first n
unfoldable pub following : ℕ → List Value → List Value
following zero values = values
following (suc n) values = following n (drop 1 values)

-- the LUT of a word and four atoms
abbrev pub lut_in : List Value → Lut
lut_in values = record { word = word_in values; ins = reverse (atoms_in 4 (drop 1 values)) }

unfoldable pub item_of : Form → List Value → Item
item_of form.Register v = item.Register (name_in v) (bit_in (following 1 v))
item_of form.Word v = item.Word (name_in v) (word_in (following 1 v))
item_of form.Memory v = item.Memory (name_in v)
item_of form.WireBit v = item.Wire (name_in v) (right.Bit (bit_in (following 1 v)))
item_of form.WireWhole v = item.Wire (name_in v) (right.Whole (name_in (following 1 v)))
item_of form.WirePart v = item.Wire (name_in v) (right.Part (name_in (following 1 v)) (index_in (following 2 v)))
item_of form.WireLut v = item.Wire (name_in v) (right.Lut (lut_in (following 1 v)))
item_of form.WireMajority v =
    item.Wire (name_in v) (right.Majority (atom_in (following 1 v)) (atom_in (following 2 v)) (atom_in (following 3 v)))
item_of form.WireChoose v =
    item.Wire (name_in v) (right.Choose (name_in (following 1 v)) (bit_in (following 2 v)) (name_in (following 3 v)))
item_of form.Assign v = item.Assign (name_in v) (atom_in (following 1 v))
item_of form.FlipFlop v =
    item.FlipFlop (edge_in v) (name_in (following 1 v)) (atom_in (following 2 v)) (atom_in (following 3 v)) (bit_in (following 5 v))
    (name_in (following 4 v)) (lut_in (following 6 v))
item_of form.AsyncFlipFlop v =
    item.AsyncFlipFlop (edge_in v) (name_in (following 1 v)) (name_in (following 2 v)) (bit_in (following 4 v)) (name_in (following 3 v))
    (atom_in (following 5 v)) (lut_in (following 6 v))
item_of form.AsyncReset v = item.AsyncReset (name_in v) (bit_in (following 2 v)) (name_in (following 1 v))
item_of form.Read v =
    item.Read (edge_in v) (name_in (following 1 v)) (atom_in (following 2 v)) (atom_in (following 3 v)) (name_in (following 4 v))
    (name_in (following 5 v)) (reverse (atoms_in 8 (following 6 v)))
item_of form.ReadNarrow v =
    item.ReadNarrow (edge_in v) (name_in (following 1 v)) (atom_in (following 2 v)) (atom_in (following 3 v)) (name_in (following 4 v))
    (name_in (following 5 v)) (reverse (atoms_in 8 (following 6 v))) (reverse (atoms_in 3 (following 14 v))) (word_in (following 17 v))
item_of form.Write v =
    item.Write (edge_in v) (name_in (following 1 v)) (atom_in (following 2 v)) (atom_in (following 3 v)) (name_in (following 4 v))
    (reverse (atoms_in 8 (following 5 v))) (reverse (atoms_in 16 (following 13 v))) (reverse (atoms_in 16 (following 29 v)))
item_of form.WriteNarrow v =
    item.WriteNarrow (edge_in v) (name_in (following 1 v)) (atom_in (following 2 v)) (atom_in (following 3 v)) (name_in (following 4 v))
    (reverse (atoms_in 8 (following 5 v))) (word_in (following 13 v)) (reverse (atoms_in 3 (following 14 v)))
    (reverse (atoms_in 16 (following 17 v)))
item_of _ v = item.Start (name_in v) (index_in (following 1 v)) (word_in (following 2 v))
