-- Functions that give the names of a module the same new names.
use Rattle.std.proofs.Common.{◌≡◌, ℕ, true, List, [], ◌∷◌, ◌++◌, refl, ap, ap₂}
use Rattle.std.specs.Prelude.{All, map}
use Rattle.std.specs.List.{AllByRecursion}
use Rattle.std.proofs.lemmas.List.Elements.{recursion_from_All, All-head, All-tail, All-weaker}
use Rattle.shared_lemmas.proofs.Lists.{map-same}
use Rattle.vlog_module.specs.declared.atoms.Atom.{Atom}
use Rattle.vlog_module.specs.declared.atoms.Atom.TheVariants.{Bit, Whole, Part}
use Rattle.vlog_module.specs.declared.item.Lut.{Lut}
use Rattle.vlog_module.specs.declared.item.Right.{Right}
use Rattle.vlog_module.specs.declared.item.Right.TheVariants.{Bit as RightBit, Whole as RightWhole, Part as RightPart, Lut as RightLut, Majority, Choose}
use Rattle.vlog_module.specs.declared.item.Item.{Item}
use Rattle.vlog_module.specs.declared.item.Item.TheVariants.{Register as RegisterItem, Word as WordItem, Memory as MemoryItem, Wire as WireItem, Assign, FlipFlop, AsyncFlipFlop, AsyncReset, Read, ReadNarrow, Write, WriteNarrow, Start}
use Rattle.vlog_module.specs.declared.sort.Sort.TheVariants.{Register, Word, Memory}
use Rattle.vlog_module.specs.Parts.{Parts}
use Rattle.vlog_module.specs.Uses.{Use, atom_uses, atoms_uses, lut_uses, right_uses, uses_of, used_name}
use Rattle.vlog_module.specs.Uses.Use.{Takes, Assigns}
use Rattle.vlog_module.specs.WellFormed.{IsModule}
use Rattle.vlog_semantics.specs.Named.{has_name, names_of}
use Rattle.port_names.specs.Renamed.{renamed_atom, renamed_atoms, renamed_lut, renamed_right, renamed_item, renamed_port, renamed_parts, renamed_values}
use Rattle.port_names.specs.Fresh.{declared_names}
use Rattle.port_names.proofs.Declared.{used-declared, ports-declared}

-- what holds of two lists, holds of each
AllByRecursion-parts : {A : Type 0} (P : A → Type 0) (xs ys : List A) → AllByRecursion P (xs ++ ys) → AllByRecursion P xs × AllByRecursion P ys
AllByRecursion-parts P [] ys all = (tt, all)
AllByRecursion-parts P (x ∷ xs) ys all = let rest = AllByRecursion-parts P xs ys all.1 in ((all.0, rest.0), rest.1)

module _ (one two : List ℕ → List ℕ) where
  -- both functions give the name of a use the same
  abbrev pub Agrees : Use → Type 0
  Agrees used = one (used_name used) ≡ two (used_name used)

  atom-agrees : (atom : Atom) → AllByRecursion Agrees (atom_uses atom) → renamed_atom one atom ≡ renamed_atom two atom
  atom-agrees (Bit bit) all = refl
  atom-agrees (Whole name) all = ap (λ n. Whole n) all.0
  atom-agrees (Part name k) all = ap (λ n. Part n k) all.0

  atoms-agree : (atoms : List Atom) → AllByRecursion Agrees (atoms_uses atoms) → renamed_atoms one atoms ≡ renamed_atoms two atoms
  atoms-agree [] all = refl
  atoms-agree (atom ∷ atoms) all =
      let parts = AllByRecursion-parts Agrees (atoms_uses atoms) (atom_uses atom) all in
      ap₂ (λ first rest. first ∷ rest) (atom-agrees atom parts.1) (atoms-agree atoms parts.0)

  lut-agrees : (lut : Lut) → AllByRecursion Agrees (lut_uses lut) → renamed_lut one lut ≡ renamed_lut two lut
  lut-agrees lut all = λ i. record { word = lut.word; ins = atoms-agree lut.ins all i }

  right-agrees : (right : Right) → AllByRecursion Agrees (right_uses right) → renamed_right one right ≡ renamed_right two right
  right-agrees (RightBit bit) all = refl
  right-agrees (RightWhole name) all = ap (λ n. RightWhole n) all.0
  right-agrees (RightPart name k) all = ap (λ n. RightPart n k) all.0
  right-agrees (RightLut lut) all = λ i. RightLut (lut-agrees lut all i)
  right-agrees (Majority a b c) all =
      let parts = AllByRecursion-parts Agrees (atom_uses a ++ atom_uses b) (atom_uses c) all in
      let first = AllByRecursion-parts Agrees (atom_uses a) (atom_uses b) parts.0 in
      λ i. Majority (atom-agrees a first.0 i) (atom-agrees b first.1 i) (atom-agrees c parts.1 i)
  right-agrees (Choose reset set target) all = λ i. Choose (all.0 i) set (all.1.0 i)

  item-agrees : (item : Item) → AllByRecursion Agrees (uses_of item) → renamed_item one item ≡ renamed_item two item
  item-agrees (RegisterItem name start) all = λ i. RegisterItem (all.0 i) start
  item-agrees (WordItem name start) all = λ i. WordItem (all.0 i) start
  item-agrees (MemoryItem name) all = λ i. MemoryItem (all.0 i)
  item-agrees (WireItem name right) all = λ i. WireItem (all.0 i) (right-agrees right all.1 i)
  item-agrees (Assign name value) all = λ i. Assign (all.0 i) (atom-agrees value all.1 i)
  item-agrees (FlipFlop falling clock enable reset set target lut) all =
      let parts = AllByRecursion-parts Agrees (atom_uses enable ++ atom_uses reset) (Assigns Register target ∷ lut_uses lut) all.1 in
      let atoms = AllByRecursion-parts Agrees (atom_uses enable) (atom_uses reset) parts.0 in
      λ i. FlipFlop falling (all.0 i) (atom-agrees enable atoms.0 i) (atom-agrees reset atoms.1 i) set (parts.1.0 i) (lut-agrees lut parts.1.1 i)
  item-agrees (AsyncFlipFlop falling clock reset set target enable lut) all =
      let parts = AllByRecursion-parts Agrees (atom_uses enable) (lut_uses lut) all.1.1.1 in
      λ i. AsyncFlipFlop falling (all.0 i) (all.1.0 i) set (all.1.1.0 i) (atom-agrees enable parts.0 i) (lut-agrees lut parts.1 i)
  item-agrees (AsyncReset reset set target) all = λ i. AsyncReset (all.0 i) set (all.1.0 i)
  item-agrees (Read falling clock clock_enable enable target memory address) all =
      let parts = AllByRecursion-parts Agrees (atom_uses clock_enable ++ atom_uses enable) (Assigns Word target ∷ Takes Memory memory ∷ atoms_uses address) all.1 in
      let atoms = AllByRecursion-parts Agrees (atom_uses clock_enable) (atom_uses enable) parts.0 in
      λ i. Read falling (all.0 i) (atom-agrees clock_enable atoms.0 i) (atom-agrees enable atoms.1 i) (parts.1.0 i) (parts.1.1.0 i) (atoms-agree address parts.1.1.1 i)
  item-agrees (ReadNarrow falling clock clock_enable enable target memory address shift pattern) all =
      let parts = AllByRecursion-parts Agrees ((atom_uses clock_enable ++ atom_uses enable) ++ Assigns Word target ∷ Takes Memory memory ∷ atoms_uses address) (atoms_uses shift) all.1 in
      let rest = AllByRecursion-parts Agrees (atom_uses clock_enable ++ atom_uses enable) (Assigns Word target ∷ Takes Memory memory ∷ atoms_uses address) parts.0 in
      let atoms = AllByRecursion-parts Agrees (atom_uses clock_enable) (atom_uses enable) rest.0 in
      λ i. ReadNarrow falling (all.0 i) (atom-agrees clock_enable atoms.0 i) (atom-agrees enable atoms.1 i) (rest.1.0 i) (rest.1.1.0 i) (atoms-agree address rest.1.1.1 i) (atoms-agree shift parts.1 i) pattern
  item-agrees (Write falling clock clock_enable enable memory address mask bits) all =
      let parts = AllByRecursion-parts Agrees (((atom_uses clock_enable ++ atom_uses enable) ++ Assigns Memory memory ∷ atoms_uses address) ++ atoms_uses mask) (atoms_uses bits) all.1 in
      let second = AllByRecursion-parts Agrees ((atom_uses clock_enable ++ atom_uses enable) ++ Assigns Memory memory ∷ atoms_uses address) (atoms_uses mask) parts.0 in
      let rest = AllByRecursion-parts Agrees (atom_uses clock_enable ++ atom_uses enable) (Assigns Memory memory ∷ atoms_uses address) second.0 in
      let atoms = AllByRecursion-parts Agrees (atom_uses clock_enable) (atom_uses enable) rest.0 in
      λ i. Write falling (all.0 i) (atom-agrees clock_enable atoms.0 i) (atom-agrees enable atoms.1 i) (rest.1.0 i) (atoms-agree address rest.1.1 i) (atoms-agree mask second.1 i) (atoms-agree bits parts.1 i)
  item-agrees (WriteNarrow falling clock clock_enable enable memory address pattern shift bits) all =
      let parts = AllByRecursion-parts Agrees (((atom_uses clock_enable ++ atom_uses enable) ++ Assigns Memory memory ∷ atoms_uses address) ++ atoms_uses shift) (atoms_uses bits) all.1 in
      let second = AllByRecursion-parts Agrees ((atom_uses clock_enable ++ atom_uses enable) ++ Assigns Memory memory ∷ atoms_uses address) (atoms_uses shift) parts.0 in
      let rest = AllByRecursion-parts Agrees (atom_uses clock_enable ++ atom_uses enable) (Assigns Memory memory ∷ atoms_uses address) second.0 in
      let atoms = AllByRecursion-parts Agrees (atom_uses clock_enable) (atom_uses enable) rest.0 in
      λ i. WriteNarrow falling (all.0 i) (atom-agrees clock_enable atoms.0 i) (atom-agrees enable atoms.1 i) (rest.1.0 i) (atoms-agree address rest.1.1 i) pattern (atoms-agree shift second.1 i) (atoms-agree bits parts.1 i)
  item-agrees (Start memory k word) all = λ i. Start (all.0 i) k word

  -- a module's names are the same under two functions that agree on the names that it declares
  pub parts-agree : (m : Parts) → IsModule m → ((name : List ℕ) → has_name (declared_names m) name ≡ true → one name ≡ two name) → renamed_parts one m ≡ renamed_parts two m
  parts-agree m whole agree =
      let ports : map (renamed_port one) m.ports ≡ map (renamed_port two) m.ports =
      map-same (renamed_port one) (renamed_port two) m.ports
      (All-weaker (λ port. has_name (declared_names m) port.name ≡ true) (λ port. renamed_port one port ≡ renamed_port two port)
      (λ port declared. λ i. record { name = agree port.name declared i; output = port.output }) m.ports (ports-declared m)) in
      let items : map (renamed_item one) m.items ≡ map (renamed_item two) m.items =
      map-same (renamed_item one) (renamed_item two) m.items
      (All-weaker (λ item. All (λ used. has_name (declared_names m) (used_name used) ≡ true) (uses_of item)) (λ item. renamed_item one item ≡ renamed_item two item)
      (λ item declared. item-agrees item (recursion_from_All Agrees (uses_of item)
      (All-weaker (λ used. has_name (declared_names m) (used_name used) ≡ true) Agrees (λ used is. agree (used_name used) is) (uses_of item) declared)))
      m.items (used-declared m whole)) in
      λ i. record { name = m.name; ports = ports i; items = items i }

  -- so are the names of values
  pub values-agree : {A : Type 0} (entries : List (List ℕ × A)) → All (λ name. one name ≡ two name) (names_of entries) → renamed_values one entries ≡ renamed_values two entries
  values-agree [] all = refl
  values-agree (entry ∷ entries) all =
      ap₂ (λ name rest. (name, entry.1) ∷ rest) (All-head (λ name. one name ≡ two name) entry.0 (names_of entries) all)
      (values-agree entries (All-tail (λ name. one name ≡ two name) entry.0 (names_of entries) all))
