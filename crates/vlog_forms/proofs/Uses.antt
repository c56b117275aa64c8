-- The names of an item's values are the names of the item.
use Rattle.std.proofs.Common.{◌≡◌, ℕ, ◌+◌, List, [], ◌∷◌, ◌++◌, map, reverse, refl, ap, sym, ◌∙◌, append_assoc}
use Rattle.std.proofs.lemmas.List.{append-nil, reverse-append}
use Rattle.std.specs.Prelude.{flat_map}
use Rattle.vlog_module.specs.declared.sort.Sort.TheVariants as sort
use Rattle.vlog_module.specs.declared.atoms.Atom.{Atom}
use Rattle.vlog_module.specs.declared.atoms.Atom.TheVariants as atom
use Rattle.vlog_module.specs.declared.item.Right.TheVariants as right
use Rattle.vlog_module.specs.declared.item.Item.{Item}
use Rattle.vlog_module.specs.declared.item.Item.TheVariants as item
use Rattle.vlog_module.specs.Uses.{Use, uses_of, atom_uses, atoms_uses, lut_uses}
use Rattle.vlog_module.specs.Uses.Use.{Declares, Clocks, Takes, Assigns, AssignsAsync}
use Rattle.vlog_forms.specs.declared.slot.Role.TheVariants as role
use Rattle.vlog_forms.specs.Values.{Value}
use Rattle.vlog_forms.specs.Values.{Value as value}
use Rattle.vlog_forms.specs.Items.{item_values, atoms_values, following, lut_values}
use Rattle.vlog_forms.specs.Outcome.{value_uses, uses_from, uses_in}

atom-value : (one : Atom) (all : List Value) (place : ℕ) → value_uses (value.AnAtom one) all place ≡ atom_uses one
atom-value (atom.Bit bit) all place = refl
atom-value (atom.Whole name) all place = refl
atom-value (atom.Part name j) all place = refl

-- an atom before other values
atom-next : (all : List Value) (place : ℕ) (one : Atom) (values : List Value) → uses_from all place (value.AnAtom one ∷ values) ≡ atom_uses one ++ uses_from all (place + 1) values
atom-next all place one values = ap (λ uses. uses ++ uses_from all (place + 1) values) (atom-value one all place)

-- the index after this many atoms
abbrev after_atoms : List Atom → ℕ → ℕ
after_atoms [] place = place
after_atoms (one ∷ list) place = after_atoms list (place + 1)

atoms-next : (all : List Value) (place : ℕ) (list : List Atom) (values : List Value)
    → uses_from all place (map value.AnAtom list ++ values) ≡ flat_map atom_uses list ++ uses_from all (after_atoms list place) values
atoms-next all place [] values = refl
atoms-next all place (one ∷ list) values =
    atom-next all place one (map value.AnAtom list ++ values) ∙ ap (λ more. atom_uses one ++ more) (atoms-next all (place + 1) list values)
    ∙ sym (append_assoc (atom_uses one) (flat_map atom_uses list) (uses_from all (after_atoms list (place + 1)) values))

flat-push : (list : List Atom) (one : Atom) → flat_map atom_uses (list ++ one ∷ []) ≡ flat_map atom_uses list ++ atom_uses one
flat-push [] one = append-nil (atom_uses one)
flat-push (first ∷ list) one =
    ap (λ more. atom_uses first ++ more) (flat-push list one) ∙ sym (append_assoc (atom_uses first) (flat_map atom_uses list) (atom_uses one))

list-reversed : (list : List Atom) → flat_map atom_uses (reverse list) ≡ atoms_uses list
list-reversed [] = refl
list-reversed (one ∷ list) =
    ap (flat_map atom_uses) (reverse-append (one ∷ []) list) ∙ flat-push (reverse list) one ∙ ap (λ uses. uses ++ atom_uses one) (list-reversed list)

-- a list of atoms before other values, of which the names are the same at every place
list-next : (all : List Value) (place : ℕ) (list : List Atom) (values : List Value) (uses : List Use) → ((next : ℕ) → uses_from all next values ≡ uses)
    → uses_from all place (atoms_values list ++ values) ≡ atoms_uses list ++ uses
list-next all place list values uses is =
    atoms-next all place (reverse list) values ∙ ap (λ front. front ++ uses_from all (after_atoms (reverse list) place) values) (list-reversed list)
    ∙ ap (λ more. atoms_uses list ++ more) (is (after_atoms (reverse list) place))

list-last : (all : List Value) (place : ℕ) (list : List Atom) → uses_from all place (atoms_values list) ≡ atoms_uses list
list-last all place list =
    ap (uses_from all place) (sym (append-nil (atoms_values list))) ∙ list-next all place list [] [] (λ next. refl) ∙ append-nil (atoms_uses list)

-- two atoms before other values
two-next : (all : List Value) (place : ℕ) (one other : Atom) (values : List Value) (uses : List Use) → uses_from all (place + 1 + 1) values ≡ uses
    → uses_from all place (value.AnAtom one ∷ value.AnAtom other ∷ values) ≡ (atom_uses one ++ atom_uses other) ++ uses
two-next all place one other values uses is =
    atom-next all place one (value.AnAtom other ∷ values)
    ∙ ap (λ more. atom_uses one ++ more) (atom-next all (place + 1) other values ∙ ap (λ more. atom_uses other ++ more) is)
    ∙ sym (append_assoc (atom_uses one) (atom_uses other) uses)

-- the atoms, the memory and the address of a write, before values of which the names are the same at every place
write-next : (all : List Value) (clock_enable enable : Atom) (memory : List ℕ) (address : List Atom) (values : List Value) (first second : List Use)
    → ((next : ℕ) → uses_from all next values ≡ first ++ second)
    → uses_from all 2 (value.AnAtom clock_enable ∷ value.AnAtom enable ∷ value.Name (role.Assigns sort.Memory) memory ∷ (atoms_values address ++ values))
    ≡ atom_uses clock_enable ++ atom_uses enable ++ Assigns sort.Memory memory ∷ atoms_uses address ++ first ++ second
write-next all clock_enable enable memory address values first second is =
    two-next all 2 clock_enable enable (value.Name (role.Assigns sort.Memory) memory ∷ (atoms_values address ++ values))
    (Assigns sort.Memory memory ∷ (atoms_uses address ++ (first ++ second))) (ap (λ more. Assigns sort.Memory memory ∷ more) (list-next all 5 address values (first ++ second) is))
    ∙ regroup (atom_uses clock_enable ++ atom_uses enable) (Assigns sort.Memory memory) (atoms_uses address) first second
  where
    regroup : (front : List Use) (one : Use) (a b c : List Use) → front ++ (one ∷ (a ++ (b ++ c))) ≡ ((front ++ (one ∷ a)) ++ b) ++ c
    regroup front one a b c = simp append_assoc

pub uses-of-values : (one : Item) → uses_in (item_values one) ≡ uses_of one
unfolding following
uses-of-values (item.Register name start) = refl
uses-of-values (item.Word name start) = refl
uses-of-values (item.Memory name) = refl
uses-of-values (item.Wire name (right.Bit bit)) = refl
uses-of-values (item.Wire name (right.Whole source)) = refl
uses-of-values (item.Wire name (right.Part source k)) = refl
uses-of-values (item.Wire name (right.Lut lut)) =
    let all : List Value = item_values (item.Wire name (right.Lut lut)) in
    ap (λ more. Declares sort.Wire name ∷ more) (list-last all 2 lut.ins)
uses-of-values (item.Wire name (right.Majority a b c)) =
    let all : List Value = item_values (item.Wire name (right.Majority a b c)) in
    ap (λ more. Declares sort.Wire name ∷ more) (two-next all 1 a b (value.AnAtom c ∷ []) (atom_uses c) (atom-next all 3 c [] ∙ append-nil (atom_uses c)))
uses-of-values (item.Wire name (right.Choose reset set target)) = refl
uses-of-values (item.Assign name one) =
    let all : List Value = item_values (item.Assign name one) in
    ap (λ more. Assigns sort.Output name ∷ more) (atom-next all 1 one [] ∙ append-nil (atom_uses one))
uses-of-values (item.FlipFlop falling clock enable reset set target lut) =
    let all : List Value = item_values (item.FlipFlop falling clock enable reset set target lut) in
    ap (λ more. Clocks clock ∷ more)
    (two-next all 2 enable reset (value.Name (role.Assigns sort.Register) target ∷ value.Bit set ∷ lut_values lut) (Assigns sort.Register target ∷ lut_uses lut)
    (ap (λ more. Assigns sort.Register target ∷ more) (list-last all 7 lut.ins)))
uses-of-values (item.AsyncFlipFlop falling clock reset set target enable lut) =
    let all : List Value = item_values (item.AsyncFlipFlop falling clock reset set target enable lut) in
    ap (λ more. Clocks clock ∷ Takes sort.Wire reset ∷ AssignsAsync reset set target ∷ more)
    (atom-next all 5 enable (lut_values lut) ∙ ap (λ more. atom_uses enable ++ more) (list-last all 7 lut.ins))
uses-of-values (item.AsyncReset reset set target) = refl
uses-of-values (item.Read falling clock clock_enable enable target memory address) =
    let all : List Value = item_values (item.Read falling clock clock_enable enable target memory address) in
    ap (λ more. Clocks clock ∷ more)
    (two-next all 2 clock_enable enable (value.Name (role.Assigns sort.Word) target ∷ value.Name (role.Takes sort.Memory) memory ∷ atoms_values address) (Assigns sort.Word target ∷ Takes sort.Memory memory ∷ atoms_uses address)
    (ap (λ more. Assigns sort.Word target ∷ Takes sort.Memory memory ∷ more) (list-last all 6 address)))
uses-of-values (item.ReadNarrow falling clock clock_enable enable target memory address shift pattern) =
    let all : List Value = item_values (item.ReadNarrow falling clock clock_enable enable target memory address shift pattern) in
    let values : List Value = atoms_values shift ++ value.Word pattern ∷ [] in
    let after_them : uses_from all 6 (atoms_values address ++ values) ≡ atoms_uses address ++ atoms_uses shift
    = list-next all 6 address values (atoms_uses shift)
    (λ next. list-next all next shift (value.Word pattern ∷ []) [] (λ last. refl) ∙ append-nil (atoms_uses shift)) in
    ap (λ more. Clocks clock ∷ more)
    (two-next all 2 clock_enable enable (value.Name (role.Assigns sort.Word) target ∷ value.Name (role.Takes sort.Memory) memory ∷ (atoms_values address ++ values))
    (Assigns sort.Word target ∷ Takes sort.Memory memory ∷ (atoms_uses address ++ atoms_uses shift)) (ap (λ more. Assigns sort.Word target ∷ Takes sort.Memory memory ∷ more) after_them)
    ∙ sym (append_assoc (atom_uses clock_enable ++ atom_uses enable) (Assigns sort.Word target ∷ Takes sort.Memory memory ∷ atoms_uses address) (atoms_uses shift)))
uses-of-values (item.Write falling clock clock_enable enable memory address mask bits) =
    let all : List Value = item_values (item.Write falling clock clock_enable enable memory address mask bits) in
    ap (λ more. Clocks clock ∷ more)
    (write-next all clock_enable enable memory address (atoms_values mask ++ atoms_values bits) (atoms_uses mask) (atoms_uses bits)
    (λ next. list-next all next mask (atoms_values bits) (atoms_uses bits) (λ last. list-last all last bits)))
uses-of-values (item.WriteNarrow falling clock clock_enable enable memory address pattern shift bits) =
    let all : List Value = item_values (item.WriteNarrow falling clock clock_enable enable memory address pattern shift bits) in
    ap (λ more. Clocks clock ∷ more)
    (write-next all clock_enable enable memory address (value.Word pattern ∷ (atoms_values shift ++ atoms_values bits)) (atoms_uses shift) (atoms_uses bits)
    (λ next. list-next all (next + 1) shift (atoms_values bits) (atoms_uses bits) (λ last. list-last all last bits)))
uses-of-values (item.Start memory k word) = refl
