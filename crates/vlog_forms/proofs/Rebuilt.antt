-- Values of the kinds that a form takes are the values of its item.
use Rattle.std.proofs.Common.{◌≡◌, ℕ, zero, suc, Bool, true, false, List, [], ◌∷◌, ◌++◌, length, map, reverse, refl, ap, sym, ◌∙◌, arith}
use Rattle.std.proofs.lemmas.List.{append-nil, reverse-reverse, length-reverse}
use Rattle.vlog_module.specs.declared.atoms.Atom.{Atom}
use Rattle.vlog_module.specs.declared.item.Lut.{Lut}
use Rattle.vlog_module.specs.declared.item.Right.TheVariants as right
use Rattle.vlog_module.specs.declared.item.Item.{Item}
use Rattle.vlog_module.specs.declared.item.Item.TheVariants as item
use Rattle.vlog_module.specs.WellFormed.{IsShaped}
use Rattle.vlog_forms.specs.declared.form.Form.{Form}
use Rattle.vlog_forms.specs.declared.form.Form.TheVariants as form
use Rattle.vlog_forms.specs.declared.slot.Slot.{Slot}
use Rattle.vlog_forms.specs.declared.slot.Slot.TheVariants as slot
use Rattle.vlog_forms.specs.Values.{Value}
use Rattle.vlog_forms.specs.Values.Value.{Name, Edge, Bit, Word, Index, AnAtom}
use Rattle.vlog_forms.specs.Layout.{slots_of, left_by}
use Rattle.vlog_forms.specs.Items.{item_of, item_form, item_values, atoms_values, name_in, edge_in, bit_in, word_in, index_in, atom_in, atoms_in, following, lut_in}
use Rattle.vlog_forms.proofs.SlotLists.{FitAll}

abbrev with_first : Slot → List Value → List Value → List Value
with_first (slot.Name role) values more = Name role (name_in values) ∷ more
with_first slot.Edge values more = Edge (edge_in values) ∷ more
with_first slot.Bit values more = Bit (bit_in values) ∷ more
with_first slot.Word values more = Word (word_in values) ∷ more
with_first (slot.Index limit) values more = Index (index_in values) ∷ more
with_first slot.Atom values more = AnAtom (atom_in values) ∷ more
with_first _ values more = more

-- values of the kinds of slots, from others
unfoldable pub rebuilt : List Slot → List Value → List Value
rebuilt [] values = []
rebuilt (wanted ∷ slots) values = with_first wanted values (rebuilt slots (left_by wanted values))

-- which stay as they are if they fit
pub rebuilt-fit : (slots : List Slot) (values : List Value) → FitAll slots values → rebuilt slots values ≡ values
unfolding rebuilt FitAll
rebuilt-fit [] [] fit = refl
rebuilt-fit [] (value ∷ values) fit = absurd fit
rebuilt-fit (slot.Name role ∷ slots) (Name other name ∷ values) fit =
    ap (λ r. Name r name ∷ rebuilt slots values) (sym fit.0) ∙ ap (λ more. Name other name ∷ more) (rebuilt-fit slots values fit.1)
rebuilt-fit (slot.Edge ∷ slots) (Edge falling ∷ values) fit = ap (λ more. Edge falling ∷ more) (rebuilt-fit slots values fit.1)
rebuilt-fit (slot.Bit ∷ slots) (Bit bit ∷ values) fit = ap (λ more. Bit bit ∷ more) (rebuilt-fit slots values fit.1)
rebuilt-fit (slot.Word ∷ slots) (Word word ∷ values) fit = ap (λ more. Word word ∷ more) (rebuilt-fit slots values fit.1)
rebuilt-fit (slot.Index limit ∷ slots) (Index k ∷ values) fit = ap (λ more. Index k ∷ more) (rebuilt-fit slots values fit.1)
rebuilt-fit (slot.Atom ∷ slots) (AnAtom one ∷ values) fit = ap (λ more. AnAtom one ∷ more) (rebuilt-fit slots values fit.1)
rebuilt-fit (slot.Space ∷ slots) values fit = rebuilt-fit slots values fit.1
rebuilt-fit (slot.Fixed fixed ∷ slots) values fit = rebuilt-fit slots values fit.1
rebuilt-fit (slot.Literal number ∷ slots) values fit = rebuilt-fit slots values fit.1
rebuilt-fit (slot.Again place ∷ slots) values fit = rebuilt-fit slots values fit.1
rebuilt-fit (slot.AtomsAgain first n ∷ slots) values fit = rebuilt-fit slots values fit.1
rebuilt-fit (slot.Atoms n ∷ slots) values fit = rebuilt-fit slots values fit.1
rebuilt-fit (wanted ∷ slots) values fit = absurd fit.0

-- whether a form is an item's
abbrev pub is_item : Form → Bool
is_item form.Input = false
is_item form.Output = false
is_item form.End = false
is_item _ = true

-- the values of an item are of the kinds of its form
pub values-rebuilt : (one : Form) (v : List Value) → is_item one ≡ true → item_values (item_of one v) ≡ rebuilt (slots_of one) v
unfolding rebuilt slots_of item_of atoms_in following
values-rebuilt form.Input v is = absurd cc
values-rebuilt form.Output v is = absurd cc
values-rebuilt form.Register v is = refl
values-rebuilt form.Word v is = refl
values-rebuilt form.Memory v is = refl
values-rebuilt form.WireBit v is = refl
values-rebuilt form.WireWhole v is = refl
values-rebuilt form.WirePart v is = refl
values-rebuilt form.WireLut v is = refl
values-rebuilt form.WireMajority v is = refl
values-rebuilt form.WireChoose v is = refl
values-rebuilt form.Assign v is = refl
values-rebuilt form.FlipFlop v is = refl
values-rebuilt form.AsyncFlipFlop v is = refl
values-rebuilt form.AsyncReset v is = refl
values-rebuilt form.Read v is = refl
values-rebuilt form.ReadNarrow v is = refl
values-rebuilt form.Write v is = refl
values-rebuilt form.WriteNarrow v is = refl
values-rebuilt form.Start v is = refl
values-rebuilt form.End v is = absurd cc

pub form-of : (one : Form) (v : List Value) → is_item one ≡ true → item_form (item_of one v) ≡ one
unfolding item_of
form-of form.Input v is = absurd cc
form-of form.Output v is = absurd cc
form-of form.Register v is = refl
form-of form.Word v is = refl
form-of form.Memory v is = refl
form-of form.WireBit v is = refl
form-of form.WireWhole v is = refl
form-of form.WirePart v is = refl
form-of form.WireLut v is = refl
form-of form.WireMajority v is = refl
form-of form.WireChoose v is = refl
form-of form.Assign v is = refl
form-of form.FlipFlop v is = refl
form-of form.AsyncFlipFlop v is = refl
form-of form.AsyncReset v is = refl
form-of form.Read v is = refl
form-of form.ReadNarrow v is = refl
form-of form.Write v is = refl
form-of form.WriteNarrow v is = refl
form-of form.Start v is = refl
form-of form.End v is = absurd cc

-- ---- an item from its values

atoms-back : (n : ℕ) (list : List Atom) (more : List Value) → length list ≡ n → atoms_in n (map AnAtom list ++ more) ≡ list
unfolding atoms_in
atoms-back zero [] more count = refl
atoms-back zero (one ∷ list) more count = absurd (omega arith)
atoms-back (suc n) [] more count = absurd (omega arith)
atoms-back (suc n) (one ∷ list) more count = let rest : length list ≡ n = omega arith in ap (λ all. one ∷ all) (atoms-back n list more rest)

after-back : (n : ℕ) (list : List Atom) (more : List Value) → length list ≡ n → following n (map AnAtom list ++ more) ≡ more
unfolding following
after-back zero [] more count = refl
after-back zero (one ∷ list) more count = absurd (omega arith)
after-back (suc n) [] more count = absurd (omega arith)
after-back (suc n) (one ∷ list) more count = let rest : length list ≡ n = omega arith in after-back n list more rest

list-back : (n : ℕ) (list : List Atom) (more : List Value) → length list ≡ n → reverse (atoms_in n (atoms_values list ++ more)) ≡ list
list-back n list more count = ap reverse (atoms-back n (reverse list) more (length-reverse list ∙ count)) ∙ reverse-reverse list

rest-back : (n : ℕ) (list : List Atom) (more : List Value) → length list ≡ n → following n (atoms_values list ++ more) ≡ more
rest-back n list more count = after-back n (reverse list) more (length-reverse list ∙ count)

last-back : (n : ℕ) (list : List Atom) → length list ≡ n → reverse (atoms_in n (atoms_values list)) ≡ list
last-back n list count = ap (λ values. reverse (atoms_in n values)) (sym (append-nil (atoms_values list))) ∙ list-back n list [] count

lut-back : (lut : Lut) → length lut.ins ≡ 4 → lut_in (Word lut.word ∷ atoms_values lut.ins) ≡ lut
lut-back lut count = ap (λ ins. record { word = lut.word; ins = ins }) (last-back 4 lut.ins count)

pub item-back : (one : Item) → IsShaped one → item_of (item_form one) (item_values one) ≡ one
unfolding item_of following
item-back (item.Register name start) shaped = refl
item-back (item.Word name start) shaped = refl
item-back (item.Memory name) shaped = refl
item-back (item.Wire name (right.Bit bit)) shaped = refl
item-back (item.Wire name (right.Whole source)) shaped = refl
item-back (item.Wire name (right.Part source k)) shaped = refl
item-back (item.Wire name (right.Lut lut)) shaped = ap (λ table. item.Wire name (right.Lut table)) (lut-back lut shaped.1)
item-back (item.Wire name (right.Majority a b c)) shaped = refl
item-back (item.Wire name (right.Choose reset set target)) shaped = refl
item-back (item.Assign name value) shaped = refl
item-back (item.FlipFlop falling clock enable reset set target lut) shaped =
    ap (λ table. item.FlipFlop falling clock enable reset set target table) (lut-back lut shaped.1)
item-back (item.AsyncFlipFlop falling clock reset set target enable lut) shaped =
    ap (λ table. item.AsyncFlipFlop falling clock reset set target enable table) (lut-back lut shaped.1)
item-back (item.AsyncReset reset set target) shaped = refl
item-back (item.Read falling clock clock_enable enable target memory address) shaped =
    ap (λ list. item.Read falling clock clock_enable enable target memory list) (last-back 8 address shaped)
item-back (item.ReadNarrow falling clock clock_enable enable target memory address shift pattern) shaped =
    let made : List Atom → List Atom → ℕ → Item = item.ReadNarrow falling clock clock_enable enable target memory in
    let s : List Value = atoms_values shift ++ Word pattern ∷ [] in
    let all : List Value = atoms_values address ++ s in
    let first : reverse (atoms_in 8 all) ≡ address = list-back 8 address s shaped.0 in
    let middle : following 8 all ≡ s = rest-back 8 address s shaped.0 in
    let second : reverse (atoms_in 3 (following 8 all)) ≡ shift = ap (λ v. reverse (atoms_in 3 v)) middle ∙ list-back 3 shift (Word pattern ∷ []) shaped.1 in
    let third : word_in (following 3 (following 8 all)) ≡ pattern
    = ap (λ v. word_in (following 3 v)) middle ∙ ap word_in (rest-back 3 shift (Word pattern ∷ []) shaped.1) in
    ap (λ list. made list (reverse (atoms_in 3 (following 8 all))) (word_in (following 3 (following 8 all)))) first
    ∙ ap (λ list. made address list (word_in (following 3 (following 8 all)))) second
    ∙ ap (λ word. made address shift word) third
item-back (item.Write falling clock clock_enable enable memory address mask bits) shaped =
    let a : List Value = atoms_values address in
    let m : List Value = atoms_values mask in
    let b : List Value = atoms_values bits in
    let first : reverse (atoms_in 8 (a ++ (m ++ b))) ≡ address = list-back 8 address (m ++ b) shaped.0 in
    let middle : following 8 (a ++ (m ++ b)) ≡ m ++ b = rest-back 8 address (m ++ b) shaped.0 in
    let last : following 16 (m ++ b) ≡ b = rest-back 16 mask b shaped.1 in
    let second : reverse (atoms_in 16 (following 8 (a ++ (m ++ b)))) ≡ mask = ap (λ v. reverse (atoms_in 16 v)) middle ∙ list-back 16 mask b shaped.1 in
    let third : reverse (atoms_in 16 (following 16 (following 8 (a ++ (m ++ b))))) ≡ bits = ap (λ v. reverse (atoms_in 16 (following 16 v))) middle ∙ ap (λ v. reverse (atoms_in 16 v)) last ∙ last-back 16 bits shaped.2 in
    ap (λ list. item.Write falling clock clock_enable enable memory list (reverse (atoms_in 16 (following 8 (a ++ (m ++ b))))) (reverse (atoms_in 16 (following 16 (following 8 (a ++ (m ++ b))))))) first
    ∙ ap (λ list. item.Write falling clock clock_enable enable memory address list (reverse (atoms_in 16 (following 16 (following 8 (a ++ (m ++ b))))))) second
    ∙ ap (λ list. item.Write falling clock clock_enable enable memory address mask list) third
item-back (item.WriteNarrow falling clock clock_enable enable memory address pattern shift bits) shaped =
    let made : List Atom → ℕ → List Atom → List Atom → Item = item.WriteNarrow falling clock clock_enable enable memory in
    let b : List Value = atoms_values bits in
    let w : List Value = Word pattern ∷ (atoms_values shift ++ b) in
    let all : List Value = atoms_values address ++ w in
    let first : reverse (atoms_in 8 all) ≡ address = list-back 8 address w shaped.0 in
    let middle : following 8 all ≡ w = rest-back 8 address w shaped.0 in
    let second : word_in (following 8 all) ≡ pattern = ap word_in middle in
    let third : reverse (atoms_in 3 (following 1 (following 8 all))) ≡ shift
    = ap (λ v. reverse (atoms_in 3 (following 1 v))) middle ∙ list-back 3 shift b shaped.2 in
    let fourth : reverse (atoms_in 16 (following 3 (following 1 (following 8 all)))) ≡ bits
    = ap (λ v. reverse (atoms_in 16 (following 3 (following 1 v)))) middle ∙ ap (λ v. reverse (atoms_in 16 v)) (rest-back 3 shift b shaped.2) ∙ last-back 16 bits shaped.3 in
    ap (λ list. made list (word_in (following 8 all)) (reverse (atoms_in 3 (following 1 (following 8 all)))) (reverse (atoms_in 16 (following 3 (following 1 (following 8 all)))))) first
    ∙ ap (λ word. made address word (reverse (atoms_in 3 (following 1 (following 8 all)))) (reverse (atoms_in 16 (following 3 (following 1 (following 8 all)))))) second
    ∙ ap (λ list. made address pattern list (reverse (atoms_in 16 (following 3 (following 1 (following 8 all)))))) third
    ∙ ap (λ list. made address pattern shift list) fourth
item-back (item.Start memory k word) shaped = refl
