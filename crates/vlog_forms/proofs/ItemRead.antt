-- An item's tokens are read as the item, whatever follows.
use Rattle.std.proofs.Common.{◌≡◌, ℕ, Bool, true, false, List, [], ◌∷◌, ◌++◌, drop, refl, ap, sym, ◌∙◌, subst}
use Rattle.std.specs.Prelude.{Ok, nat_le}
use Rattle.vlog_tokens.specs.declared.fixed.Fixed.TheVariants as sign
use Rattle.vlog_tokens.specs.Tokens.{TokenValue, Spot}
use Rattle.vlog_tokens.specs.Tokens.{TokenValue as token}
use Rattle.vlog_module.specs.declared.item.Right.TheVariants as right
use Rattle.vlog_module.specs.declared.item.Item.{Item}
use Rattle.vlog_module.specs.declared.item.Item.TheVariants as item
use Rattle.vlog_module.specs.WellFormed.{IsShaped}
use Rattle.vlog_forms.specs.declared.form.Form.{Form}
use Rattle.vlog_forms.specs.declared.form.Form.TheVariants as form
use Rattle.vlog_forms.specs.declared.slot.Slot.{Slot}
use Rattle.vlog_forms.specs.declared.slot.Slot.TheVariants as slot
use Rattle.vlog_forms.specs.Values.{Value}
use Rattle.vlog_forms.specs.Values.Value.{Name, Edge, Bit, Word, Index, AnAtom}
use Rattle.vlog_forms.specs.Layout.{slots_of, filled, left_by}
use Rattle.vlog_forms.specs.Items.{item_of, item_form, item_values, item_tokens, tokens_in, index_in, atom_in}
use Rattle.vlog_forms.specs.Reading.{Found, values_of, Reading, read_slots, Whole, read_forms, all_forms}
use Rattle.vlog_forms.proofs.ValueKinds.{FitsAtom}
use Rattle.vlog_forms.proofs.Pairs.{ok_first, ok_second}
use Rattle.vlog_forms.proofs.SlotLists.{FitAll, slots-stand, SlotsRead, slots-read, IsSound}
use Rattle.vlog_forms.proofs.Rebuilt.{rebuilt, rebuilt-fit, is_item, values-rebuilt, form-of, item-back}
use Rattle.vlog_forms.proofs.Forms.{forms-read, some-whole, among-all, form-sound, given_count}
use Rattle.vlog_forms.proofs.Shape.{shape, item-shape, end-shape}

-- ---- the values of an item fit its form

-- the numbers of values are in the range of their slots
abbrev pub IsRanged : Slot → List Value → Type 0
IsRanged (slot.Index limit) values = nat_le (index_in values) limit ≡ true
IsRanged slot.Atom values = FitsAtom (atom_in values)
IsRanged _ values = Unit {0}

unfoldable pub AreRanged : List Slot → List Value → Type 0
AreRanged [] values = Unit {0}
AreRanged (wanted ∷ slots) values = IsRanged wanted values × AreRanged slots (left_by wanted values)

fits-rebuilt : (slots : List Slot) (values : List Value) → AreRanged slots values → FitAll slots (rebuilt slots values)
unfolding rebuilt FitAll AreRanged
fits-rebuilt [] values ranged = tt
fits-rebuilt (slot.Name role ∷ slots) values ranged = (refl, fits-rebuilt slots (left_by (slot.Name role) values) ranged.1)
fits-rebuilt (slot.Edge ∷ slots) values ranged = (tt, fits-rebuilt slots (left_by slot.Edge values) ranged.1)
fits-rebuilt (slot.Bit ∷ slots) values ranged = (tt, fits-rebuilt slots (left_by slot.Bit values) ranged.1)
fits-rebuilt (slot.Word ∷ slots) values ranged = (tt, fits-rebuilt slots (left_by slot.Word values) ranged.1)
fits-rebuilt (slot.Index limit ∷ slots) values ranged = (ranged.0, fits-rebuilt slots (left_by (slot.Index limit) values) ranged.1)
fits-rebuilt (slot.Atom ∷ slots) values ranged = (ranged.0, fits-rebuilt slots (left_by slot.Atom values) ranged.1)
fits-rebuilt (slot.Space ∷ slots) values ranged = (tt, fits-rebuilt slots values ranged.1)
fits-rebuilt (slot.Fixed fixed ∷ slots) values ranged = (tt, fits-rebuilt slots values ranged.1)
fits-rebuilt (slot.Literal number ∷ slots) values ranged = (tt, fits-rebuilt slots values ranged.1)
fits-rebuilt (slot.Again place ∷ slots) values ranged = (tt, fits-rebuilt slots values ranged.1)
fits-rebuilt (slot.AtomsAgain first n ∷ slots) values ranged = (tt, fits-rebuilt slots values ranged.1)
fits-rebuilt (slot.Atoms n ∷ slots) values ranged = (tt, fits-rebuilt slots values ranged.1)

-- all atoms among values are in range
abbrev pub AreSmall : List Value → Type 0
AreSmall [] = Unit {0}
AreSmall (AnAtom one ∷ values) = FitsAtom one × AreSmall values
AreSmall (value ∷ values) = AreSmall values

small-first : (values : List Value) → AreSmall values → FitsAtom (atom_in values)
small-first [] small = tt
small-first (AnAtom one ∷ values) small = small.0
small-first (Name role name ∷ values) small = tt
small-first (Edge falling ∷ values) small = tt
small-first (Bit bit ∷ values) small = tt
small-first (Word word ∷ values) small = tt
small-first (Index k ∷ values) small = tt

small-rest : (values : List Value) → AreSmall values → AreSmall (drop 1 values)
small-rest [] small = tt
small-rest (AnAtom one ∷ values) small = small.1
small-rest (Name role name ∷ values) small = small
small-rest (Edge falling ∷ values) small = small
small-rest (Bit bit ∷ values) small = small
small-rest (Word word ∷ values) small = small
small-rest (Index k ∷ values) small = small

-- whether no slot takes an index
unfoldable pub are_indexless : List Slot → Bool
are_indexless [] = true
are_indexless (slot.Index limit ∷ slots) = false
are_indexless (wanted ∷ slots) = are_indexless slots

pub ranged-small : (slots : List Slot) (values : List Value) → are_indexless slots ≡ true → AreSmall values → AreRanged slots values
unfolding AreRanged are_indexless
ranged-small [] values free small = tt
ranged-small (slot.Name role ∷ slots) values free small = (tt, ranged-small slots (left_by (slot.Name role) values) free (small-rest values small))
ranged-small (slot.Edge ∷ slots) values free small = (tt, ranged-small slots (left_by slot.Edge values) free (small-rest values small))
ranged-small (slot.Bit ∷ slots) values free small = (tt, ranged-small slots (left_by slot.Bit values) free (small-rest values small))
ranged-small (slot.Word ∷ slots) values free small = (tt, ranged-small slots (left_by slot.Word values) free (small-rest values small))
ranged-small (slot.Index limit ∷ slots) values free small = absurd cc
ranged-small (slot.Atom ∷ slots) values free small = (small-first values small, ranged-small slots (left_by slot.Atom values) free (small-rest values small))
ranged-small (slot.Space ∷ slots) values free small = (tt, ranged-small slots values free small)
ranged-small (slot.Fixed fixed ∷ slots) values free small = (tt, ranged-small slots values free small)
ranged-small (slot.Literal number ∷ slots) values free small = (tt, ranged-small slots values free small)
ranged-small (slot.Again place ∷ slots) values free small = (tt, ranged-small slots values free small)
ranged-small (slot.AtomsAgain first n ∷ slots) values free small = (tt, ranged-small slots values free small)
ranged-small (slot.Atoms n ∷ slots) values free small = (tt, ranged-small slots values free small)

-- an item's values are those that its form and they make
item-rebuilt : (one : Item) → IsShaped one → is_item (item_form one) ≡ true → rebuilt (slots_of (item_form one)) (item_values one) ≡ item_values one
item-rebuilt one shaped is =
    sym (values-rebuilt (item_form one) (item_values one) is) ∙ ap item_values (item-back one shaped)

pub form-is : (one : Item) → is_item (item_form one) ≡ true
form-is (item.Register name start) = refl
form-is (item.Word name start) = refl
form-is (item.Memory name) = refl
form-is (item.Wire name (right.Bit bit)) = refl
form-is (item.Wire name (right.Whole source)) = refl
form-is (item.Wire name (right.Part source k)) = refl
form-is (item.Wire name (right.Lut lut)) = refl
form-is (item.Wire name (right.Majority a b c)) = refl
form-is (item.Wire name (right.Choose reset set target)) = refl
form-is (item.Assign name value) = refl
form-is (item.FlipFlop falling clock enable reset set target lut) = refl
form-is (item.AsyncFlipFlop falling clock reset set target enable lut) = refl
form-is (item.AsyncReset reset set target) = refl
form-is (item.Read falling clock clock_enable enable target memory address) = refl
form-is (item.ReadNarrow falling clock clock_enable enable target memory address shift pattern) = refl
form-is (item.Write falling clock clock_enable enable memory address mask bits) = refl
form-is (item.WriteNarrow falling clock clock_enable enable memory address pattern shift bits) = refl
form-is (item.Start memory k word) = refl

pub item-fits : (one : Item) → IsShaped one → AreRanged (slots_of (item_form one)) (item_values one) → FitAll (slots_of (item_form one)) (item_values one)
item-fits one shaped ranged =
    subst (FitAll (slots_of (item_form one))) (item-rebuilt one shaped (form-is one)) (fits-rebuilt (slots_of (item_form one)) (item_values one) ranged)

-- ---- what is read

-- the item that was read
pub record ItemIsRead (end : ℕ) (spots : List Spot) (one : Item) (tail : List TokenValue) : Type 0 where
  pub found : List Found
  pub rest : List Spot
  pub reads : read_forms end [] all_forms spots ≡ Ok (record { form = item_form one; found = found; spots = rest })
  pub values : values_of found ≡ item_values one
  pub left : tokens_in rest ≡ tail

-- the tokens before what was read show its form
pub read-shape-of : (end : ℕ) (one : Form) (spots rest : List Spot) (found : List Found) → is_item one ≡ true → read_slots end (slots_of one) [] spots ≡ Ok (found, rest)
    → (tokens_in spots ≡ item_tokens (item_of one (values_of found)) ++ tokens_in rest) × (shape (tokens_in spots) ≡ one) × (item_values (item_of one (values_of found)) ≡ values_of found)
read-shape-of end one spots rest found is reads =
    let stands = slots-stand end (slots_of one) [] spots found rest reads in
    let same : found ≡ stands.given = stands.gained in
    let kept : item_values (item_of one (values_of found)) ≡ values_of found
    = values-rebuilt one (values_of found) is ∙ rebuilt-fit (slots_of one) (values_of found) (subst (λ (f : List Found). FitAll (slots_of one) (values_of f)) (sym same) stands.fit) in
    let named : item_form (item_of one (values_of found)) ≡ one = form-of one (values_of found) is in
    let tokens : tokens_in spots ≡ item_tokens (item_of one (values_of found)) ++ tokens_in rest
    = stands.tokens ∙ ap (λ f. filled (slots_of one) [] (values_of f) ++ tokens_in rest) (sym same)
    ∙ ap (λ v. filled (slots_of one) [] v ++ tokens_in rest) (sym kept)
    ∙ ap (λ form. filled (slots_of form) [] (item_values (item_of one (values_of found))) ++ tokens_in rest) (sym named) in
    (tokens, ap shape tokens ∙ item-shape (item_of one (values_of found)) (tokens_in rest) ∙ named, kept)

-- the shape of what a form reads is the form
simple-shape : (end : ℕ) (one : Form) (spots rest : List Spot) (found : List Found) → is_item one ≡ false → read_slots end (slots_of one) [] spots ≡ Ok (found, rest) → shape (tokens_in spots) ≡ one
unfolding shape slots_of filled
simple-shape end form.Input spots rest found is reads =
    let stands = slots-stand end (slots_of form.Input) [] spots found rest reads in ap shape stands.tokens
simple-shape end form.Output spots rest found is reads =
    let stands = slots-stand end (slots_of form.Output) [] spots found rest reads in ap shape stands.tokens
simple-shape end form.End spots rest found is reads =
    let stands = slots-stand end (slots_of form.End) [] spots found rest reads in ap shape stands.tokens
simple-shape end one spots rest found is reads = absurd cc

form-case : (b : Bool) (end : ℕ) (one : Form) (spots rest : List Spot) (found : List Found) → is_item one ≡ b → read_slots end (slots_of one) [] spots ≡ Ok (found, rest) → shape (tokens_in spots) ≡ one
form-case true end one spots rest found is reads = (read-shape-of end one spots rest found is reads).1
form-case false end one spots rest found is reads = simple-shape end one spots rest found is reads

-- the form that fits is the one that the tokens show
pub whole-shape : (end : ℕ) (spots : List Spot) (whole : Whole) → read_forms end [] all_forms spots ≡ Ok whole → shape (tokens_in spots) ≡ whole.form
whole-shape end spots whole reads =
    let is = forms-read end [] all_forms spots whole reads in
    form-case (is_item whole.form) end whole.form spots whole.spots whole.found refl is.reads

whole-same : (whole : Whole) (one : Form) (found : List Found) (spots : List Spot) → whole.form ≡ one → whole.found ≡ found → whole.spots ≡ spots
    → whole ≡ record { form = one; found = found; spots = spots }
whole-same whole one found spots a b c =
    ap (λ x. record { form = x; found = whole.found; spots = whole.spots }) a
    ∙ ap (λ x. record { form = one; found = x; spots = whole.spots }) b
    ∙ ap (λ x. record { form = one; found = found; spots = x }) c

-- the form that is read is the one that the tokens show
pub form-whole : (end : ℕ) (one : Form) (spots rest : List Spot) (found : List Found) → read_slots end (slots_of one) [] spots ≡ Ok (found, rest) → shape (tokens_in spots) ≡ one
    → read_forms end [] all_forms spots ≡ Ok (record { form = one; found = found; spots = rest })
form-whole end one spots rest found reads shows =
    let some = some-whole end [] one all_forms spots (found, rest) (among-all one) reads in
    let whole : Whole = some.0 in
    let is = forms-read end [] all_forms spots whole some.1 in
    let same : whole.form ≡ one = sym (whole-shape end spots whole some.1) ∙ shows in
    let again : ◌≡◌ {A = Reading (List Found)} (Ok (whole.found, whole.spots)) (Ok (found, rest)) = sym is.reads ∙ ap (λ form. read_slots end (slots_of form) [] spots) same ∙ reads in
    let values : whole.found ≡ found = ok_first again in
    let left : whole.spots ≡ rest = ok_second again in
    some.1 ∙ ap Ok (whole-same whole one found rest same values left)

pub none-given : (one : Form) → is_item one ≡ true → given_count one ≡ 0
none-given form.Input is = absurd cc
none-given form.Output is = absurd cc
none-given form.Register is = refl
none-given form.Word is = refl
none-given form.Memory is = refl
none-given form.WireBit is = refl
none-given form.WireWhole is = refl
none-given form.WirePart is = refl
none-given form.WireLut is = refl
none-given form.WireMajority is = refl
none-given form.WireChoose is = refl
none-given form.Assign is = refl
none-given form.FlipFlop is = refl
none-given form.AsyncFlipFlop is = refl
none-given form.AsyncReset is = refl
none-given form.Read is = refl
none-given form.ReadNarrow is = refl
none-given form.Write is = refl
none-given form.WriteNarrow is = refl
none-given form.Start is = refl
none-given form.End is = refl

pub item-read : (end : ℕ) (one : Item) (spots : List Spot) (tail : List TokenValue) → IsShaped one → AreRanged (slots_of (item_form one)) (item_values one)
    → tokens_in spots ≡ item_tokens one ++ tail → ItemIsRead end spots one tail
item-read end one spots tail shaped ranged stands =
    let form : Form = item_form one in
    let sound : IsSound 0 (slots_of form) = subst (λ (n : ℕ). IsSound n (slots_of form)) (none-given form (form-is one)) (form-sound form) in
    let read = slots-read end (slots_of form) [] (item_values one) spots tail sound (item-fits one shaped ranged) stands in
    let shows : shape (tokens_in spots) ≡ form = ap shape stands ∙ item-shape one tail in
    record { found = read.given; rest = read.rest; reads = form-whole end form spots read.rest read.given read.reads shows; values = read.is; left = read.left }

-- `endmodule` is read
pub record EndIsRead (end : ℕ) (spots : List Spot) (tail : List TokenValue) : Type 0 where
  pub found : List Found
  pub rest : List Spot
  pub reads : read_forms end [] all_forms spots ≡ Ok (record { form = form.End; found = found; spots = rest })
  pub left : tokens_in rest ≡ tail

end-slots : (end : ℕ) (spots : List Spot) (tail : List TokenValue) → tokens_in spots ≡ token.fixed sign.Endmodule ∷ tail → SlotsRead (read_slots end (slots_of form.End) [] spots) [] [] tail
unfolding slots_of filled FitAll
end-slots end spots tail stands = slots-read end (slots_of form.End) [] [] spots tail (form-sound form.End) (tt, tt) stands

pub end-read : (end : ℕ) (spots : List Spot) (tail : List TokenValue) → tokens_in spots ≡ token.fixed sign.Endmodule ∷ tail → EndIsRead end spots tail
end-read end spots tail stands =
    let read = end-slots end spots tail stands in
    record { found = read.given; rest = read.rest; reads = form-whole end form.End spots read.rest read.given read.reads (ap shape stands ∙ end-shape tail); left = read.left }
