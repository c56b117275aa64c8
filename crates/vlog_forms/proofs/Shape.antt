-- The form of an item is seen from its tokens.
use Rattle.std.proofs.Common.{◌≡◌, ℕ, zero, suc, Bool, true, false, List, [], ◌∷◌, ◌++◌, get_or, drop, take, refl, ap, ◌∙◌, append_assoc}
use Rattle.std.specs.Prelude.{if◌then◌else◌}
use Rattle.vlog_tokens.specs.declared.fixed.Fixed.{Fixed}
use Rattle.vlog_tokens.specs.declared.fixed.Fixed.TheVariants as sign
use Rattle.vlog_tokens.specs.Tokens.{TokenValue}
use Rattle.vlog_tokens.specs.Tokens.{TokenValue as token}
use Rattle.vlog_module.specs.declared.atoms.Atom.{Atom}
use Rattle.vlog_module.specs.declared.atoms.Atom.TheVariants as atom
use Rattle.vlog_module.specs.declared.item.Right.TheVariants as right
use Rattle.vlog_module.specs.declared.item.Item.{Item}
use Rattle.vlog_module.specs.declared.item.Item.TheVariants as item
use Rattle.vlog_forms.specs.declared.form.Form.{Form}
use Rattle.vlog_forms.specs.declared.form.Form.TheVariants as form
use Rattle.vlog_forms.specs.declared.slot.Slot.{Slot}
use Rattle.vlog_forms.specs.declared.slot.Slot.TheVariants as slot
use Rattle.vlog_forms.specs.declared.slot.Role.{Role}
use Rattle.vlog_forms.specs.declared.slot.Role.TheVariants as role
use Rattle.vlog_module.specs.declared.sort.Sort.TheVariants as sort
use Rattle.vlog_forms.specs.Values.{Value, is_same_token, tokens_at, value_tokens}
use Rattle.vlog_forms.specs.Values.Value.{Name, Edge, Bit, Word, Index, AnAtom}
use Rattle.vlog_forms.specs.Layout.{slots_of, filled, first_tokens, left_by, passed_by, slot_tokens}
use Rattle.vlog_forms.specs.Items.{item_form, item_tokens, atoms_values, lut_values}

-- whether a token is this sign or word
abbrev is_at : Fixed → List TokenValue → ℕ → Bool
is_at fixed tokens place = is_same_token (token.fixed fixed) (get_or tokens place token.stray)

-- the tokens after the first that is this sign
unfoldable pub after_sign : Fixed → List TokenValue → List TokenValue
after_sign fixed [] = []
after_sign fixed (one ∷ tokens) = if is_same_token (token.fixed fixed) one then tokens else after_sign fixed tokens

abbrev right_shape : TokenValue → List TokenValue → Form
right_shape (token.bit bit) tokens = form.WireBit
right_shape (token.word word) tokens = form.WireLut
right_shape (token.name name) tokens =
    if is_at sign.OpenBracket tokens 0 then form.WirePart else if is_at sign.Question tokens 0 then form.WireChoose else form.WireWhole
right_shape _ tokens = form.WireMajority

abbrev wire_shape : List TokenValue → Form
wire_shape tokens = right_shape (get_or tokens 0 token.stray) (drop 1 tokens)

-- the tokens after the condition of an item on an edge
abbrev clocked_shape : List TokenValue → Form
clocked_shape tokens =
    if is_at sign.Begin tokens 0 then form.FlipFlop
    else if is_at sign.LessEquals tokens 1 then (if is_at sign.OpenParen tokens 2 then form.ReadNarrow else form.Read)
    else if is_at sign.Not (after_sign sign.And tokens) 0 then form.WriteNarrow
    else form.Write

-- after `always`: the word `or` follows the clock, or `if` follows the edge, or neither
abbrev always_shape : List TokenValue → Form
always_shape tokens =
    if is_at sign.OrEdge tokens 4 then form.AsyncFlipFlop
    else if is_at sign.If tokens 5 then clocked_shape (after_sign sign.CloseParen (drop 7 tokens))
    else form.AsyncReset

unfoldable pub shape : List TokenValue → Form
shape tokens =
    if is_at sign.Reg tokens 0 then
    (if is_at sign.OpenBracket tokens 1 then (if is_at sign.Equals tokens 7 then form.Word else form.Memory) else form.Register)
    else if is_at sign.Wire tokens 0 then wire_shape (drop 3 tokens)
    else if is_at sign.Assign tokens 0 then form.Assign
    else if is_at sign.Always tokens 0 then always_shape (drop 1 tokens)
    else if is_at sign.Initial tokens 0 then form.Start
    else if is_at sign.Input tokens 0 then form.Input
    else if is_at sign.Output tokens 0 then form.Output
    else form.End

-- ---- what follows a sign, whatever the values are

-- a sign that is written in no value
record IsApart (fixed : Fixed) : Type 0 where
  opens : is_same_token (token.fixed fixed) (token.fixed sign.OpenBracket) ≡ false
  closes : is_same_token (token.fixed fixed) (token.fixed sign.CloseBracket) ≡ false
  rises : is_same_token (token.fixed fixed) (token.fixed sign.Posedge) ≡ false
  falls : is_same_token (token.fixed fixed) (token.fixed sign.Negedge) ≡ false

after-value : (fixed : Fixed) (one : Value) (tokens : List TokenValue) → IsApart fixed → after_sign fixed (value_tokens one ++ tokens) ≡ after_sign fixed tokens
unfolding after_sign
after-value fixed (Name role name) tokens apart = refl
after-value fixed (Edge false) tokens apart = rw apart.rises refl
after-value fixed (Edge true) tokens apart = rw apart.falls refl
after-value fixed (Bit bit) tokens apart = refl
after-value fixed (Word word) tokens apart = refl
after-value fixed (Index k) tokens apart = refl
after-value fixed (AnAtom (atom.Bit bit)) tokens apart = refl
after-value fixed (AnAtom (atom.Whole name)) tokens apart = refl
after-value fixed (AnAtom (atom.Part name k)) tokens apart = rw (apart.opens, apart.closes) refl

after-first : (fixed : Fixed) (after : List Value) (tokens : List TokenValue) → IsApart fixed → after_sign fixed (first_tokens after ++ tokens) ≡ after_sign fixed tokens
after-first fixed [] tokens apart = refl
after-first fixed (one ∷ after) tokens apart = after-value fixed one tokens apart

after-again : (fixed : Fixed) (before : List Value) (place : ℕ) (tokens : List TokenValue) → IsApart fixed → after_sign fixed (tokens_at before place ++ tokens) ≡ after_sign fixed tokens
unfolding after_sign
after-again fixed [] place tokens apart = refl
after-again fixed (one ∷ before) zero tokens apart = after-value fixed one tokens apart
after-again fixed (one ∷ before) (suc place) tokens apart = after-again fixed before place tokens apart

-- the tokens of slots after the first one that is this sign; none if there is no such slot
unfoldable filled_after : Fixed → List Slot → List Value → List Value → List TokenValue
filled_after fixed [] before after = []
filled_after fixed (slot.Fixed other ∷ slots) before after =
    if is_same_token (token.fixed fixed) (token.fixed other) then filled slots before after else filled_after fixed slots before after
filled_after fixed (one ∷ slots) before after = filled_after fixed slots (passed_by one before after) (left_by one after)

unfoldable has_sign : Fixed → List Slot → Bool
has_sign fixed [] = false
has_sign fixed (slot.Fixed other ∷ slots) = if is_same_token (token.fixed fixed) (token.fixed other) then true else has_sign fixed slots
has_sign fixed (one ∷ slots) = has_sign fixed slots

-- one slot before it
slot-after : (fixed : Fixed) (one : Slot) (slots : List Slot) (before after : List Value) (tail : List TokenValue)
    → ((tokens : List TokenValue) → after_sign fixed (slot_tokens before after one ++ tokens) ≡ after_sign fixed tokens)
    → after_sign fixed (filled slots (passed_by one before after) (left_by one after) ++ tail) ≡ filled_after fixed slots (passed_by one before after) (left_by one after) ++ tail
    → after_sign fixed (filled (one ∷ slots) before after ++ tail) ≡ filled_after fixed slots (passed_by one before after) (left_by one after) ++ tail
unfolding filled
slot-after fixed one slots before after tail skips more =
    let rest : List TokenValue = filled slots (passed_by one before after) (left_by one after) in
    ap (after_sign fixed) (append_assoc (slot_tokens before after one) rest tail) ∙ skips (rest ++ tail) ∙ more

sign-after : (fixed : Fixed) (slots : List Slot) (before after : List Value) (tail : List TokenValue) → IsApart fixed → has_sign fixed slots ≡ true
    → after_sign fixed (filled slots before after ++ tail) ≡ filled_after fixed slots before after ++ tail
unfolding after_sign filled filled_after has_sign
sign-after fixed [] before after tail apart has = absurd cc
sign-after fixed (slot.Fixed other ∷ slots) before after tail apart has =
    by (is_same_token (token.fixed fixed) (token.fixed other)) has (sign-after fixed slots before after tail apart)
  where
    by : (b : Bool) → (if b then true else has_sign fixed slots) ≡ true → (has_sign fixed slots ≡ true → after_sign fixed (filled slots before after ++ tail) ≡ filled_after fixed slots before after ++ tail)
        → (if b then filled slots before after ++ tail else after_sign fixed (filled slots before after ++ tail)) ≡ (if b then filled slots before after else filled_after fixed slots before after) ++ tail
    by true has more = refl
    by false has more = more has
sign-after fixed (slot.Space ∷ slots) before after tail apart has = sign-after fixed slots before after tail apart has
sign-after fixed (slot.Literal number ∷ slots) before after tail apart has = sign-after fixed slots before after tail apart has
sign-after fixed (slot.AtomsAgain first n ∷ slots) before after tail apart has = sign-after fixed slots before after tail apart has
sign-after fixed (slot.Atoms n ∷ slots) before after tail apart has = sign-after fixed slots before after tail apart has
sign-after fixed (slot.Again place ∷ slots) before after tail apart has =
    slot-after fixed (slot.Again place) slots before after tail (λ tokens. after-again fixed before place tokens apart) (sign-after fixed slots before after tail apart has)
sign-after fixed (slot.Name role ∷ slots) before after tail apart has =
    slot-after fixed (slot.Name role) slots before after tail (λ tokens. after-first fixed after tokens apart) (sign-after fixed slots (before ++ take 1 after) (drop 1 after) tail apart has)
sign-after fixed (slot.Edge ∷ slots) before after tail apart has =
    slot-after fixed slot.Edge slots before after tail (λ tokens. after-first fixed after tokens apart) (sign-after fixed slots (before ++ take 1 after) (drop 1 after) tail apart has)
sign-after fixed (slot.Bit ∷ slots) before after tail apart has =
    slot-after fixed slot.Bit slots before after tail (λ tokens. after-first fixed after tokens apart) (sign-after fixed slots (before ++ take 1 after) (drop 1 after) tail apart has)
sign-after fixed (slot.Word ∷ slots) before after tail apart has =
    slot-after fixed slot.Word slots before after tail (λ tokens. after-first fixed after tokens apart) (sign-after fixed slots (before ++ take 1 after) (drop 1 after) tail apart has)
sign-after fixed (slot.Index limit ∷ slots) before after tail apart has =
    slot-after fixed (slot.Index limit) slots before after tail (λ tokens. after-first fixed after tokens apart) (sign-after fixed slots (before ++ take 1 after) (drop 1 after) tail apart has)
sign-after fixed (slot.Atom ∷ slots) before after tail apart has =
    slot-after fixed slot.Atom slots before after tail (λ tokens. after-first fixed after tokens apart) (sign-after fixed slots (before ++ take 1 after) (drop 1 after) tail apart has)

-- ---- the forms on an edge

-- the beginnings of items on an edge, whatever follows the condition
module _ (condition : List Slot) (clock_role : Role) (falling : Bool) (clock : List ℕ) (values : List Value) (tail : List TokenValue) where
  abbrev edge_slots : List Slot
  edge_slots =
      slot.Fixed sign.Always ∷ slot.Space ∷ slot.Fixed sign.At ∷ slot.Fixed sign.OpenParen ∷ slot.Edge ∷ slot.Space ∷ slot.Name clock_role
      ∷ slot.Fixed sign.CloseParen ∷ slot.Space ∷ slot.Fixed sign.If ∷ slot.Space ∷ slot.Fixed sign.OpenParen ∷ condition

  abbrev edge_values : List Value
  edge_values = Edge falling ∷ Name clock_role clock ∷ []

  clocked : has_sign sign.CloseParen condition ≡ true
      → shape (filled edge_slots [] (Edge falling ∷ Name clock_role clock ∷ values) ++ tail) ≡ clocked_shape (filled_after sign.CloseParen condition edge_values values ++ tail)
  unfolding shape filled
  clocked has =
      ap clocked_shape (sign-after sign.CloseParen condition edge_values values tail (record { opens = refl; closes = refl; rises = refl; falls = refl }) has)

flip-item : (falling : Bool) (clock : List ℕ) (one : Atom) (values : List Value) (tail : List TokenValue)
    → shape (filled (slots_of form.FlipFlop) [] (Edge falling ∷ Name role.Clocks clock ∷ AnAtom one ∷ values) ++ tail) ≡ form.FlipFlop
unfolding slots_of filled filled_after has_sign
flip-item falling clock one values tail = clocked (drop 12 (slots_of form.FlipFlop)) role.Clocks falling clock (AnAtom one ∷ values) tail refl

read-item : (falling : Bool) (clock : List ℕ) (one other : Atom) (target memory : List ℕ) (values : List Value) (tail : List TokenValue)
    → shape (filled (slots_of form.Read) [] (Edge falling ∷ Name role.Clocks clock ∷ AnAtom one ∷ AnAtom other ∷ Name (role.Assigns sort.Word) target ∷ Name (role.Takes sort.Memory) memory ∷ values) ++ tail) ≡ form.Read
unfolding slots_of filled filled_after has_sign
read-item falling clock one other target memory values tail =
    clocked (drop 12 (slots_of form.Read)) role.Clocks falling clock (AnAtom one ∷ AnAtom other ∷ Name (role.Assigns sort.Word) target ∷ Name (role.Takes sort.Memory) memory ∷ values) tail refl

narrow-read : (falling : Bool) (clock : List ℕ) (one other : Atom) (target : List ℕ) (values : List Value) (tail : List TokenValue)
    → shape (filled (slots_of form.ReadNarrow) [] (Edge falling ∷ Name role.Clocks clock ∷ AnAtom one ∷ AnAtom other ∷ Name (role.Assigns sort.Word) target ∷ values) ++ tail) ≡ form.ReadNarrow
unfolding slots_of filled filled_after has_sign
narrow-read falling clock one other target values tail =
    clocked (drop 12 (slots_of form.ReadNarrow)) role.Clocks falling clock (AnAtom one ∷ AnAtom other ∷ Name (role.Assigns sort.Word) target ∷ values) tail refl

-- after the condition of a write, the first `&` comes before the mask
masked-shape : (slots : List Slot) (before values : List Value) (memory : List ℕ) (tail : List TokenValue) → has_sign sign.And slots ≡ true
    → clocked_shape (filled (slot.Space ∷ slot.Name (role.Assigns sort.Memory) ∷ slot.Fixed sign.OpenBracket ∷ slots) before (Name (role.Assigns sort.Memory) memory ∷ values) ++ tail)
    ≡ (if is_at sign.Not (filled_after sign.And slots (before ++ Name (role.Assigns sort.Memory) memory ∷ []) values ++ tail) 0 then form.WriteNarrow else form.Write)
unfolding filled after_sign
masked-shape slots before values memory tail has =
    ap (λ tokens. if is_at sign.Not tokens 0 then form.WriteNarrow else form.Write)
    (sign-after sign.And slots (before ++ Name (role.Assigns sort.Memory) memory ∷ []) values tail (record { opens = refl; closes = refl; rises = refl; falls = refl }) has)

write-item : (falling : Bool) (clock : List ℕ) (one other : Atom) (memory : List ℕ) (values : List Value) (tail : List TokenValue)
    → shape (filled (slots_of form.Write) [] (Edge falling ∷ Name role.Clocks clock ∷ AnAtom one ∷ AnAtom other ∷ Name (role.Assigns sort.Memory) memory ∷ values) ++ tail) ≡ form.Write
unfolding slots_of filled filled_after has_sign
write-item falling clock one other memory values tail =
    clocked (drop 12 (slots_of form.Write)) role.Clocks falling clock (AnAtom one ∷ AnAtom other ∷ Name (role.Assigns sort.Memory) memory ∷ values) tail refl
    ∙ masked-shape (drop 21 (slots_of form.Write)) (Edge falling ∷ Name role.Clocks clock ∷ AnAtom one ∷ AnAtom other ∷ []) values memory tail refl

narrow-write : (falling : Bool) (clock : List ℕ) (one other : Atom) (memory : List ℕ) (values : List Value) (tail : List TokenValue)
    → shape (filled (slots_of form.WriteNarrow) [] (Edge falling ∷ Name role.Clocks clock ∷ AnAtom one ∷ AnAtom other ∷ Name (role.Assigns sort.Memory) memory ∷ values) ++ tail) ≡ form.WriteNarrow
unfolding slots_of filled filled_after has_sign
narrow-write falling clock one other memory values tail =
    clocked (drop 12 (slots_of form.WriteNarrow)) role.Clocks falling clock (AnAtom one ∷ AnAtom other ∷ Name (role.Assigns sort.Memory) memory ∷ values) tail refl
    ∙ masked-shape (drop 21 (slots_of form.WriteNarrow)) (Edge falling ∷ Name role.Clocks clock ∷ AnAtom one ∷ AnAtom other ∷ []) values memory tail refl

reset-shape : (slots : List Slot) (clock_role : Role) (falling : Bool) (clock : List ℕ) (values : List Value) (tail : List TokenValue)
    → shape (filled (slot.Fixed sign.Always ∷ slot.Space ∷ slot.Fixed sign.At ∷ slot.Fixed sign.OpenParen ∷ slot.Edge ∷ slot.Space ∷ slot.Name clock_role ∷ slot.Space ∷ slot.Fixed sign.OrEdge ∷ slots) []
    (Edge falling ∷ Name clock_role clock ∷ values) ++ tail) ≡ form.AsyncFlipFlop
unfolding shape filled
reset-shape slots clock_role falling clock values tail = refl

reset-item : (falling : Bool) (clock : List ℕ) (values : List Value) (tail : List TokenValue)
    → shape (filled (slots_of form.AsyncFlipFlop) [] (Edge falling ∷ Name role.Clocks clock ∷ values) ++ tail) ≡ form.AsyncFlipFlop
unfolding slots_of
reset-item falling clock values tail = reset-shape (drop 9 (slots_of form.AsyncFlipFlop)) role.Clocks falling clock values tail

lut-item : (slots : List Slot) (name : List ℕ) (word : ℕ) (values : List Value) (tail : List TokenValue)
    → shape (filled (slot.Fixed sign.Wire ∷ slot.Space ∷ slot.Name (role.Declares sort.Wire) ∷ slot.Space ∷ slot.Fixed sign.Equals ∷ slot.Space ∷ slot.Word ∷ slots) []
    (Name (role.Declares sort.Wire) name ∷ Word word ∷ values) ++ tail) ≡ form.WireLut
unfolding shape filled
lut-item slots name word values tail = refl

lut-wire : (name : List ℕ) (word : ℕ) (values : List Value) (tail : List TokenValue)
    → shape (filled (slots_of form.WireLut) [] (Name (role.Declares sort.Wire) name ∷ Word word ∷ values) ++ tail) ≡ form.WireLut
unfolding slots_of
lut-wire name word values tail = lut-item (drop 7 (slots_of form.WireLut)) name word values tail

-- whether the tokens of an item are few
abbrev is_small : Item → Bool
is_small (item.Wire name (right.Lut lut)) = false
is_small (item.FlipFlop falling clock enable reset set target lut) = false
is_small (item.AsyncFlipFlop falling clock reset set target enable lut) = false
is_small (item.Read falling clock clock_enable enable target memory address) = false
is_small (item.ReadNarrow falling clock clock_enable enable target memory address shift pattern) = false
is_small (item.Write falling clock clock_enable enable memory address mask bits) = false
is_small (item.WriteNarrow falling clock clock_enable enable memory address pattern shift bits) = false
is_small _ = true

small-shape : (one : Item) (tail : List TokenValue) → is_small one ≡ true → shape (item_tokens one ++ tail) ≡ item_form one
unfolding shape filled slots_of
small-shape (item.Register name start) tail small = refl
small-shape (item.Word name start) tail small = refl
small-shape (item.Memory name) tail small = refl
small-shape (item.Wire name (right.Bit bit)) tail small = refl
small-shape (item.Wire name (right.Whole source)) tail small = refl
small-shape (item.Wire name (right.Part source k)) tail small = refl
small-shape (item.Wire name (right.Majority a b c)) tail small = refl
small-shape (item.Wire name (right.Choose reset set target)) tail small = refl
small-shape (item.Assign name value) tail small = refl
small-shape (item.AsyncReset reset set target) tail small = refl
small-shape (item.Start memory k word) tail small = refl
small-shape one tail small = absurd cc

-- the form of an item is seen from its tokens, whatever follows
pub item-shape : (one : Item) (tail : List TokenValue) → shape (item_tokens one ++ tail) ≡ item_form one
item-shape (item.Register name start) tail = small-shape (item.Register name start) tail refl
item-shape (item.Word name start) tail = small-shape (item.Word name start) tail refl
item-shape (item.Memory name) tail = small-shape (item.Memory name) tail refl
item-shape (item.Wire name (right.Bit bit)) tail = small-shape (item.Wire name (right.Bit bit)) tail refl
item-shape (item.Wire name (right.Whole source)) tail = small-shape (item.Wire name (right.Whole source)) tail refl
item-shape (item.Wire name (right.Part source k)) tail = small-shape (item.Wire name (right.Part source k)) tail refl
item-shape (item.Wire name (right.Lut lut)) tail = lut-wire name lut.word (atoms_values lut.ins) tail
item-shape (item.Wire name (right.Majority a b c)) tail = small-shape (item.Wire name (right.Majority a b c)) tail refl
item-shape (item.Wire name (right.Choose reset set target)) tail = small-shape (item.Wire name (right.Choose reset set target)) tail refl
item-shape (item.Assign name value) tail = small-shape (item.Assign name value) tail refl
item-shape (item.FlipFlop falling clock enable reset set target lut) tail =
    flip-item falling clock enable (AnAtom reset ∷ Name (role.Assigns sort.Register) target ∷ Bit set ∷ lut_values lut) tail
item-shape (item.AsyncFlipFlop falling clock reset set target enable lut) tail =
    reset-item falling clock (Name (role.Takes sort.Wire) reset ∷ Name role.AssignsAsync target ∷ Bit set ∷ AnAtom enable ∷ lut_values lut) tail
item-shape (item.AsyncReset reset set target) tail = small-shape (item.AsyncReset reset set target) tail refl
item-shape (item.Read falling clock clock_enable enable target memory address) tail =
    read-item falling clock clock_enable enable target memory (atoms_values address) tail
item-shape (item.ReadNarrow falling clock clock_enable enable target memory address shift pattern) tail =
    narrow-read falling clock clock_enable enable target (Name (role.Takes sort.Memory) memory ∷ (atoms_values address ++ (atoms_values shift ++ Word pattern ∷ []))) tail
item-shape (item.Write falling clock clock_enable enable memory address mask bits) tail =
    write-item falling clock clock_enable enable memory (atoms_values address ++ (atoms_values mask ++ atoms_values bits)) tail
item-shape (item.WriteNarrow falling clock clock_enable enable memory address pattern shift bits) tail =
    narrow-write falling clock clock_enable enable memory (atoms_values address ++ (Word pattern ∷ (atoms_values shift ++ atoms_values bits))) tail
item-shape (item.Start memory k word) tail = small-shape (item.Start memory k word) tail refl

-- the other forms
pub end-shape : (tail : List TokenValue) → shape (token.fixed sign.Endmodule ∷ tail) ≡ form.End
unfolding shape
end-shape tail = refl
