-- The tokens of an item: those of its form's slots, filled with values.
use Rattle.std.specs.Prelude.{ℕ, zero, suc, Bool, true, false, List, [], ◌∷◌, ◌++◌, flat_map, take, drop, if◌then◌else◌}
use Rattle.vlog_tokens.specs.declared.fixed.Fixed.TheVariants as sign
use Rattle.vlog_tokens.specs.Tokens.{TokenValue}
use Rattle.vlog_tokens.specs.Tokens.{TokenValue as token}
use Rattle.vlog_forms.specs.declared.form.Form.{Form}
use Rattle.vlog_forms.specs.declared.slot.Slot.{Slot}
use Rattle.vlog_forms.specs.declared.slot.Slot.TheVariants.{Space, Fixed, Literal, Again, AtomsAgain, Name, Edge, Bit, Word, Index, Atom, Atoms}
use Rattle.vlog_forms.specs.Table.{table}
use Rattle.vlog_forms.specs.Values.{Value, value_tokens, tokens_at}

-- n further atoms, each after a comma, and the closing brace
abbrev pub more_slots : ℕ → List Slot
more_slots zero = Fixed sign.CloseBrace ∷ []
more_slots (suc n) = Fixed sign.Comma ∷ Space ∷ Atom ∷ more_slots n

-- n atoms with commas between them, and the closing brace
abbrev pub atom_slots : ℕ → List Slot
atom_slots zero = Fixed sign.CloseBrace ∷ []
atom_slots (suc n) = Atom ∷ more_slots n

-- n earlier values again, from the index `first` on, each after a comma, and the closing brace
abbrev pub again_slots : ℕ → ℕ → List Slot
again_slots first zero = Fixed sign.CloseBrace ∷ []
again_slots first (suc n) = Fixed sign.Comma ∷ Space ∷ Again first ∷ again_slots (suc first) n

abbrev pub first_again_slots : ℕ → ℕ → List Slot
first_again_slots first zero = Fixed sign.CloseBrace ∷ []
first_again_slots first (suc n) = Again first ∷ again_slots (suc first) n

-- the parts of a slot, each of one token or one value
abbrev pub parts_of : Slot → List Slot
parts_of (Atoms n) = Fixed sign.OpenBrace ∷ atom_slots n
parts_of (AtomsAgain first n) = Fixed sign.OpenBrace ∷ first_again_slots first n
parts_of slot = slot ∷ []

unfoldable pub slots_of : Form → List Slot
slots_of form = flat_map parts_of (table form)

-- whether a slot takes a value
abbrev pub takes_value : Slot → Bool
takes_value (Name role) = true
takes_value Edge = true
takes_value Bit = true
takes_value Word = true
takes_value (Index limit) = true
takes_value Atom = true
takes_value _ = false

-- the tokens of a slot that takes no value: a space has none, and a repeat has those of an earlier value
abbrev pub exact_tokens : List Value → Slot → List TokenValue
exact_tokens before (Fixed fixed) = token.fixed fixed ∷ []
exact_tokens before (Literal number) = token.number number ∷ []
exact_tokens before (Again place) = tokens_at before place
exact_tokens before _ = []

-- the tokens of the first value, if there is one
abbrev pub first_tokens : List Value → List TokenValue
first_tokens [] = []
first_tokens (value ∷ values) = value_tokens value

abbrev pub slot_tokens : List Value → List Value → Slot → List TokenValue
slot_tokens before after slot = if takes_value slot then first_tokens after else exact_tokens before slot

-- the values left after a slot, and those used up to it
abbrev pub left_by : Slot → List Value → List Value
left_by slot after = if takes_value slot then drop 1 after else after

abbrev pub passed_by : Slot → List Value → List Value → List Value
passed_by slot before after = if takes_value slot then before ++ take 1 after else before

-- the tokens of slots that are filled with the values `after`; the values `before` filled earlier slots
unfoldable pub filled : List Slot → List Value → List Value → List TokenValue
filled [] before after = []
filled (slot ∷ slots) before after =
    slot_tokens before after slot ++ filled slots (passed_by slot before after) (left_by slot after)
