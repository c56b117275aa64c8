-- How far the tokens of a text fit a form.
use Rattle.std.specs.Prelude.{ℕ, max, nat_le, Bool, true, false, List, [], ◌∷◌, ◌++◌, map, Option, Some, None, Result, Ok, Err, if◌then◌else◌}
use Rattle.vlog_tokens.specs.declared.fixed.Fixed.TheVariants as sign
use Rattle.vlog_tokens.specs.Tokens.{TokenValue, Spot}
use Rattle.vlog_tokens.specs.Tokens.{TokenValue as token}
use Rattle.vlog_module.specs.declared.atoms.Atom.{Atom}
use Rattle.vlog_module.specs.declared.atoms.Atom.TheVariants as atom
use Rattle.vlog_forms.specs.declared.form.Form.{Form}
use Rattle.vlog_forms.specs.declared.form.Form.TheVariants as form
use Rattle.vlog_forms.specs.declared.slot.Slot.{Slot}
use Rattle.vlog_forms.specs.declared.slot.Slot.TheVariants as slot
use Rattle.vlog_forms.specs.Values.{Value, is_same_token}
use Rattle.vlog_forms.specs.Values.Value.{Name, Edge, Bit, Word, Index, AnAtom}
use Rattle.vlog_forms.specs.Layout.{slots_of, takes_value, exact_tokens}

-- a value, and the offset of its first token
pub record Found : Type 0 where
  pub offset : ℕ
  pub value : Value

abbrev pub found_at : ℕ → Value → Found
found_at offset value = record { offset = offset; value = value }

abbrev pub values_of : List Found → List Value
values_of found = map (λ one. one.value) found

-- the offset of the first token, or the end of the text if there is none
abbrev pub offset_of : ℕ → List Spot → ℕ
offset_of end [] = end
offset_of end (first ∷ spots) = first.offset

-- The tokens that follow these ones, or the offset of the first token that differs. `end` is the length of the text.
abbrev pub read_tokens : ℕ → List TokenValue → List Spot → Result (List Spot) ℕ
read_tokens end [] spots = Ok spots
read_tokens end (wanted ∷ more) [] = Err end
read_tokens end (wanted ∷ more) (first ∷ spots) =
    if is_same_token wanted first.token then read_tokens end more spots else Err first.offset

-- the edge that a token is: `posedge` or `negedge`
abbrev pub edge_of : TokenValue → Option Value
edge_of one =
    if is_same_token (token.fixed sign.Posedge) one then Some (Edge false)
    else if is_same_token (token.fixed sign.Negedge) one then Some (Edge true)
    else None

-- the value that a single token is in a slot, if it fits
abbrev pub single : Slot → TokenValue → Option Value
single (slot.Name role) (token.name name) = Some (Name role name)
single slot.Edge one = edge_of one
single slot.Bit (token.bit bit) = Some (Bit bit)
single slot.Word (token.word word) = Some (Word word)
single (slot.Index limit) (token.number k) = if nat_le k limit then Some (Index k) else None
single _ _ = None

-- What was read and the tokens after it, or the offset of the token that doesn't fit.
abbrev pub Reading : Type 0 → Type 0
Reading A = Result (A × List Spot) ℕ

-- adds a value to those that were found before
abbrev pub with_value : List Found → Spot → Option Value → List Spot → Reading (List Found)
with_value found first (Some value) spots = Ok (found ++ found_at first.offset value ∷ [], spots)
with_value found first None spots = Err first.offset

abbrev pub read_single : ℕ → Slot → List Found → List Spot → Reading (List Found)
read_single end wanted found [] = Err end
read_single end wanted found (first ∷ spots) = with_value found first (single wanted first.token) spots

-- whether the first token is `[`
abbrev pub opens : List Spot → Bool
opens [] = false
opens (first ∷ spots) = is_same_token (token.fixed sign.OpenBracket) first.token

-- an index, and the tokens after it
abbrev pub with_index : ℕ → Result (List Spot) ℕ → Reading ℕ
with_index k (Ok spots) = Ok (k, spots)
with_index k (Err stuck) = Err stuck

-- `]` after the index of a bit
abbrev pub close_part : ℕ → ℕ → List Spot → Reading ℕ
close_part end k spots = with_index k (read_tokens end (token.fixed sign.CloseBracket ∷ []) spots)

-- the index of a bit in a register of 16 bits, and `]`
abbrev pub index_part : ℕ → ℕ → TokenValue → List Spot → Reading ℕ
index_part end offset (token.number k) spots = if nat_le k 15 then close_part end k spots else Err offset
index_part end offset _ spots = Err offset

abbrev pub read_part : ℕ → List Spot → Reading ℕ
read_part end [] = Err end
read_part end (first ∷ spots) = index_part end first.offset first.token spots

-- the tokens after the first one, which is `[`
abbrev pub after_open : List Spot → List Spot
after_open [] = []
after_open (first ∷ spots) = spots

-- adds an atom to the values that were found before
abbrev pub with_atom : List Found → ℕ → Atom → List Spot → Reading (List Found)
with_atom found offset one spots = Ok (found ++ found_at offset (AnAtom one) ∷ [], spots)

abbrev pub with_part : List Found → ℕ → List ℕ → Reading ℕ → Reading (List Found)
with_part found offset name (Ok part) = with_atom found offset (atom.Part name part.0) part.1
with_part found offset name (Err stuck) = Err stuck

-- the atom that begins with this token: a name with `[` after it is `NAME[k]`
abbrev pub atom_from : ℕ → List Found → ℕ → TokenValue → List Spot → Reading (List Found)
atom_from end found offset (token.bit bit) spots = with_atom found offset (atom.Bit bit) spots
atom_from end found offset (token.name name) spots =
    if opens spots then with_part found offset name (read_part end (after_open spots))
    else with_atom found offset (atom.Whole name) spots
atom_from end found offset _ spots = Err offset

abbrev pub read_atom : ℕ → List Found → List Spot → Reading (List Found)
read_atom end found [] = Err end
read_atom end found (first ∷ spots) = atom_from end found first.offset first.token spots

-- tokens that are no value
abbrev pub after_tokens : List Found → Result (List Spot) ℕ → Reading (List Found)
after_tokens found (Ok spots) = Ok (found, spots)
after_tokens found (Err stuck) = Err stuck

-- One slot. Its value is added to the values that were found before.
abbrev pub read_slot : ℕ → Slot → List Found → List Spot → Reading (List Found)
read_slot end slot.Atom found spots = read_atom end found spots
read_slot end wanted found spots =
    if takes_value wanted then read_single end wanted found spots
    else after_tokens found (read_tokens end (exact_tokens (values_of found) wanted) spots)

abbrev pub and_then : Reading (List Found) → (List Found → List Spot → Reading (List Found)) → Reading (List Found)
and_then (Ok step) next = next step.0 step.1
and_then (Err stuck) next = Err stuck

-- slots one after another
unfoldable pub read_slots : ℕ → List Slot → List Found → List Spot → Reading (List Found)
read_slots end [] found spots = Ok (found, spots)
read_slots end (wanted ∷ slots) found spots = and_then (read_slot end wanted found spots) (read_slots end slots)

-- an item that fits a form: the form, its values and the tokens after it
pub record Whole : Type 0 where
  pub form : Form
  pub found : List Found
  pub spots : List Spot

-- the first of two forms that fits, else the offset that was reached by the one that got further
abbrev pub or_further : ℕ → Result Whole ℕ → Result Whole ℕ
or_further stuck (Ok whole) = Ok whole
or_further stuck (Err other) = Err (max stuck other)

abbrev pub first_whole : Form → Reading (List Found) → Result Whole ℕ → Result Whole ℕ
first_whole one (Ok step) others = Ok (record { form = one; found = step.0; spots = step.1 })
first_whole one (Err stuck) others = or_further stuck others

-- The first of these forms that fits, with its values; else the offset of the token at which the form that got furthest stopped.
-- The values that the forms repeat are given.
unfoldable pub read_forms : ℕ → List Found → List Form → List Spot → Result Whole ℕ
read_forms end given [] spots = Err 0
read_forms end given (one ∷ forms) spots =
    first_whole one (read_slots end (slots_of one) given spots) (read_forms end given forms spots)

-- the forms of a port's declaration
abbrev pub port_forms : List Form
port_forms = form.Input ∷ form.Output ∷ []

-- all forms
abbrev pub all_forms : List Form
all_forms =
    form.Input ∷ form.Output ∷ form.Register ∷ form.Word ∷ form.Memory ∷ form.WireBit ∷ form.WireWhole ∷ form.WirePart
    ∷ form.WireLut ∷ form.WireMajority ∷ form.WireChoose ∷ form.Assign ∷ form.FlipFlop ∷ form.AsyncFlipFlop ∷ form.AsyncReset
    ∷ form.Read ∷ form.ReadNarrow ∷ form.Write ∷ form.WriteNarrow ∷ form.Start ∷ form.End ∷ []
