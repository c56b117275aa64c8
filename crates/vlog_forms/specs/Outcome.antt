-- What a text is: the module that it spells, or its first fault.
use Rattle.std.specs.Prelude.{ℕ, zero, suc, ◌+◌, ◌-◌, nat_lt, Bool, true, false, not, ◌||◌, List, [], ◌∷◌, ◌++◌, length, Option, Some, None, Result, Ok, Err, bytes_eq, if◌then◌else◌}
use Rattle.std.specs.List.{list_all, list_any}
use Rattle.vlog_tokens.specs.declared.fixed.Fixed.TheVariants as sign
use Rattle.vlog_tokens.specs.Tokens.{TokenValue, Spot, spots_of}
use Rattle.vlog_tokens.specs.Tokens.{TokenValue as token}
use Rattle.vlog_module.specs.declared.sort.Sort.TheVariants as sort
use Rattle.vlog_module.specs.declared.atoms.Atom.TheVariants as atom
use Rattle.vlog_module.specs.declared.item.Item.{Item}
use Rattle.vlog_module.specs.declared.modules.Port.{Port}
use Rattle.vlog_module.specs.Parts.{Parts}
use Rattle.vlog_module.specs.Uses.{Use}
use Rattle.vlog_module.specs.Uses.{Use as use_as}
use Rattle.vlog_module.specs.WellFormed.{Scope, scope_of, section_of, is_known, is_first, is_assigned}
use Rattle.vlog_forms.specs.declared.fault.VlogCause.{VlogCause}
use Rattle.vlog_forms.specs.declared.fault.VlogCause.TheVariants.{Syntax, Order, Undeclared, AssignedTwice}
use Rattle.vlog_forms.specs.declared.form.Form.{Form}
use Rattle.vlog_forms.specs.declared.form.Form.TheVariants as form
use Rattle.vlog_forms.specs.declared.slot.Role.{Role}
use Rattle.vlog_forms.specs.declared.slot.Role.TheVariants.{Declares, Reads, ReadsBit, Clocks, Takes, Assigns, Chooses, AssignsAsync, Starts}
use Rattle.vlog_forms.specs.declared.slot.Slot.{Slot}
use Rattle.vlog_forms.specs.declared.slot.Slot.TheVariants as slot
use Rattle.vlog_forms.specs.Values.{Value, is_same_token}
use Rattle.vlog_forms.specs.Values.Value.{Name, AnAtom}
use Rattle.vlog_forms.specs.Items.{item_of, following, name_in, bit_in, index_in}
use Rattle.vlog_forms.specs.Reading.{Found, found_at, values_of, offset_of, read_tokens, Reading, read_slots, Whole, read_forms, port_forms, all_forms}

-- a fault: an offset of the text, and the cause
pub record Fault : Type 0 where
  pub offset : ℕ
  pub cause : VlogCause

abbrev pub fault : ℕ → VlogCause → Fault
fault offset cause = record { offset = offset; cause = cause }

-- ---- the uses of names in an item

-- how an item uses a name; `place` is the name's index among the values of the item
abbrev pub role_use : Role → List Value → ℕ → List ℕ → Use
role_use (Declares sort) values place name = use_as.Declares sort name
role_use Reads values place name = use_as.Reads name
role_use ReadsBit values place name = use_as.ReadsBit name (index_in (following (place + 1) values))
role_use Clocks values place name = use_as.Clocks name
role_use (Takes sort) values place name = use_as.Takes sort name
role_use (Assigns sort) values place name = use_as.Assigns sort name
role_use Chooses values place name =
    use_as.Chooses (name_in (following (place - 2) values)) (bit_in (following (place - 1) values)) name
role_use AssignsAsync values place name =
    use_as.AssignsAsync (name_in (following (place - 1) values)) (bit_in (following (place + 1) values)) name
role_use Starts values place name = use_as.Starts name (index_in (following (place + 1) values))

-- the uses of names in a value; `place` is its index among the values of the item
abbrev pub value_uses : Value → List Value → ℕ → List Use
value_uses (Name role name) values place = role_use role values place name ∷ []
value_uses (AnAtom (atom.Whole name)) values place = use_as.Reads name ∷ []
value_uses (AnAtom (atom.Part name k)) values place = use_as.ReadsBit name k ∷ []
value_uses _ values place = []

-- the uses of names in the last values of an item, which begin at the index `place`
abbrev pub uses_from : List Value → ℕ → List Value → List Use
uses_from values place [] = []
uses_from values place (value ∷ more) = value_uses value values place ++ uses_from values (place + 1) more

-- the uses of names in values, from left to right
abbrev pub uses_in : List Value → List Use
uses_in values = uses_from values 0 values

-- the fault of the first use that isn't allowed
abbrev pub use_fault : Scope → ℕ → List Use → Option Fault
use_fault scope offset [] = None
use_fault scope offset (used ∷ uses) =
    if not (is_known scope used) then Some (fault offset Undeclared)
    else if not (is_first scope used) then Some (fault offset AssignedTwice)
    else use_fault scope offset uses

abbrev pub or_fault : Option Fault → Option Fault → Option Fault
or_fault (Some one) other = Some one
or_fault None other = other

-- the first fault among the last values of an item, which begin at the index `place`
abbrev pub fault_from : Scope → List Value → ℕ → List Found → Option Fault
fault_from scope values place [] = None
fault_from scope values place (one ∷ more) =
    or_fault (use_fault scope one.offset (value_uses one.value values place)) (fault_from scope values (place + 1) more)

-- the first name, from left to right, that isn't declared, isn't what it is used as, or is declared or assigned before
abbrev pub name_fault : Scope → List Found → Option Fault
name_fault scope found = fault_from scope (values_of found) 0 found

-- the fault of an item that fits a form and begins at this offset
abbrev pub item_fault : Scope → ℕ → Item → List Found → Option Fault
item_fault scope offset one found =
    if nat_lt (section_of one) scope.section then Some (fault offset Order) else name_fault scope found

-- ---- a module, part by part

abbrev pub unless_fault : {A : Type 0} → Option Fault → Result A Fault → Result A Fault
unless_fault (Some one) next = Err one
unless_fault None next = next

-- goes on with what was read; if a token didn't fit, it is a syntax fault
abbrev pub after : {A B : Type 0} → Result A ℕ → (A → Result B Fault) → Result B Fault
after (Ok given) next = next given
after (Err stuck) next = Err (fault stuck Syntax)

-- whether each output is assigned
abbrev pub are_assigned : List Port → List Item → Bool
are_assigned ports items = list_all (λ port. not port.output || is_assigned items port.name) ports

-- nothing may follow `endmodule`
abbrev pub at_end : Parts → List Spot → Result Parts Fault
at_end m [] = Ok m
at_end m (first ∷ spots) = Err (fault first.offset Syntax)

-- `endmodule` at this offset
abbrev pub ending : Parts → ℕ → List Spot → Result Parts Fault
ending m offset spots = if are_assigned m.ports m.items then at_end m spots else Err (fault offset Undeclared)

abbrev pub is_end : Form → Bool
is_end form.End = true
is_end _ = false

-- the module as far as it is read
abbrev pub module_of : List ℕ → List Port → List Item → Parts
module_of name ports items = record { name = name; ports = ports; items = items }

abbrev pub with_item : Parts → Item → Parts
with_item m one = module_of m.name m.ports (m.items ++ one ∷ [])

-- what comes of an item that fits a form and begins at this offset; `more` is what comes of the text after it
abbrev pub item_outcome : (Parts → List Spot → Result Parts Fault) → Parts → ℕ → Whole → Result Parts Fault
item_outcome more m offset whole =
    if is_end whole.form then ending m offset whole.spots
    else
    let one = item_of whole.form (values_of whole.found) in
    unless_fault (item_fault (scope_of m.ports m.items) offset one whole.found) (more (with_item m one) whole.spots)

-- Items one after another, at most `most` of them, which are added to the module as far as it is read.
unfoldable pub items_outcome : ℕ → ℕ → Parts → List Spot → Result Parts Fault
items_outcome zero end m spots = Err (fault end Syntax)
items_outcome (suc most) end m spots =
    after (read_forms end [] all_forms spots) (item_outcome (items_outcome most end) m (offset_of end spots))

-- the declarations of the ports, in the order of their names in the header
abbrev pub is_output : Form → Bool
is_output form.Output = true
is_output _ = false

abbrev pub port_of : List ℕ → Bool → Port
port_of name output = record { name = name; output = output }

unfoldable pub ports_outcome : ℕ → List Found → List Port → List Spot → (List Port → List Spot → Result Parts Fault) → Result Parts Fault
ports_outcome end [] ports spots next = next ports spots
ports_outcome end (name ∷ names) ports spots next =
    after (read_forms end (name ∷ []) port_forms spots)
    (λ whole. ports_outcome end names (ports ++ port_of (name_in (name.value ∷ [])) (is_output whole.form) ∷ []) whole.spots next)

-- ---- the header

-- what the list of ports in the header had last
pub data Turn : Type 0 where
  -- `(`: a name or `)` may follow
  Opened : Turn
  -- a name: a comma or `)` may follow
  Named : Turn
  -- a comma: a name may follow
  Parted : Turn

abbrev pub wants_name : Turn → Bool
wants_name Opened = true
wants_name Named = false
wants_name Parted = true

abbrev pub may_close : Turn → Bool
may_close Opened = true
may_close Named = true
may_close Parted = false

-- what a token does in the list of ports
pub data PortStep : Type 0 where
  TakesName : List ℕ → PortStep
  PartsNames : PortStep
  Closes : PortStep
  Stops : PortStep

abbrev pub sign_step : Turn → TokenValue → PortStep
sign_step turn one =
    if is_same_token (token.fixed sign.Comma) one then (if wants_name turn then Stops else PartsNames)
    else if is_same_token (token.fixed sign.CloseParen) one then (if may_close turn then Closes else Stops)
    else Stops

abbrev pub port_step : Turn → TokenValue → PortStep
port_step turn (token.name name) = if wants_name turn then TakesName name else Stops
port_step turn one = sign_step turn one

abbrev pub next_port : PortStep → ℕ → List Found → List Spot → (Turn → List Found → Reading (List Found)) → Reading (List Found)
next_port (TakesName name) offset names spots more = more Named (names ++ found_at offset (Name (Declares sort.Input) name) ∷ [])
next_port PartsNames offset names spots more = more Parted names
next_port Closes offset names spots more = Ok (names, spots)
next_port Stops offset names spots more = Err offset

-- the names in the list of ports, up to `)`
unfoldable pub port_names : ℕ → Turn → List Found → List Spot → Reading (List Found)
port_names end turn names [] = Err end
port_names end turn names (first ∷ spots) =
    next_port (port_step turn first.token) first.offset names spots (λ next found. port_names end next found spots)

-- the first name that is listed twice
abbrev pub twice_fault : List (List ℕ) → List Found → Option Fault
twice_fault before [] = None
twice_fault before (one ∷ names) =
    let name = name_in (one.value ∷ []) in
    if list_any (λ other. bytes_eq other name) before then Some (fault one.offset AssignedTwice)
    else twice_fault (before ++ name ∷ []) names

-- `module NAME (`
abbrev pub header_slots : List Slot
header_slots = slot.Fixed sign.Module ∷ slot.Name (Declares sort.Input) ∷ slot.Fixed sign.OpenParen ∷ []

-- ---- the whole text

-- the header: the module's name, the names of its ports, and the tokens after it
pub record Header : Type 0 where
  pub head : List Found
  pub names : List Found
  pub spots : List Spot

abbrev pub with_semicolon : List Found → List Found → Result (List Spot) ℕ → Result Header ℕ
with_semicolon head names (Ok spots) = Ok (record { head = head; names = names; spots = spots })
with_semicolon head names (Err stuck) = Err stuck

abbrev pub with_names : ℕ → List Found → Reading (List Found) → Result Header ℕ
with_names end head (Ok names) = with_semicolon head names.0 (read_tokens end (token.fixed sign.Semicolon ∷ []) names.1)
with_names end head (Err stuck) = Err stuck

abbrev pub with_head : ℕ → Reading (List Found) → Result Header ℕ
with_head end (Ok head) = with_names end head.0 (port_names end Opened [] head.1)
with_head end (Err stuck) = Err stuck

abbrev pub read_header : ℕ → List Spot → Result Header ℕ
read_header end spots = with_head end (read_slots end header_slots [] spots)

-- what comes of the text after the declarations of the ports
abbrev pub ports_next : ℕ → List ℕ → List Port → List Spot → Result Parts Fault
ports_next end name ports spots = items_outcome (suc (length spots)) end (module_of name ports []) spots

-- what comes of the text after the header
abbrev pub header_outcome : ℕ → Header → Result Parts Fault
header_outcome end header =
    unless_fault (twice_fault [] header.names)
    (ports_outcome end header.names [] header.spots (ports_next end (name_in (values_of header.head))))

-- what comes of the tokens of a text that ends at this offset
unfoldable pub spots_outcome : ℕ → List Spot → Result Parts Fault
spots_outcome end spots = after (read_header end spots) (header_outcome end)

-- the module that a text spells, else its first fault
unfoldable pub outcome_of : List ℕ → Result Parts Fault
outcome_of text = spots_outcome (length text) (spots_of text)

-- the fault of a text, if it spells no module
abbrev pub fault_in : Result Parts Fault → Option Fault
fault_in (Ok m) = None
fault_in (Err one) = Some one

unfoldable pub vlog_fault_of : List ℕ → Option Fault
vlog_fault_of text = fault_in (outcome_of text)
