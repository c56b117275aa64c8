-- The printed text of a module.
use Rattle.std.specs.Prelude.{ℕ, ◌+◌, ◌/◌, ◌%◌, nat_lt, Bool, true, false, List, [], ◌∷◌, ◌++◌, flat_map, codes, if◌then◌else◌}
use Rattle.vlog_tokens.specs.Fixed.{fixed_text}
use Rattle.vlog_tokens.specs.Tokens.{TokenValue}
use Rattle.vlog_tokens.specs.Tokens.{TokenValue as token}
use Rattle.vlog_module.specs.declared.sort.Sort.TheVariants as sort
use Rattle.vlog_module.specs.declared.item.Item.{Item}
use Rattle.vlog_module.specs.declared.modules.Port.{Port}
use Rattle.vlog_module.specs.Parts.{Parts}
use Rattle.vlog_forms.specs.declared.slot.Role.TheVariants.{Declares}
use Rattle.vlog_forms.specs.declared.slot.Slot.{Slot}
use Rattle.vlog_forms.specs.declared.slot.Slot.TheVariants as slot
use Rattle.vlog_forms.specs.Values.{Value}
use Rattle.vlog_forms.specs.Values.Value.{Name}
use Rattle.vlog_forms.specs.Layout.{slots_of, slot_tokens, passed_by, left_by}
use Rattle.vlog_forms.specs.Items.{item_form, item_values, port_form}

-- a number below 1,000 in decimal digits
abbrev pub decimal_text : ℕ → List ℕ
decimal_text n =
    if nat_lt n 10 then (48 + n) ∷ []
    else if nat_lt n 100 then (48 + n / 10) ∷ (48 + n % 10) ∷ []
    else (48 + n / 100) ∷ (48 + n / 10 % 10) ∷ (48 + n % 10) ∷ []

-- a hexadecimal digit in lower case
abbrev pub hex_digit : ℕ → ℕ
hex_digit n = if nat_lt n 10 then 48 + n else 87 + n

-- a word in four hexadecimal digits
abbrev pub word_text : ℕ → List ℕ
word_text n =
    codes "16'h" ++ hex_digit (n / 4096) ∷ hex_digit (n / 256 % 16) ∷ hex_digit (n / 16 % 16) ∷ hex_digit (n % 16) ∷ []

abbrev pub bit_text : Bool → List ℕ
bit_text true = codes "1'b1"
bit_text false = codes "1'b0"

-- how a token is written
abbrev pub token_text : TokenValue → List ℕ
token_text (token.fixed fixed) = fixed_text fixed
token_text (token.name name) = name
token_text (token.bit bit) = bit_text bit
token_text (token.word word) = word_text word
token_text (token.number number) = decimal_text number
token_text token.stray = []

-- a space is printed; it is no token
abbrev pub space_text : Slot → List ℕ
space_text slot.Space = 32 ∷ []
space_text _ = []

-- how tokens are printed
abbrev pub tokens_text : List TokenValue → List ℕ
tokens_text tokens = flat_map token_text tokens

-- how a slot is printed
abbrev pub slot_text : List Value → List Value → Slot → List ℕ
slot_text before after one = space_text one ++ tokens_text (slot_tokens before after one)

-- how slots are printed that are filled with the values `after`; the values `before` filled earlier slots
unfoldable pub written : List Slot → List Value → List Value → List ℕ
written [] before after = []
written (one ∷ slots) before after =
    slot_text before after one ++ written slots (passed_by one before after) (left_by one after)

-- a line that is indented by two spaces
abbrev pub line_of : List ℕ → List ℕ
line_of text = 32 ∷ 32 ∷ (text ++ 10 ∷ [])

abbrev pub item_line : Item → List ℕ
item_line one = line_of (written (slots_of (item_form one)) [] (item_values one))

abbrev pub port_line : Port → List ℕ
port_line port = line_of (written (slots_of (port_form port.output)) (Name (Declares sort.Input) port.name ∷ []) [])

-- a name after a comma and a space
abbrev pub next_name : Port → List ℕ
next_name port = 44 ∷ 32 ∷ port.name

-- further names, each after a comma and a space
abbrev pub more_names_text : List Port → List ℕ
more_names_text ports = flat_map next_name ports

abbrev pub names_text : List Port → List ℕ
names_text [] = []
names_text (port ∷ ports) = port.name ++ more_names_text ports

-- the text of a module
unfoldable pub printed : Parts → List ℕ
printed m =
    codes "module " ++ (m.name ++ (codes " (" ++ (names_text m.ports ++ (codes ");\n" ++ (flat_map port_line m.ports
    ++ (flat_map item_line m.items ++ codes "endmodule\n"))))))
