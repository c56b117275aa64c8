-- The printed text of a well-formed module is a spelling of it.
use Rattle.std.proofs.Common.{◌≡◌, ℕ, ◌+◌, ◌<◌, ◌≤◌, Bool, true, false, List, [], ◌∷◌, ◌++◌, map, reverse, refl, ap, sym, ◌∙◌, subst, append_assoc, arith}
use Rattle.std.proofs.lemmas.List.Elements.{All-head, All-tail}
use Rattle.std.specs.Prelude.{All, flat_map, codes}
use Rattle.vlog_tokens.specs.declared.fixed.Fixed.TheVariants as sign
use Rattle.vlog_tokens.specs.Tokens.{TokenValue, spots_from}
use Rattle.vlog_tokens.specs.Tokens.{TokenValue as token}
use Rattle.vlog_module.specs.Names.{IsName}
use Rattle.vlog_module.specs.declared.atoms.Atom.{Atom}
use Rattle.vlog_module.specs.declared.atoms.Atom.TheVariants as atom
use Rattle.vlog_module.specs.declared.item.Right.TheVariants as right
use Rattle.vlog_module.specs.declared.item.Item.{Item}
use Rattle.vlog_module.specs.declared.item.Item.TheVariants as item
use Rattle.vlog_module.specs.declared.modules.Port.{Port}
use Rattle.vlog_module.specs.declared.sort.Sort.TheVariants as sort
use Rattle.vlog_module.specs.Parts.{Parts}
use Rattle.vlog_module.specs.Uses.{Use, uses_of, used_name}
use Rattle.vlog_module.specs.Uses.Use.{Declares, Reads, ReadsBit, Starts}
use Rattle.vlog_module.specs.WellFormed.{Scope, scope_of, IsInRange, IsShaped, IsAllowed, IsModule}
use Rattle.vlog_forms.specs.declared.form.Form.{Form}
use Rattle.vlog_forms.specs.declared.form.Form.TheVariants as form
use Rattle.vlog_forms.specs.declared.slot.Role.{Role}
use Rattle.vlog_forms.specs.declared.slot.Role.TheVariants as role
use Rattle.vlog_forms.specs.Values.{Value}
use Rattle.vlog_forms.specs.Values.Value.{Name, Edge, Bit, Word, Index, AnAtom}
use Rattle.vlog_forms.specs.Layout.{slots_of}
use Rattle.vlog_forms.specs.Items.{item_form, item_values, item_tokens, atoms_values, port_form, port_tokens, names_tokens, more_names, module_tokens, IsSpelling}
use Rattle.vlog_forms.specs.Outcome.{role_use, uses_from, uses_in}
use Rattle.vlog_forms.specs.Printed.{written, line_of, item_line, port_line, names_text, more_names_text, printed}
use Rattle.vlog_forms.proofs.Plain.{plain, plain-blank, plain-front, closes, fixed-front, name-front}
use Rattle.vlog_forms.proofs.SlotLists.{FitAll, are_before}
use Rattle.vlog_forms.proofs.Forms.{form-sound}
use Rattle.vlog_forms.proofs.Uses.{uses-of-values}
use Rattle.vlog_forms.proofs.ItemRead.{item-fits, form-is, none-given}
use Rattle.vlog_forms.proofs.ItemsRead.{item-ranged, MayFollow}
use Rattle.vlog_forms.proofs.Spelled.{may-follow}
use Rattle.vlog_forms.proofs.WrittenSlots.{are_shut, AreWritable, plain-written}

-- ---- the values of an item can be written

-- words and indices are small
abbrev AreNumbers : List Value → Type 0
AreNumbers [] = Unit {0}
AreNumbers (Word word ∷ values) = (word < 65536) × AreNumbers values
AreNumbers (Index k ∷ values) = (k < 1000) × AreNumbers values
AreNumbers (value ∷ values) = AreNumbers values

abbrev HasName : Use → Type 0
HasName used = IsName (used_name used)

role-name : (one : Role) (all : List Value) (place : ℕ) (name : List ℕ) → HasName (role_use one all place name) → IsName name
role-name (role.Declares sort) all place name named = named
role-name role.Reads all place name named = named
role-name role.ReadsBit all place name named = named
role-name role.Clocks all place name named = named
role-name (role.Takes sort) all place name named = named
role-name (role.Assigns sort) all place name named = named
role-name role.Chooses all place name named = named
role-name role.AssignsAsync all place name named = named
role-name role.Starts all place name named = named

writable : (all : List Value) (place : ℕ) (values : List Value) → All HasName (uses_from all place values) → All IsInRange (uses_from all place values) → AreNumbers values → AreWritable values
writable all place [] named ranged small = tt
writable all place (Name one name ∷ values) named ranged small =
    let used : Use = role_use one all place name in
    let more : List Use = uses_from all (place + 1) values in (
      role-name one all place name (All-head HasName used more named),
      writable all (place + 1) values (All-tail HasName used more named) (All-tail IsInRange used more ranged) small,
    )
writable all place (Edge falling ∷ values) named ranged small = (tt, writable all (place + 1) values named ranged small)
writable all place (Bit bit ∷ values) named ranged small = (tt, writable all (place + 1) values named ranged small)
writable all place (Word word ∷ values) named ranged small = (small.0, writable all (place + 1) values named ranged small.1)
writable all place (Index k ∷ values) named ranged small = (small.0, writable all (place + 1) values named ranged small.1)
writable all place (AnAtom (atom.Bit bit) ∷ values) named ranged small = (tt, writable all (place + 1) values named ranged small)
writable all place (AnAtom (atom.Whole name) ∷ values) named ranged small =
    let more : List Use = uses_from all (place + 1) values in (
      All-head HasName (Reads name) more named,
      writable all (place + 1) values (All-tail HasName (Reads name) more named) (All-tail IsInRange (Reads name) more ranged) small,
    )
writable all place (AnAtom (atom.Part name k) ∷ values) named ranged small =
    let more : List Use = uses_from all (place + 1) values in
    let bound : k ≤ 15 = All-head IsInRange (ReadsBit name k) more ranged in (
      (All-head HasName (ReadsBit name k) more named, omega arith),
      writable all (place + 1) values (All-tail HasName (ReadsBit name k) more named) (All-tail IsInRange (ReadsBit name k) more ranged) small,
    )

atoms-numbers : (list : List Atom) (values : List Value) → AreNumbers values → AreNumbers (map AnAtom list ++ values)
atoms-numbers [] values small = small
atoms-numbers (one ∷ list) values small = atoms-numbers list values small

atoms-alone : (list : List Atom) → AreNumbers (map AnAtom list)
atoms-alone [] = tt
atoms-alone (one ∷ list) = atoms-alone list

item-numbers : (one : Item) → IsShaped one → All IsInRange (uses_of one) → AreNumbers (item_values one)
item-numbers (item.Register name start) shaped ranged = tt
item-numbers (item.Word name start) shaped ranged = (shaped, tt)
item-numbers (item.Memory name) shaped ranged = tt
item-numbers (item.Wire name (right.Bit bit)) shaped ranged = tt
item-numbers (item.Wire name (right.Whole source)) shaped ranged = tt
item-numbers (item.Wire name (right.Part source k)) shaped ranged =
    let bound : k ≤ 15 = All-head IsInRange (ReadsBit source k) [] (All-tail IsInRange (Declares sort.Wire name) (ReadsBit source k ∷ []) ranged) in
    (omega arith, tt)
item-numbers (item.Wire name (right.Lut lut)) shaped ranged = (shaped.0, atoms-alone (reverse lut.ins))
item-numbers (item.Wire name (right.Majority a b c)) shaped ranged = tt
item-numbers (item.Wire name (right.Choose reset set target)) shaped ranged = tt
item-numbers (item.Assign name value) shaped ranged = tt
item-numbers (item.FlipFlop falling clock enable reset set target lut) shaped ranged = (shaped.0, atoms-alone (reverse lut.ins))
item-numbers (item.AsyncFlipFlop falling clock reset set target enable lut) shaped ranged = (shaped.0, atoms-alone (reverse lut.ins))
item-numbers (item.AsyncReset reset set target) shaped ranged = tt
item-numbers (item.Read falling clock clock_enable enable target memory address) shaped ranged = atoms-alone (reverse address)
item-numbers (item.ReadNarrow falling clock clock_enable enable target memory address shift pattern) shaped ranged =
    atoms-numbers (reverse address) (atoms_values shift ++ Word pattern ∷ []) (atoms-numbers (reverse shift) (Word pattern ∷ []) (shaped.2, tt))
item-numbers (item.Write falling clock clock_enable enable memory address mask bits) shaped ranged =
    atoms-numbers (reverse address) (atoms_values mask ++ atoms_values bits) (atoms-numbers (reverse mask) (atoms_values bits) (atoms-alone (reverse bits)))
item-numbers (item.WriteNarrow falling clock clock_enable enable memory address pattern shift bits) shaped ranged =
    atoms-numbers (reverse address) (Word pattern ∷ (atoms_values shift ++ atoms_values bits))
    (shaped.1, atoms-numbers (reverse shift) (atoms_values bits) (atoms-alone (reverse bits)))
item-numbers (item.Start memory k word) shaped ranged =
    let bound : k ≤ 255 = All-head IsInRange (Starts memory k) [] ranged in
    (omega arith, (shaped, tt))

form-shut : (one : Form) → are_shut (slots_of one) ≡ true
unfolding are_shut slots_of
form-shut form.Input = refl
form-shut form.Output = refl
form-shut form.Register = refl
form-shut form.Word = refl
form-shut form.Memory = refl
form-shut form.WireBit = refl
form-shut form.WireWhole = refl
form-shut form.WirePart = refl
form-shut form.WireLut = refl
form-shut form.WireMajority = refl
form-shut form.WireChoose = refl
form-shut form.Assign = refl
form-shut form.FlipFlop = refl
form-shut form.AsyncFlipFlop = refl
form-shut form.AsyncReset = refl
form-shut form.Read = refl
form-shut form.ReadNarrow = refl
form-shut form.Write = refl
form-shut form.WriteNarrow = refl
form-shut form.Start = refl
form-shut form.End = refl

-- ---- lines

-- a line of slots and values
line-plain : (text rest : List ℕ) (tokens : List TokenValue) → plain (text ++ 10 ∷ rest) ≡ tokens ++ plain (10 ∷ rest) → plain (line_of text ++ rest) ≡ tokens ++ plain rest
line-plain text rest tokens is =
    let regroup : (text ++ 10 ∷ []) ++ rest ≡ text ++ 10 ∷ rest = append_assoc text (10 ∷ []) rest in
    plain-blank 32 (32 ∷ ((text ++ 10 ∷ []) ++ rest)) refl ∙ plain-blank 32 ((text ++ 10 ∷ []) ++ rest) refl
    ∙ ap plain regroup ∙ is ∙ ap (λ more. tokens ++ more) (plain-blank 10 rest refl)

item-plain : (scope : Scope) (one : Item) (rest : List ℕ) → IsAllowed scope one → plain (item_line one ++ rest) ≡ item_tokens one ++ plain rest
item-plain scope one rest allowed =
    let form : Form = item_form one in
    let uses = uses-of-values one in
    let named : All HasName (uses_in (item_values one)) = subst (All HasName) (sym uses) allowed.named in
    let ranged : All IsInRange (uses_in (item_values one)) = subst (All IsInRange) (sym uses) allowed.in_range in
    let before : are_before 0 (slots_of form) ≡ true = ap (λ n. are_before n (slots_of form)) (sym (none-given form (form-is one))) ∙ (form-sound form).before in
    line-plain (written (slots_of form) [] (item_values one)) rest (item_tokens one)
    (plain-written (slots_of form) [] (item_values one) (10 ∷ rest) (form-shut form) before tt
    (writable (item_values one) 0 (item_values one) named ranged (item-numbers one allowed.shaped allowed.in_range))
    (item-fits one allowed.shaped (item-ranged one allowed.in_range)) refl)

items-plain : (ports : List Port) (before items : List Item) (rest : List ℕ) → MayFollow ports before items → plain (flat_map item_line items ++ rest) ≡ flat_map item_tokens items ++ plain rest
unfolding MayFollow
items-plain ports before [] rest follow = refl
items-plain ports before (one ∷ items) rest follow =
    ap plain (append_assoc (item_line one) (flat_map item_line items) rest)
    ∙ item-plain (scope_of ports before) one (flat_map item_line items ++ rest) follow.0
    ∙ ap (λ more. item_tokens one ++ more) (items-plain ports (before ++ one ∷ []) items rest follow.1)
    ∙ sym (append_assoc (item_tokens one) (flat_map item_tokens items) (plain rest))

port-fits : (output : Bool) → FitAll (slots_of (port_form output)) []
unfolding FitAll slots_of
port-fits true = (tt, (tt, (tt, (tt, tt))))
port-fits false = (tt, (tt, (tt, (tt, tt))))

port-before : (output : Bool) → are_before 1 (slots_of (port_form output)) ≡ true
port-before true = (form-sound form.Output).before
port-before false = (form-sound form.Input).before

port-plain : (port : Port) (rest : List ℕ) → IsName port.name → plain (port_line port ++ rest) ≡ port_tokens port ++ plain rest
port-plain port rest named =
    line-plain (written (slots_of (port_form port.output)) (Name (role.Declares sort.Input) port.name ∷ []) []) rest (port_tokens port)
    (plain-written (slots_of (port_form port.output)) (Name (role.Declares sort.Input) port.name ∷ []) [] (10 ∷ rest)
    (form-shut (port_form port.output)) (port-before port.output) (named, tt) tt (port-fits port.output) refl)

ports-plain : (ports : List Port) (rest : List ℕ) → All (λ port. IsName port.name) ports → plain (flat_map port_line ports ++ rest) ≡ flat_map port_tokens ports ++ plain rest
ports-plain [] rest named = refl
ports-plain (port ∷ ports) rest named =
    ap plain (append_assoc (port_line port) (flat_map port_line ports) rest)
    ∙ port-plain port (flat_map port_line ports ++ rest) (All-head (λ each. IsName each.name) port ports named)
    ∙ ap (λ more. port_tokens port ++ more) (ports-plain ports rest (All-tail (λ each. IsName each.name) port ports named))
    ∙ sym (append_assoc (port_tokens port) (flat_map port_tokens ports) (plain rest))

-- ---- the header

more-closes : (ports : List Port) (rest : List ℕ) → closes rest ≡ true → closes (more_names_text ports ++ rest) ≡ true
more-closes [] rest shut = shut
more-closes (port ∷ ports) rest shut = refl

more-plain : (ports : List Port) (rest : List ℕ) → All (λ port. IsName port.name) ports → closes rest ≡ true → plain (more_names_text ports ++ rest) ≡ more_names ports ++ plain rest
more-plain [] rest named shut = refl
more-plain (port ∷ ports) rest named shut =
    let following : List ℕ = more_names_text ports ++ rest in
    let comma : plain (44 ∷ 32 ∷ ((port.name ++ more_names_text ports) ++ rest)) ≡ token.fixed sign.Comma ∷ plain (32 ∷ ((port.name ++ more_names_text ports) ++ rest))
    = plain-front (44 ∷ []) (32 ∷ ((port.name ++ more_names_text ports) ++ rest)) (token.fixed sign.Comma) (fixed-front sign.Comma (32 ∷ ((port.name ++ more_names_text ports) ++ rest)) (λ h. absurd cc)) in
    let name : plain (port.name ++ following) ≡ token.name port.name ∷ plain following
    = plain-front port.name following (token.name port.name) (name-front port.name following (All-head (λ each. IsName each.name) port ports named) (more-closes ports rest shut)) in
    comma ∙ ap (λ more. token.fixed sign.Comma ∷ more)
    (plain-blank 32 ((port.name ++ more_names_text ports) ++ rest) refl ∙ ap plain (append_assoc port.name (more_names_text ports) rest) ∙ name
    ∙ ap (λ more. token.name port.name ∷ more) (more-plain ports rest (All-tail (λ each. IsName each.name) port ports named) shut))

names-plain : (ports : List Port) (rest : List ℕ) → All (λ port. IsName port.name) ports → closes rest ≡ true → plain (names_text ports ++ rest) ≡ names_tokens ports ++ plain rest
names-plain [] rest named shut = refl
names-plain (port ∷ ports) rest named shut =
    let following : List ℕ = more_names_text ports ++ rest in
    ap plain (append_assoc port.name (more_names_text ports) rest)
    ∙ plain-front port.name following (token.name port.name) (name-front port.name following (All-head (λ each. IsName each.name) port ports named) (more-closes ports rest shut))
    ∙ ap (λ more. token.name port.name ∷ more) (more-plain ports rest (All-tail (λ each. IsName each.name) port ports named) shut)

last-plain : plain (codes "endmodule\n") ≡ token.fixed sign.Endmodule ∷ []
unfolding spots_from
last-plain =
    plain-front (codes "endmodule") (10 ∷ []) (token.fixed sign.Endmodule) (fixed-front sign.Endmodule (10 ∷ []) (λ h. refl))
    ∙ ap (λ more. token.fixed sign.Endmodule ∷ more) (plain-blank 10 [] refl)

printed-plain : (m : Parts) → IsModule m → plain (printed m) ≡ module_tokens m
unfolding printed module_tokens
printed-plain m well =
    let items : List ℕ = flat_map item_line m.items ++ codes "endmodule\n" in
    let ports : List ℕ = flat_map port_line m.ports ++ items in
    let following : List ℕ = names_text m.ports ++ (codes ");\n" ++ ports) in
    let last : List TokenValue = flat_map item_tokens m.items ++ token.fixed sign.Endmodule ∷ [] in
    let body : List TokenValue = flat_map port_tokens m.ports ++ last in
    let first : plain (codes "module " ++ (m.name ++ (codes " (" ++ following))) ≡ token.fixed sign.Module ∷ plain (m.name ++ (codes " (" ++ following))
    = plain-front (codes "module") (32 ∷ (m.name ++ (codes " (" ++ following))) (token.fixed sign.Module) (fixed-front sign.Module (32 ∷ (m.name ++ (codes " (" ++ following))) (λ h. refl))
    ∙ ap (λ more. token.fixed sign.Module ∷ more) (plain-blank 32 (m.name ++ (codes " (" ++ following)) refl) in
    let name : plain (m.name ++ (codes " (" ++ following)) ≡ token.name m.name ∷ plain (40 ∷ following)
    = plain-front m.name (codes " (" ++ following) (token.name m.name) (name-front m.name (codes " (" ++ following) well.named refl)
    ∙ ap (λ more. token.name m.name ∷ more) (plain-blank 32 (40 ∷ following) refl) in
    let open_sign : plain (40 ∷ following) ≡ token.fixed sign.OpenParen ∷ plain following
    = plain-front (40 ∷ []) following (token.fixed sign.OpenParen) (fixed-front sign.OpenParen following (λ h. absurd cc)) in
    let names : plain following ≡ names_tokens m.ports ++ plain (codes ");\n" ++ ports) = names-plain m.ports (codes ");\n" ++ ports) well.begun.named refl in
    let close : plain (codes ");\n" ++ ports) ≡ token.fixed sign.CloseParen ∷ plain (59 ∷ 10 ∷ ports)
    = plain-front (41 ∷ []) (59 ∷ 10 ∷ ports) (token.fixed sign.CloseParen) (fixed-front sign.CloseParen (59 ∷ 10 ∷ ports) (λ h. absurd cc)) in
    let semicolon : plain (59 ∷ 10 ∷ ports) ≡ token.fixed sign.Semicolon ∷ plain ports
    = plain-front (59 ∷ []) (10 ∷ ports) (token.fixed sign.Semicolon) (fixed-front sign.Semicolon (10 ∷ ports) (λ h. absurd cc))
    ∙ ap (λ more. token.fixed sign.Semicolon ∷ more) (plain-blank 10 ports refl) in
    let follow : MayFollow m.ports [] m.items = may-follow m.ports [] m.items well.begun.allowed in
    let rest : plain ports ≡ body
    = ports-plain m.ports items well.begun.named
    ∙ ap (λ more. flat_map port_tokens m.ports ++ more) (items-plain m.ports [] m.items (codes "endmodule\n") follow ∙ ap (λ more. flat_map item_tokens m.items ++ more) last-plain) in
    let tail : plain (codes ");\n" ++ ports) ≡ token.fixed sign.CloseParen ∷ token.fixed sign.Semicolon ∷ body
    = close ∙ ap (λ more. token.fixed sign.CloseParen ∷ more) (semicolon ∙ ap (λ more. token.fixed sign.Semicolon ∷ more) rest) in
    first ∙ ap (λ more. token.fixed sign.Module ∷ more) (name ∙ ap (λ more. token.name m.name ∷ more) (open_sign ∙ ap (λ more. token.fixed sign.OpenParen ∷ more)
    (names ∙ ap (λ more. names_tokens m.ports ++ more) tail
    ∙ sym (append_assoc (names_tokens m.ports) (token.fixed sign.CloseParen ∷ token.fixed sign.Semicolon ∷ []) body))))

-- what is printed of a well-formed module spells it
pub printed-spells : (m : Parts) → IsModule m → IsSpelling (printed m) m
printed-spells m well = record { tokens = printed-plain m well; well_formed = well }
