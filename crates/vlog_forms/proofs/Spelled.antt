-- A text that spells a module has that module for its outcome.
use Rattle.std.proofs.Common.{◌≡◌, ℕ, suc, ◌<◌, ◌≤◌, ◌+◌, Bool, true, false, not, ◌||◌, ◌&&◌, List, [], ◌∷◌, ◌++◌, length, take, drop, refl, ap, sym, ◌∙◌, subst, append_assoc, arith}
use Rattle.std.proofs.lemmas.List.{length-append, length-map, take_at}
use Rattle.std.proofs.lemmas.List.Elements.{All-head, All-tail}
use Rattle.std.specs.Prelude.{Ok, Some, None, flat_map, slice_get, All, IsTrue}
use Rattle.vlog_tokens.specs.declared.fixed.Fixed.{Fixed}
use Rattle.vlog_tokens.specs.declared.fixed.Fixed.TheVariants as sign
use Rattle.vlog_tokens.specs.Tokens.{TokenValue, Spot, spots_of}
use Rattle.vlog_tokens.specs.Tokens.{TokenValue as token}
use Rattle.vlog_module.specs.declared.sort.Sort.TheVariants as sort
use Rattle.vlog_module.specs.declared.item.Item.{Item}
use Rattle.vlog_module.specs.declared.modules.Port.{Port}
use Rattle.vlog_module.specs.Parts.{Parts}
use Rattle.vlog_module.specs.WellFormed.{scope_of, is_assigned, IsAllowed, IsModule}
use Rattle.vlog_forms.specs.declared.form.Form.{Form}
use Rattle.vlog_forms.specs.declared.form.Form.TheVariants as form
use Rattle.vlog_forms.specs.declared.slot.Role.TheVariants.{Declares}
use Rattle.vlog_forms.specs.declared.slot.Slot.{Slot}
use Rattle.vlog_forms.specs.declared.slot.Slot.TheVariants as slot
use Rattle.vlog_forms.specs.Values.{Value}
use Rattle.vlog_forms.specs.Values.Value.{Name}
use Rattle.vlog_forms.specs.Layout.{slots_of, filled}
use Rattle.vlog_forms.specs.Items.{item_form, item_values, item_tokens, port_tokens, names_tokens, module_tokens, tokens_in, name_in, IsSpelling}
use Rattle.vlog_forms.specs.Reading.{values_of, read_slots}
use Rattle.vlog_forms.specs.Outcome.{after, unless_fault, are_assigned, module_of, items_outcome, ports_outcome, twice_fault, header_slots, with_head, with_names, with_semicolon, ports_next, header_outcome, spots_outcome, outcome_of, vlog_fault_of, fault_in}
use Rattle.vlog_forms.proofs.Exact.{read_tokens-exact}
use Rattle.vlog_forms.proofs.SlotLists.{filled-passed, FitAll, SlotsRead, slots-read, are_closed, is_closed, are_before}
use Rattle.vlog_forms.proofs.ItemsRead.{MayFollow, items-spelled}
use Rattle.vlog_forms.proofs.HeaderRead.{ports-spelled, names-read, none-twice, apart-ports}

-- `module NAME (` is read
head-read : (end : ℕ) (name : List ℕ) (spots : List Spot) (tail : List TokenValue) → tokens_in spots ≡ token.fixed sign.Module ∷ token.name name ∷ token.fixed sign.OpenParen ∷ tail
    → SlotsRead (read_slots end header_slots [] spots) [] (Name (Declares sort.Input) name ∷ []) tail
unfolding FitAll filled are_closed is_closed are_before
head-read end name spots tail stands =
    slots-read end header_slots [] (Name (Declares sort.Input) name ∷ []) spots tail (record { closed = refl; before = refl }) (tt, (refl, (tt, tt))) stands

-- each item may follow those before it
pub may-follow : (ports : List Port) (before items : List Item)
    → ((i : ℕ) (one : Item) → slice_get (before ++ items) i ≡ Some one → IsAllowed (scope_of ports (take i (before ++ items))) one) → MayFollow ports before items
unfolding MayFollow
may-follow ports before [] allowed = tt
may-follow ports before (one ∷ items) allowed =
    let here : slice_get (before ++ one ∷ items) (length before) ≡ Some one = at_push before one items in
    let front : take (length before) (before ++ one ∷ items) ≡ before = take_at before (one ∷ items) (length before) refl in
    let regroup : (before ++ one ∷ []) ++ items ≡ before ++ one ∷ items = append_assoc before (one ∷ []) items in (
      subst (λ (list : List Item). IsAllowed (scope_of ports list) one) front (allowed (length before) one here),
      may-follow ports (before ++ one ∷ []) items
          (λ i each is. subst (λ (list : List Item). IsAllowed (scope_of ports (take i list)) each) (sym regroup) (allowed i each (ap (λ list. slice_get list i) (sym regroup) ∙ is))),
    )
  where
    at_push : (before : List Item) (one : Item) (items : List Item) → slice_get (before ++ one ∷ items) (length before) ≡ Some one
    at_push [] one items = refl
    at_push (first ∷ before) one items = at_push before one items

-- every output of a complete module is assigned
assigned : (ports all : List Port) (items : List Item) → All (λ port. IsTrue port.output → IsTrue (is_assigned items port.name)) ports → are_assigned ports items ≡ true
assigned [] all items complete = refl
assigned (port ∷ ports) all items complete =
    both (not port.output || is_assigned items port.name) (are_assigned ports items)
    (step port.output (is_assigned items port.name) (All-head (λ each. IsTrue each.output → IsTrue (is_assigned items each.name)) port ports complete))
    (assigned ports all items (All-tail (λ each. IsTrue each.output → IsTrue (is_assigned items each.name)) port ports complete))
  where
    step : (a b : Bool) → (a ≡ true → b ≡ true) → (not a || b) ≡ true
    step true b h = h refl
    step false b h = refl

    both : (a b : Bool) → a ≡ true → b ≡ true → (a && b) ≡ true
    both true b h k = k
    both false b h k = absurd cc

-- an item has a token at least
fixed-some : (fixed : Fixed) (slots : List Slot) (before after : List Value) → 0 < length (filled (slot.Fixed fixed ∷ slots) before after)
fixed-some fixed slots before after =
    let made : filled (slot.Fixed fixed ∷ slots) before after ≡ token.fixed fixed ∷ filled slots before after = filled-passed (slot.Fixed fixed) slots before after refl in
    omega (arith, ap length made)

pub form-some : (one : Form) (values : List Value) → 0 < length (filled (slots_of one) [] values)
unfolding slots_of
form-some form.Input values = fixed-some sign.Input (drop 1 (slots_of form.Input)) [] values
form-some form.Output values = fixed-some sign.Output (drop 1 (slots_of form.Output)) [] values
form-some form.Register values = fixed-some sign.Reg (drop 1 (slots_of form.Register)) [] values
form-some form.Word values = fixed-some sign.Reg (drop 1 (slots_of form.Word)) [] values
form-some form.Memory values = fixed-some sign.Reg (drop 1 (slots_of form.Memory)) [] values
form-some form.WireBit values = fixed-some sign.Wire (drop 1 (slots_of form.WireBit)) [] values
form-some form.WireWhole values = fixed-some sign.Wire (drop 1 (slots_of form.WireWhole)) [] values
form-some form.WirePart values = fixed-some sign.Wire (drop 1 (slots_of form.WirePart)) [] values
form-some form.WireLut values = fixed-some sign.Wire (drop 1 (slots_of form.WireLut)) [] values
form-some form.WireMajority values = fixed-some sign.Wire (drop 1 (slots_of form.WireMajority)) [] values
form-some form.WireChoose values = fixed-some sign.Wire (drop 1 (slots_of form.WireChoose)) [] values
form-some form.Assign values = fixed-some sign.Assign (drop 1 (slots_of form.Assign)) [] values
form-some form.FlipFlop values = fixed-some sign.Always (drop 1 (slots_of form.FlipFlop)) [] values
form-some form.AsyncFlipFlop values = fixed-some sign.Always (drop 1 (slots_of form.AsyncFlipFlop)) [] values
form-some form.AsyncReset values = fixed-some sign.Always (drop 1 (slots_of form.AsyncReset)) [] values
form-some form.Read values = fixed-some sign.Always (drop 1 (slots_of form.Read)) [] values
form-some form.ReadNarrow values = fixed-some sign.Always (drop 1 (slots_of form.ReadNarrow)) [] values
form-some form.Write values = fixed-some sign.Always (drop 1 (slots_of form.Write)) [] values
form-some form.WriteNarrow values = fixed-some sign.Always (drop 1 (slots_of form.WriteNarrow)) [] values
form-some form.Start values = fixed-some sign.Initial (drop 1 (slots_of form.Start)) [] values
form-some form.End values = fixed-some sign.Endmodule (drop 1 (slots_of form.End)) [] values

items-some : (items : List Item) → length items ≤ length (flat_map item_tokens items)
items-some [] = omega arith
items-some (one ∷ items) =
    omega (arith, length-append (item_tokens one) (flat_map item_tokens items), form-some (item_form one) (item_values one), items-some items)

-- the tokens of a module are its outcome
spots-spelled : (end : ℕ) (m : Parts) (spots : List Spot) → tokens_in spots ≡ module_tokens m → IsModule m → spots_outcome end spots ≡ Ok m
unfolding spots_outcome module_tokens
spots-spelled end m spots stands well =
    let last : List TokenValue = flat_map item_tokens m.items ++ token.fixed sign.Endmodule ∷ [] in
    let body : List TokenValue = flat_map port_tokens m.ports ++ last in
    let following : List TokenValue = names_tokens m.ports ++ token.fixed sign.CloseParen ∷ token.fixed sign.Semicolon ∷ body in
    let there : tokens_in spots ≡ token.fixed sign.Module ∷ token.name m.name ∷ token.fixed sign.OpenParen ∷ following
    = stands ∙ ap (λ more. token.fixed sign.Module ∷ token.name m.name ∷ token.fixed sign.OpenParen ∷ more)
    (append_assoc (names_tokens m.ports) (token.fixed sign.CloseParen ∷ token.fixed sign.Semicolon ∷ []) body) in
    let head = head-read end m.name spots following there in
    let names = names-read end m.ports head.rest (token.fixed sign.Semicolon ∷ body) head.left in
    let semicolon = read_tokens-exact end (token.fixed sign.Semicolon ∷ []) names.rest body (tt, tt) names.left in
    let alone : twice_fault [] names.names ≡ None = none-twice [] names.names m.ports names.are (apart-ports m.ports well.begun.apart) in
    let named : name_in (values_of head.given) ≡ m.name = ap name_in head.is in
    let ports = ports-spelled end names.names [] m.ports semicolon.0 last (ports_next end (name_in (values_of head.given))) names.are semicolon.2 in
    let rest : List Spot = ports.0 in
    let count : length (tokens_in rest) ≡ length rest = length-map rest (λ (each : Spot). each.token) in
    let all : length (tokens_in rest) ≡ length (flat_map item_tokens m.items) + 1
    = ap length ports.2 ∙ length-append (flat_map item_tokens m.items) (token.fixed sign.Endmodule ∷ []) in
    let enough : length m.items < suc (length rest) = omega (arith, items-some m.items, count, all) in
    let follow : MayFollow m.ports [] m.items = may-follow m.ports [] m.items well.begun.allowed in
    let done : are_assigned m.ports m.items ≡ true = assigned m.ports m.ports m.items well.complete in
    let ends : items_outcome (suc (length rest)) end (module_of m.name m.ports []) rest ≡ Ok (module_of m.name m.ports m.items)
    = items-spelled (suc (length rest)) end m.name m.ports [] m.items rest enough follow done ports.2 in
    ap (λ reading. after (with_head end reading) (header_outcome end)) head.reads
    ∙ ap (λ reading. after (with_names end head.given reading) (header_outcome end)) names.reads
    ∙ ap (λ reading. after (with_semicolon head.given names.names reading) (header_outcome end)) semicolon.1
    ∙ ap (λ one. unless_fault one (ports_outcome end names.names [] semicolon.0 (ports_next end (name_in (values_of head.given))))) alone
    ∙ ports.1
    ∙ ap (λ name. ports_next end name m.ports rest) named
    ∙ ends

pub outcome-spelled : (text : List ℕ) (m : Parts) → IsSpelling text m → outcome_of text ≡ Ok m
unfolding outcome_of
outcome-spelled text m spells = spots-spelled (length text) m (spots_of text) spells.tokens spells.well_formed

-- no text spells two modules
pub one-module : (text : List ℕ) (m n : Parts) → IsSpelling text m → IsSpelling text n → m ≡ n
one-module text m n first second = let same : Ok m ≡ Ok n = sym (outcome-spelled text m first) ∙ outcome-spelled text n second in cc

-- nor is a spelling faulty
pub no-fault : (text : List ℕ) (m : Parts) → IsSpelling text m → vlog_fault_of text ≡ None
unfolding vlog_fault_of
no-fault text m spells = ap fault_in (outcome-spelled text m spells)
